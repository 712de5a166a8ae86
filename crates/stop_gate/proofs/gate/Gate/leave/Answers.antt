use Rattle.std.proofs.Common.{ap, subst, ◌∙◌, ◌<◌, length}
use Rattle.stop_gate.specs.Gates.{Gated, left, aways}
use Rattle.stop_gate.proofs.Counts.{leaving_adds}
use Rattle.stop_gate.proofs.gate.Gate.leave.Goals as goal

pub returns-clause-more : goal.returns-clause-more
returns-clause-more c =
    let room = subst (λ (v : Gated). c.args.h < length v.away) c.self.view_is (rw c.self.invariant c.requires.hart) in
    ap (λ v. aways (left c.args.h v)) c.self.view_is ∙ leaving_adds c.args.self.now c.args.h room c.requires.here
