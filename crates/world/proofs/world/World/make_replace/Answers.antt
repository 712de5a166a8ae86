use Rattle.std.proofs.Common.{sym, ap, ◌∙◌}
use Rattle.std.specs.Prelude.{is_some}
use Rattle.world.proofs.Replacement.{refused_attempt}
use Rattle.world.proofs.world.World.make_replace.Goals as goal

pub returns-in-Err : goal.returns-in-Err
returns-in-Err c =
    refused_attempt c.args.plan.now c.args.self.now c.refuse.new.self _ c.in-Err.why c.refuse.result
    (sym (ap is_some c.outcome.ensures) ∙ sym c.is_some.ensures ∙ c.if-is_some.false) c.in-Err.ensures.refused c.refuse.ensures
