use Rattle.std.proofs.Common.{◌∙◌, ◌<◌, length, sym, subst}
use Rattle.world.specs.Worlds.{Replaced}
use Rattle.world.proofs.Moving.{layout_made, taken_made}
use Rattle.world.proofs.Stepping.{kind_goes_on, step_goes_on}
use Rattle.world.proofs.world.World.past_layout.Goals as goal

pub take_back-requires : goal.take_back-requires
take_back-requires c =
    subst (λ (x : Replaced). c.args.h < length x.machine.harts) (sym c.in_default.ensures.err)
    (taken_made c.args.h c.args.h c.args.self.now c.layout_step-before.new.self c.layout_step-before.result c.layout_step-before.ensures.back (layout_made c.args.h c.args.self.now c.requires))

pub returns-clause-kind : goal.returns-clause-kind
returns-clause-kind c = c.in-Ok.ensures.kind ∙ kind_goes_on 2 c.args.h c.args.self.now c.layout_step-before.new.self c.layout_step-before.ensures.step c.requires

pub returns-clause-step : goal.returns-clause-step
returns-clause-step c = c.in-Ok.ensures.step ∙ step_goes_on 2 c.args.h c.args.self.now c.layout_step-before.new.self c.layout_step-before.ensures.step c.requires
