use Rattle.std.specs.Prelude.{cond}
use Rattle.std.proofs.Common.{ap, sym, ◌∙◌}
use Rattle.sim_laws.specs.Steps.{is_layout}
use Rattle.world.specs.Worlds.{step_of}
use Rattle.world.proofs.Stepping.{kind_stops, step_stops}
use Rattle.world.proofs.world.World.make_real_step.Goals as goal

pub returns-clause-kind : goal.returns-clause-kind
returns-clause-kind c = kind_stops 2 c.args.h c.args.self.now c.in-Ok.kind c.in-Ok.ensures.kind (sym c.is_layout.ensures ∙ c.if-is_layout.false)

pub returns-clause-step : goal.returns-clause-step
returns-clause-step c = step_stops 2 c.args.h c.args.self.now c.make_other_step.new.self c.in-Ok.kind c.in-Ok.ensures.kind (sym c.is_layout.ensures ∙ c.if-is_layout.false)
    (c.in-Ok.ensures.step ∙ ap (λ b. cond b c.args.self.now (step_of c.args.h c.args.self.now)) (sym (ap is_layout c.in-Ok.ensures.kind) ∙ sym c.is_layout.ensures ∙ c.if-is_layout.false))
