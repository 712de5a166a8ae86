use Rattle.std.proofs.Common.{◌<◌, length, sym, ap, ◌∙◌, subst}
use Rattle.sim_laws.specs.Steps.{kind_until}
use Rattle.world.specs.Worlds.{Replaced, code_of}
use Rattle.world.specs.Runs.{until_real}
use Rattle.world.proofs.Moving.{layout_made, taken_made}
use Rattle.world.proofs.Stepping.{other_made, other_left, next_layout, kind_stops, step_stops, kind_goes_on, step_goes_on, kind_last, step_last}
use Rattle.world.proofs.world.World.second_step.Goals as goal

pub returns-then-not-is_layout-clause-kind : goal.returns-then-not-is_layout-clause-kind
returns-then-not-is_layout-clause-kind c = kind_stops 1 c.args.h c.args.self.now c.in-Ok.second c.in-Ok.ensures.kind (sym c.is_layout.ensures ∙ c.if-not-is_layout.true)

pub returns-then-not-is_layout-clause-step : goal.returns-then-not-is_layout-clause-step
returns-then-not-is_layout-clause-step c =
    let real = sym c.is_layout.ensures ∙ c.if-not-is_layout.true in
    step_stops 1 c.args.h c.args.self.now c.other_step.new.self c.in-Ok.second c.in-Ok.ensures.kind real
    (other_made c.args.h c.args.self.now c.other_step.new.self c.in-Ok.second c.in-Ok.ensures.kind real c.in-Ok.ensures.step)

pub take_back-requires : goal.take_back-requires
take_back-requires c =
    let first = sym c.is_layout.ensures ∙ c.if-not-is_layout.false in
    let left = other_left c.args.h c.args.self.now c.other_step.new.self c.in-Ok.second c.in-Ok.ensures.kind first c.in-Ok.ensures.step in
    let layout = next_layout c.args.h c.args.self.now c.other_step.new.self c.in-Ok.second c.in-Ok.ensures.kind first left in
    subst (λ (x : Replaced). c.args.h < length x.machine.harts) (sym c.in_default-one_step.ensures.err)
    (taken_made c.args.h c.args.h c.other_step.new.self c.layout_step-before.new.self c.layout_step-before.result c.layout_step-before.ensures.back (layout_made c.args.h c.other_step.new.self layout))

pub returns-clause-kind : goal.returns-clause-kind
returns-clause-kind c =
    let first = sym c.is_layout.ensures ∙ c.if-not-is_layout.false in
    let left = other_left c.args.h c.args.self.now c.other_step.new.self c.in-Ok.second c.in-Ok.ensures.kind first c.in-Ok.ensures.step in
    let layout = next_layout c.args.h c.args.self.now c.other_step.new.self c.in-Ok.second c.in-Ok.ensures.kind first left in
    kind_last c.args.h c.layout_step-before.new.self c.in-Ok-one_step.third c.in-Ok-one_step.ensures.kind
    ∙ kind_goes_on 1 c.args.h c.other_step.new.self c.layout_step-before.new.self c.layout_step-before.ensures.step layout
    ∙ ap (λ (x : Replaced). kind_until x.image (code_of x) 2 c.args.h x.machine) left

pub returns-clause-step : goal.returns-clause-step
returns-clause-step c =
    let first = sym c.is_layout.ensures ∙ c.if-not-is_layout.false in
    let left = other_left c.args.h c.args.self.now c.other_step.new.self c.in-Ok.second c.in-Ok.ensures.kind first c.in-Ok.ensures.step in
    let layout = next_layout c.args.h c.args.self.now c.other_step.new.self c.in-Ok.second c.in-Ok.ensures.kind first left in
    step_last c.args.h c.layout_step-before.new.self c.one_step.new.self c.in-Ok-one_step.ensures.step
    ∙ step_goes_on 1 c.args.h c.other_step.new.self c.layout_step-before.new.self c.layout_step-before.ensures.step layout
    ∙ ap (until_real 2 c.args.h) left
