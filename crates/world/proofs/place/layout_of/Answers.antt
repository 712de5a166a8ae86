use Rattle.std.proofs.Common.{ℕ, ◌<◌, ◌^◌, List, sym, ◌∙◌, subst}
use Rattle.std.specs.Prelude.{All}
use Rattle.world.specs.Replacing.{Refuses}
use Rattle.world.proofs.Placing.{fit_whole, fit_low, is_new, is_fit, full_refuses, emit_refuses}
use Rattle.world.proofs.place.layout_of.Goals as goal

pub returns-in_default-clause-refused : goal.returns-in_default-clause-refused
returns-in_default-clause-refused c =
    λ lives. full_refuses c.args.image.now lives c.args.region.now.free c.args.plan.now c.size-need.result c.largest.result c.in-Ok.ensures.none c.requires.some
    (rw (c.in-Ok.ensures.image, c.in-Ok.ensures.plan) at c.size-need.ensures) (sym c.fit.ensures.is ∙ c.in_default.is) c.largest.ensures.is

pub place-requires-clause-whole : goal.place-requires-clause-whole
place-requires-clause-whole c = fit_whole c.args.region.now.free c.size-need.result c.in-Some.base c.requires.whole (sym c.fit.ensures.is ∙ c.in-Some.is)

pub place-requires-clause-fits : goal.place-requires-clause-fits
place-requires-clause-fits c =
    λ u. fit_low c.args.image.now c.args.region.now.all c.args.region.now.free c.size-need.result c.in-Some.base _ c.kept.ensures c.requires.all c.kept-2.ensures
    (sym c.fit.ensures.is ∙ c.in-Some.is) c.size-need.ensures c.in-Some.ensures.high

pub returns-in-Ok-place-clause-is : goal.returns-in-Ok-place-clause-is
returns-in-Ok-place-clause-is c =
    is_new c.args.image.now c.args.plan.now c.args.region.now.free c.args.region.now.all c.size-need.result c.in-Some.base c.in-Ok-place.layout c.requires.some
    (rw (c.in-Ok.ensures.image, c.in-Ok.ensures.plan) at c.size-need.ensures) (sym c.fit.ensures.is ∙ c.in-Some.is)
    (rw (c.in-Ok.ensures.image, c.in-Ok.ensures.plan) at c.in-Ok-place.ensures.is)

pub returns-in-Ok-place-clause-fits : goal.returns-in-Ok-place-clause-fits
returns-in-Ok-place-clause-fits c =
    is_fit c.args.image.now c.args.plan.now c.args.region.now.free c.args.region.now.all c.size-need.result c.in-Some.base c.in-Ok-place.layout c.kept.ensures c.requires.all c.requires.some c.requires.plan
    c.in-Ok.ensures.none c.kept-in-Ok-place.ensures (rw (c.in-Ok.ensures.image, c.in-Ok.ensures.plan) at c.size-need.ensures) c.in-Some.ensures.low c.in-Some.ensures.high c.in-Some.ensures.free
    (rw (c.in-Ok.ensures.image, c.in-Ok.ensures.plan) at c.in-Ok-place.ensures.is) (rw c.in-Ok.ensures.image at c.in-Ok-place.ensures.renders)
    (subst (λ (ws : List ℕ). All (λ w. w < 2 ^ 32) ws) c.words.ensures c.short_words.ensures)

pub returns-clause-refused : goal.returns-clause-refused
returns-clause-refused c =
    λ lives. subst (Refuses c.args.image.now lives c.args.region.now.free c.args.plan.now) (sym c.told_as-in-Err-place.ensures)
    (emit_refuses c.args.image.now lives c.args.region.now.free c.args.plan.now c.size-need.result c.in-Some.base c.in-Err-place.fault c.requires.some
    (rw (c.in-Ok.ensures.image, c.in-Ok.ensures.plan) at c.size-need.ensures) (sym c.fit.ensures.is ∙ c.in-Some.is)
    (rw (c.in-Ok.ensures.image, c.in-Ok.ensures.plan) at c.in-Err-place.ensures.fault))
