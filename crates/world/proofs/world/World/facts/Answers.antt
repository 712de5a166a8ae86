use Rattle.std.proofs.Common.{◌∙◌, ◌<◌, ℕ, List, refl, sym, subst}
use Rattle.std.specs.Prelude.{AllPairs}
use Rattle.world.proofs.Found.{found}
use Rattle.world.proofs.LinksRise.{links_rise}
use Rattle.world.proofs.Telling.{facts_as}
use Rattle.world.proofs.world.World.facts.Goals as goal

pub returns : goal.returns
returns c =
    facts_as _ c.args.self.now c.self.view_is c.retired.result c.from_vec.result c.changed_in.result c.slots_in.result c.from_vec-2.result c.from_vec-3.result
    c.region-region.result c.deref-4.result.now c.slots.result.now c.deref-2.result.now c.deref-3.result.now c.self.inside.lives.layouts.items
    c.region-region.ensures (c.deref-4.ensures.value ∙ c.in_ok-links.ensures) c.slots.ensures c.deref-2.ensures.value c.deref-3.ensures.value refl c.retired.ensures
    (c.from_vec.ensures ∙ c.in_ok-refusals.ensures.items ∙ c.deref.ensures.value) c.changed_in.ensures c.slots_in.ensures (c.from_vec-2.ensures ∙ c.in_ok-layouts.ensures)
    (c.from_vec-3.ensures ∙ c.in_ok-harts.ensures)

pub slots_in-requires : goal.slots_in-requires
slots_in-requires c =
    subst (λ (ls : List (ℕ × ℕ)). AllPairs (λ (k l : ℕ × ℕ). k.0 < l.0) ls) (sym (c.deref-4.ensures.value ∙ c.in_ok-links.ensures)) (links_rise c.self.inside.machine.memory)

pub hart_facts-requires : goal.hart_facts-requires
hart_facts-requires c = found c.self.inside.lives c.self.invariant.1.apart c.self.invariant.2
