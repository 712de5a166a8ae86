-- Events that can be done, one after the other.
use Rattle.std.proofs.Common.{ℕ, ◌+◌, ◌<◌, List, ◌∷◌, length, drop, get_or, sym, subst}
use Rattle.std.specs.List.{AllByRecursion}
use Rattle.std.proofs.lemmas.List.{drop_more}
use Rattle.sched_log.specs.Ranges.{IsInRange}
use Rattle.sched_log.specs.declared.event.Event.{Event}
use Rattle.sched_log.specs.declared.event.Event.TheVariants.{Steps, Real, Till, Snap, Replace, Given, Retire}
use Rattle.world.specs.Worlds.{Replaced}
use Rattle.delivered.specs.Events.{Obeyed}
use Rattle.delivered.proofs.Unmoved.{event_image}
use Rattle.play.specs.Ready.{CanObey, AreReady}

pub can_obey : (e : Event) (es : List Event) (w : Replaced) → AreReady (e ∷ es) w → CanObey e w
can_obey (Steps h n) es w ready = tt
can_obey (Real h n) es w ready = tt
can_obey (Till n) es w ready = tt
can_obey Snap es w ready = tt
can_obey Replace es w ready = tt
can_obey (Given plan) es w ready = ready.0.1
can_obey Retire es w ready = tt

-- so what is left of the events is ready after the first
pub ready_next : (e : Event) (es : List Event) (w u : Replaced) → AreReady (e ∷ es) w → Obeyed e w u → AreReady es u
ready_next e es w u ready r = subst (λ p. AllByRecursion (IsInRange p) es) (sym (event_image e r.0 w u r.1)) ready.1

-- ---- places in a list of events
pub can_obey_at : (es : List Event) (i : ℕ) (d : Event) (w : Replaced) → i < length es → AreReady (drop i es) w → CanObey (get_or es i d) w
can_obey_at es i d w below ready = can_obey (get_or es i d) (drop (i + 1) es) w (subst (λ x. AreReady x w) (drop_more es i d below) ready)

pub ready_after : (es : List Event) (i : ℕ) (d : Event) (w u : Replaced) → i < length es → AreReady (drop i es) w → Obeyed (get_or es i d) w u → AreReady (drop (i + 1) es) u
ready_after es i d w u below ready r = ready_next (get_or es i d) (drop (i + 1) es) w u (subst (λ x. AreReady x w) (drop_more es i d below) ready) r
