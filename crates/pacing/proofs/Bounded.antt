-- What each step of a lock section keeps of the bounds.
use Rattle.std.proofs.Common.{◌≡◌, ℕ, ◌+◌, ◌*◌, ◌<◌, ◌≤◌, Bool, true, false, List, [], ◌∷◌, ◌++◌, length, replicate, subst, arith}
use Rattle.std.proofs.lemmas.List.{length-append}
use Rattle.image.specs.Picture.{Picture}
use Rattle.sched_log.specs.declared.event.Event.{Event}
use Rattle.sched_log.specs.declared.event.Event.TheVariants.{Real, Snap, Replace, Retire}
use Rattle.machine.specs.States.{State}
use Rattle.machine.specs.Steps.{original_run}
use Rattle.pacing.specs.Limits.{visit_limit, entry_limit}
use Rattle.pacing.specs.Logs.{steps_in, state_at}
use Rattle.pacing.specs.Clocks.{tick, clock_from, clock_of}
use Rattle.pacing.specs.Bounds.{to_come, IsLimited, IsBounded}
use Rattle.pacing.proofs.Growing.{grown}
use Rattle.pacing.proofs.Runs.{made_by_run}

module _ (p : Picture) (start : State) where
  -- ---- real steps
  pub limit_begins : (limit : ℕ) → 0 < limit → IsLimited p start limit 0 []
  unfolding clock_from
  limit_begins limit some = record { steps = omega (arith, some) }

  pub limit_leaves : (limit away : ℕ) (log : List Event) → (clock_of log).real < limit → away + 1 ≤ length (state_at p start log).harts
      → IsLimited p start limit (away + 1) log
  limit_leaves limit away log below room = record { steps = omega (arith, below, room) }

  pub limit_lands : (limit away : ℕ) (log : List Event) (h n : ℕ) → n ≤ visit_limit → IsLimited p start limit (away + 1) log
      → IsLimited p start limit away (log ++ Real h n ∷ [])
  limit_lands limit away log h n most k =
      let was = k.steps in
      let made = made_by_run p (replicate n h) (state_at p start log) in
      record {
        steps = grown p start log (Real h n) (λ s c. c.real + visit_limit * away < limit + visit_limit * length s.harts) (omega (arith, was, most, made));
      }

  pub limit_snaps : (limit away : ℕ) (log : List Event) → IsLimited p start limit away log → IsLimited p start limit away (log ++ Snap ∷ [])
  limit_snaps limit away log k = record { steps = grown p start log Snap (λ s c. c.real + visit_limit * away < limit + visit_limit * length s.harts) k.steps }

  pub limit_attempts : (limit away : ℕ) (log : List Event) → IsLimited p start limit away log
      → IsLimited p start limit away ((log ++ Retire ∷ []) ++ Replace ∷ [])
  limit_attempts limit away log k = record {
    steps = grown p start (log ++ Retire ∷ []) Replace (λ s c. c.real + visit_limit * away < limit + visit_limit * length s.harts)
        (grown p start log Retire (λ s c. c.real + visit_limit * away < limit + visit_limit * length s.harts) k.steps);
  }

  pub limit_gives_up : (limit away : ℕ) (log : List Event) → IsLimited p start limit (away + 1) log → IsLimited p start limit away log
  limit_gives_up limit away log k = record { steps = (let was = k.steps in omega (arith, was)) }

  pub limit_ends : (limit away : ℕ) (log : List Event) → IsLimited p start limit away log
      → (clock_of log).real < limit + visit_limit * length (state_at p start log).harts
  limit_ends limit away log k = let was = k.steps in omega (arith, was)

  -- ---- entries
  longer : (away spare : ℕ) (log : List Event) (e : Event)
      → length log + 1 + to_come (tick (clock_of log) e).pending + spare + 4 * away ≤ entry_limit + 1 + 4 * length (original_run p (steps_in e) (state_at p start log)).harts
      → IsBounded p start away spare (log ++ e ∷ [])
  longer away spare log e few = record {
    entries = (
        let long : length (log ++ e ∷ []) ≡ length log + 1 = length-append log (e ∷ []) in
        let now = grown p start log e (λ s c. length log + 1 + to_come c.pending + spare + 4 * away ≤ entry_limit + 1 + 4 * length s.harts) few in
        omega (arith, long, now));
  }

  pub bound_begins : IsBounded p start 0 0 []
  unfolding clock_from
  bound_begins = record { entries = omega arith }

  to_come_most : (pending : Bool) → to_come pending ≤ 2
  to_come_most true = omega arith
  to_come_most false = omega arith

  pub bound_leaves : (away : ℕ) (log : List Event) → length log < entry_limit → away + 1 ≤ length (state_at p start log).harts
      → IsBounded p start (away + 1) 0 log
  bound_leaves away log below room = record { entries = (let most = to_come_most (clock_of log).pending in omega (arith, below, room, most)) }

  pub bound_lands : (away spare : ℕ) (log : List Event) (h n : ℕ) → IsBounded p start (away + 1) spare log
      → IsBounded p start away (spare + 3) (log ++ Real h n ∷ [])
  bound_lands away spare log h n k =
      let was = k.entries in
      let made = made_by_run p (replicate n h) (state_at p start log) in
      longer away (spare + 3) log (Real h n) (omega (arith, was, made))

  pub bound_snaps : (away spare : ℕ) (log : List Event) → IsBounded p start away (spare + 3) log → IsBounded p start away spare (log ++ Snap ∷ [])
  bound_snaps away spare log k = let was = k.entries in longer away spare log Snap (omega (arith, was))

  pub bound_attempts : (away spare : ℕ) (log : List Event) → (clock_of log).pending ≡ true → IsBounded p start away spare log
      → IsBounded p start away spare ((log ++ Retire ∷ []) ++ Replace ∷ [])
  bound_attempts away spare log pending k =
      let was : length log + 2 + spare + 4 * away ≤ entry_limit + 1 + 4 * length (state_at p start log).harts =
      subst (λ b. length log + to_come b + spare + 4 * away ≤ entry_limit + 1 + 4 * length (state_at p start log).harts) pending k.entries in
      let more = log ++ Retire ∷ [] in
      let long : length more ≡ length log + 1 = length-append log (Retire ∷ []) in
      longer away spare more Replace (
      let now = grown p start log Retire (λ s c. length log + 2 + spare + 4 * away ≤ entry_limit + 1 + 4 * length s.harts) was in
      omega (arith, long, now))

  pub bound_rests : (away spare : ℕ) (log : List Event) → IsBounded p start away spare log → IsBounded p start away 0 log
  bound_rests away spare log k = record { entries = (let was = k.entries in omega (arith, was)) }

  pub bound_gives_up : (away spare : ℕ) (log : List Event) → IsBounded p start (away + 1) spare log → IsBounded p start away spare log
  bound_gives_up away spare log k = record { entries = (let was = k.entries in omega (arith, was)) }

  pub bound_ends : (away spare : ℕ) (log : List Event) → IsBounded p start away spare log → length log ≤ entry_limit + 1 + 4 * length (state_at p start log).harts
  bound_ends away spare log k = let was = k.entries in omega (arith, was)
