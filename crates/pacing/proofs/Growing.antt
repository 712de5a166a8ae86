-- Logs that grow by an entry.
use Rattle.std.proofs.Common.{◌≡◌, ℕ, List, [], ◌∷◌, ◌++◌, refl, ap, sym, ◌∙◌, ◌⊎◌, inl, inr, subst}
use Rattle.std.specs.Prelude.{Option, None}
use Rattle.std.proofs.lemmas.Grind.{flat_map-append}
use Rattle.std.proofs.lemmas.List.{append-nil}
use Rattle.image.specs.Picture.{Picture}
use Rattle.sched_log.specs.declared.event.Event.{Event}
use Rattle.machine.specs.States.{State}
use Rattle.machine.specs.Steps.{original_run}
use Rattle.machine.proofs.Stays.{run_append}
use Rattle.pacing.specs.Logs.{steps_in, steps_of, state_at, Each}
use Rattle.pacing.specs.Clocks.{Clock, tick, zero_clock, clock_from, clock_of}
use Rattle.pacing.specs.Serving.{Turn, turned, turn_from, last_turn}

-- ---- where an entry of a longer log stands
snoc_split : (log : List Event) (e : Event) (before : List Event) (f : Event) (rest : List Event) → log ++ e ∷ [] ≡ before ++ f ∷ rest
    → ((before ≡ log) × (f ≡ e)) ⊎ ((shorter : List Event) × (log ≡ before ++ f ∷ shorter))
snoc_split [] e [] f rest h = inl (refl, cc)
snoc_split [] e (b ∷ []) f rest h = let none : [] ≡ f ∷ rest = cc in cc
snoc_split [] e (b ∷ c ∷ bs) f rest h = let none : [] ≡ c ∷ (bs ++ f ∷ rest) = cc in cc
snoc_split (x ∷ xs) e [] f rest h = let same : x ≡ f = cc in inr (xs, ap (λ y. y ∷ xs) same)
snoc_split (x ∷ xs) e (b ∷ bs) f rest h =
    let same : x ≡ b = cc in
    let tails : xs ++ e ∷ [] ≡ bs ++ f ∷ rest = cc in
    elim (snoc_split xs e bs f rest tails) [
      | inl s ↦ inl (rw (same, s.0) refl, s.1)
      | inr s ↦ inr (s.0, rw (same, s.1) refl)
    ]

pub each-snoc : (P : List Event → Event → Type 0) (log : List Event) (e : Event) → Each P log → P log e → Each P (log ++ e ∷ [])
each-snoc P log e all last before f rest h =
    elim (snoc_split log e before f rest h) [
      | inl s ↦ rw (s.0, s.1) last
      | inr s ↦ all before f s.0 s.1
    ]

pub each-nil : (P : List Event → Event → Type 0) → Each P []
each-nil P [] f rest h = cc
each-nil P (b ∷ bs) f rest h = cc

-- ---- steps, state, clock and turns after one more entry
pub steps-snoc : (log : List Event) (e : Event) → steps_of (log ++ e ∷ []) ≡ steps_of log ++ steps_in e
steps-snoc log e = flat_map-append steps_in log (e ∷ []) ∙ ap (λ hs. steps_of log ++ hs) (append-nil (steps_in e))

pub state-snoc : (p : Picture) (start : State) (log : List Event) (e : Event) → state_at p start (log ++ e ∷ []) ≡ original_run p (steps_in e) (state_at p start log)
state-snoc p start log e =
    ap (λ hs. original_run p hs start) (steps-snoc log e) ∙ run_append p (steps_of log) (steps_in e) start

pub clock-snoc : (c : Clock) (log : List Event) (e : Event) → clock_from c (log ++ e ∷ []) ≡ tick (clock_from c log) e
unfolding clock_from
clock-snoc c [] e = refl
clock-snoc c (x ∷ xs) e = clock-snoc (tick c x) xs e

turn-snoc : (p : Picture) (workers worker : ℕ) (s : State) (t : Option Turn) (log : List Event) (e : Event)
    → turn_from p workers worker s t (log ++ e ∷ []) ≡ turned workers worker (original_run p (steps_in e) (state_at p s log)) e (turn_from p workers worker s t log)
unfolding turn_from
turn-snoc p workers worker s t [] e = refl
turn-snoc p workers worker s t (x ∷ xs) e =
    let after = original_run p (steps_in x) s in
    let u = turned workers worker after x t in
    turn-snoc p workers worker after u xs e
    ∙ ap (λ (now : State). turned workers worker (original_run p (steps_in e) now) e (turn_from p workers worker after u xs)) (sym (run_append p (steps_in x) (steps_of xs) s))

-- what holds of state and clock after one more entry
pub grown : (p : Picture) (start : State) (log : List Event) (e : Event) (P : State → Clock → Type 0)
    → P (original_run p (steps_in e) (state_at p start log)) (tick (clock_of log) e) → P (state_at p start (log ++ e ∷ [])) (clock_of (log ++ e ∷ []))
grown p start log e P holds =
    subst (λ (s : State). P s (clock_of (log ++ e ∷ []))) (sym (state-snoc p start log e))
    (subst (λ (c : Clock). P (original_run p (steps_in e) (state_at p start log)) c) (sym (clock-snoc zero_clock log e)) holds)

-- and what holds of a worker's last visit and the state
pub grown_turn : (p : Picture) (workers worker : ℕ) (start : State) (log : List Event) (e : Event) (P : Option Turn → State → Type 0)
    → (let after = original_run p (steps_in e) (state_at p start log) in P (turned workers worker after e (last_turn p workers worker start log)) after)
    → P (last_turn p workers worker start (log ++ e ∷ [])) (state_at p start (log ++ e ∷ []))
grown_turn p workers worker start log e P holds =
    subst (λ (t : Option Turn). P t (state_at p start (log ++ e ∷ []))) (sym (turn-snoc p workers worker start None log e))
    (subst (λ (s : State). P (turned workers worker (original_run p (steps_in e) (state_at p start log)) e (last_turn p workers worker start log)) s)
    (sym (state-snoc p start log e)) holds)
