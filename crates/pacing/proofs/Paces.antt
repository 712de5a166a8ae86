-- What a log that keeps the pace is like, place by place.
use Rattle.std.proofs.Common.{◌≡◌, ℕ, ◌+◌, ◌*◌, ◌≤◌, Bool, true, false, List, [], ◌∷◌, ◌++◌, length, refl, sym, ap, ◌∙◌, ◌⊎◌, inl, inr, arith}
use Rattle.std.specs.Prelude.{not, ◌&&◌, nat_le, is_some}
use Rattle.std.proofs.lemmas.List.{append_assoc}
use Rattle.std.proofs.lemmas.List.Elements.{All-nil, All-cons}
use Rattle.image.specs.Picture.{Picture}
use Rattle.sched_log.specs.declared.event.Event.{Event}
use Rattle.sched_log.specs.declared.event.Event.TheVariants.{Steps, Real, Till, Snap, Replace, Given, Retire}
use Rattle.machine.specs.States.{State}
use Rattle.pacing.specs.Limits.{visit_limit}
use Rattle.pacing.specs.Logs.{is_snap, is_replace, state_at}
use Rattle.pacing.specs.Clocks.{Clock, zero_clock, tick, clock_from, clock_of, reals}
use Rattle.pacing.specs.Pacing.{owes_snap, Paced}
use Rattle.pacing.specs.Readings.{NoSnap, NoReplace, HasPending}
use Rattle.pacing.proofs.Growing.{clock-snoc}
use Rattle.pacing.proofs.Clocked.{reals_append, after_snap, after_replace, from_start, still_pending}
use Rattle.pacing.proofs.Kept.{none_owed}

-- ---- how the last entry and the last snapshot are found
retired_ends : (c : Clock) (e : Event) (es : List Event) → (clock_from c (e ∷ es)).retired ≡ true → (shorter : List Event) × (e ∷ es ≡ shorter ++ Retire ∷ [])
unfolding clock_from
retired_ends c (Real h n) [] r = absurd (cc)
retired_ends c (Steps h n) [] r = absurd (cc)
retired_ends c (Till n) [] r = absurd (cc)
retired_ends c Snap [] r = absurd (cc)
retired_ends c Replace [] r = absurd (cc)
retired_ends c (Given plan) [] r = absurd (cc)
retired_ends c Retire [] r = ([], refl)
retired_ends c e (f ∷ fs) r =
    let rest = retired_ends (tick c e) f fs r in
    (e ∷ rest.0, ap (λ xs. e ∷ xs) rest.1)

ends_retired : (log : List Event) → (clock_of log).retired ≡ true → (shorter : List Event) × (log ≡ shorter ++ Retire ∷ [])
unfolding clock_from
ends_retired [] r = absurd (cc)
ends_retired (e ∷ es) r = retired_ends zero_clock e es r

-- pending before these entries already, with no attempt among them, or by a Snap of theirs
abbrev Waits : Bool → List Event → Type 0
Waits pending es = ((pending ≡ true) × NoReplace es) ⊎ HasPending es

further : (e : Event) (es : List Event) → is_replace e ≡ false → NoReplace es → NoReplace (e ∷ es)
further e es other none = All-cons (λ f. is_replace f ≡ false) e es other none

by_entry : (c : Clock) (e : Event) (es : List Event) → (tick c e).pending ≡ true → NoReplace es → Waits c.pending (e ∷ es)
by_entry c (Real h n) es waits none = inl (waits, further (Real h n) es refl none)
by_entry c (Steps h n) es waits none = inl (waits, further (Steps h n) es refl none)
by_entry c (Till n) es waits none = inl (waits, further (Till n) es refl none)
by_entry c Snap es waits none = inr (record { before = []; since = es; parts = refl; none = none })
by_entry c Replace es waits none = absurd (cc)
by_entry c (Given plan) es waits none = inl (waits, further (Given plan) es refl none)
by_entry c Retire es waits none = inl (waits, further Retire es refl none)

one_before : (e : Event) (es : List Event) → HasPending es → HasPending (e ∷ es)
one_before e es h = record { before = e ∷ h.before; since = h.since; parts = ap (λ xs. e ∷ xs) h.parts; none = h.none }

pending_from : (c : Clock) (es : List Event) → (clock_from c es).pending ≡ true → Waits c.pending es
unfolding clock_from
pending_from c [] waits = inl (waits, All-nil (λ e. is_replace e ≡ false))
pending_from c (e ∷ es) waits = elim (pending_from (tick c e) es waits) [
  | inl own ↦ by_entry c e es own.0 own.1
  | inr found ↦ inr (one_before e es found)
]

has_pending : (log : List Event) → (clock_of log).pending ≡ true → HasPending log
has_pending log waits = elim (pending_from zero_clock log waits) [
  | inl own ↦ absurd (false_true own.0)
  | inr found ↦ found
]
  where
    false_true : false ≡ true → ⊥
    false_true e = cc

-- ---- real steps since a Snap or an attempt
unmarked : (e : Event) (es : List Event) → reals (e ∷ []) ≡ 0 → reals (e ∷ es) ≡ reals es
unmarked e es none = let all = reals_append (e ∷ []) es in omega (arith, all, none)

no_steps : (reals (Snap ∷ []) ≡ 0) × (reals (Replace ∷ []) ≡ 0)
unfolding clock_from
no_steps = (refl, refl)

same_order : (every at since : ℕ) → nat_le (every + at) (at + since) ≡ nat_le every since
same_order every at since = grind arith

-- a Snap is owed by the real steps since the mark
owed_since : (every at now since : ℕ) (pending over : Bool) → pending ≡ false → now ≡ at + since
    → (not pending && nat_le (every + at) now && not over) ≡ (nat_le every since && not over)
owed_since every at now since pending over idle sum = ap (λ x. x && not over) (rw (idle, sum) (same_order every at since))

module _ (p : Picture) (start : State) (every : ℕ) (log : List Event) (k : Paced p start every log) where
  -- what is owed after entries with no mark, from the start and from an attempt on
  owed_from_start : (since : List Event) → NoSnap since → NoReplace since
      → owes_snap every (state_at p start since) (clock_of since) ≡ (nat_le every (reals since) && not (is_some (state_at p start since).outcome))
  owed_from_start since none neither =
      let c = from_start since none neither in
      owed_since every (clock_of since).attempted_at (reals since) (reals since) (clock_of since).pending (is_some (state_at p start since).outcome) c.1
      (let z = c.0 in omega (arith, z))

  owed_after_attempt : (before since : List Event) → NoSnap since → NoReplace since
      → (let upto = before ++ Replace ∷ since in
      owes_snap every (state_at p start upto) (clock_of upto) ≡ (nat_le every (reals since) && not (is_some (state_at p start upto).outcome)))
  owed_after_attempt before since none neither =
      let upto = before ++ Replace ∷ since in
      let c = after_replace before since none neither in
      owed_since every (clock_of upto).attempted_at (reals upto) (reals since) (clock_of upto).pending (is_some (state_at p start upto).outcome) c.1
      (let at = c.0 in let sum = reals_append before (Replace ∷ since) in let own = unmarked Replace since no_steps.1 in omega (arith, at, sum, own))

  pub snap_from_start : (since : List Event) (e : Event) (rest : List Event) → log ≡ since ++ e ∷ rest → NoSnap since → NoReplace since
      → is_snap e ≡ (nat_le every (reals since) && not (is_some (state_at p start since).outcome))
  snap_from_start since e rest parts none neither = (k.each since e rest parts).snap ∙ owed_from_start since none neither

  pub snap_after_attempt : (before since : List Event) (e : Event) (rest : List Event) → log ≡ (before ++ Replace ∷ since) ++ e ∷ rest → NoSnap since → NoReplace since
      → is_snap e ≡ (nat_le every (reals since) && not (is_some (state_at p start (before ++ Replace ∷ since)).outcome))
  snap_after_attempt before since e rest parts none neither =
      (k.each (before ++ Replace ∷ since) e rest parts).snap ∙ owed_after_attempt before since none neither

  pub one_snap : (before since : List Event) (e : Event) (rest : List Event) → log ≡ (before ++ Snap ∷ since) ++ e ∷ rest → NoReplace since → is_snap e ≡ false
  one_snap before since e rest parts none =
      (k.each (before ++ Snap ∷ since) e rest parts).snap ∙ none_owed every (state_at p start (before ++ Snap ∷ since)) (clock_of (before ++ Snap ∷ since)) (still_pending before since none)

  pub ends_from_start : NoSnap log → NoReplace log → (nat_le every (reals log) && not (is_some (state_at p start log).outcome)) ≡ false
  ends_from_start none neither = sym (owed_from_start log none neither) ∙ k.no_snap_owed

  pub ends_after_attempt : (before since : List Event) → log ≡ before ++ Replace ∷ since → NoSnap since → NoReplace since
      → (nat_le every (reals since) && not (is_some (state_at p start log).outcome)) ≡ false
  ends_after_attempt before since parts none neither =
      ap (λ (xs : List Event). nat_le every (reals since) && not (is_some (state_at p start xs).outcome)) parts
      ∙ sym (owed_after_attempt before since none neither)
      ∙ ap (λ (xs : List Event). owes_snap every (state_at p start xs) (clock_of xs)) (sym parts)
      ∙ k.no_snap_owed

  pub attempt_in_time : (before since : List Event) (e : Event) (rest : List Event) → log ≡ (before ++ Snap ∷ since) ++ e ∷ rest
      → NoSnap (since ++ e ∷ []) → NoReplace (since ++ e ∷ [])
      → reals (since ++ e ∷ []) ≤ every + visit_limit * length (state_at p start (before ++ Snap ∷ (since ++ e ∷ []))).harts
  attempt_in_time before since e rest parts none neither =
      let upto = before ++ Snap ∷ (since ++ e ∷ []) in
      let same : (before ++ Snap ∷ since) ++ e ∷ [] ≡ upto = append_assoc before (Snap ∷ since) (e ∷ []) in
      let c = after_snap before (since ++ e ∷ []) none neither in
      let late = rw same at ((k.each (before ++ Snap ∷ since) e rest parts).in_time) in
      let early = late c.1 in
      let at = c.0 in
      let sum = reals_append before (Snap ∷ (since ++ e ∷ [])) in
      let own = unmarked Snap (since ++ e ∷ []) no_steps.0 in
      omega (arith, early, at, sum, own)

  -- ---- attempts
  is_that : (e : Event) → is_replace e ≡ true → e ≡ Replace
  is_that (Real h n) is = absurd (cc)
  is_that (Steps h n) is = absurd (cc)
  is_that (Till n) is = absurd (cc)
  is_that Snap is = absurd (cc)
  is_that Replace is = refl
  is_that (Given plan) is = absurd (cc)
  is_that Retire is = absurd (cc)

  retired_now : (before : List Event) → (clock_of (before ++ Retire ∷ [])).retired ≡ true
  retired_now before = ap (λ (c : Clock). c.retired) (clock-snoc zero_clock before Retire)

  pub replace_follows : (before rest : List Event) → log ≡ before ++ Retire ∷ rest → (after : List Event) × (rest ≡ Replace ∷ after)
  replace_follows before [] parts =
      let owed : (clock_of log).retired ≡ true = ap (λ xs. (clock_of xs).retired) parts ∙ retired_now before in
      let both : true ≡ false = sym owed ∙ k.no_replace_owed in
      absurd (cc)
  replace_follows before (f ∷ fs) parts =
      let split : log ≡ (before ++ Retire ∷ []) ++ f ∷ fs = parts ∙ sym (append_assoc before (Retire ∷ []) (f ∷ fs)) in
      let is = is_that f ((k.each (before ++ Retire ∷ []) f fs split).replace ∙ retired_now before) in
      (fs, ap (λ x. x ∷ fs) is)

  pub retire_precedes : (before rest : List Event) → log ≡ before ++ Replace ∷ rest → (shorter : List Event) × (before ≡ shorter ++ Retire ∷ [])
  retire_precedes before rest parts = ends_retired before (sym (k.each before Replace rest parts).replace)

  pub snap_precedes : (before rest : List Event) → log ≡ before ++ Retire ∷ rest → HasPending before
  snap_precedes before rest parts = has_pending before ((k.each before Retire rest parts).attempt refl)
