-- What the clock of a log tells.
use Rattle.std.proofs.Common.{◌≡◌, ◌+◌, true, false, List, [], ◌∷◌, ◌++◌, length, refl, sym, ap, ◌∙◌, arith}
use Rattle.std.proofs.lemmas.List.{length-append, length-replicate}
use Rattle.std.proofs.lemmas.List.Elements.{All-head, All-tail}
use Rattle.sched_log.specs.declared.event.Event.{Event}
use Rattle.sched_log.specs.declared.event.Event.TheVariants.{Steps, Real, Till, Snap, Replace, Given, Retire}
use Rattle.pacing.specs.Logs.{is_snap, is_replace, steps_in, steps_of}
use Rattle.pacing.specs.Readings.{NoSnap, NoReplace}
use Rattle.pacing.specs.Clocks.{Clock, zero_clock, tick, clock_from, clock_of, reals}

pub clock_append : (c : Clock) (xs ys : List Event) → clock_from c (xs ++ ys) ≡ clock_from (clock_from c xs) ys
unfolding clock_from
clock_append c [] ys = refl
clock_append c (x ∷ xs) ys = clock_append (tick c x) xs ys

-- ---- real steps
real_tick : (c : Clock) (e : Event) → (tick c e).real ≡ c.real + length (steps_in e)
real_tick c (Real h n) = ap (λ k. c.real + k) (sym (length-replicate n h))
real_tick c (Steps h n) = omega arith
real_tick c (Till n) = omega arith
real_tick c Snap = omega arith
real_tick c Replace = omega arith
real_tick c (Given plan) = omega arith
real_tick c Retire = omega arith

real_from : (c : Clock) (log : List Event) → (clock_from c log).real ≡ c.real + length (steps_of log)
unfolding clock_from
real_from c [] = omega arith
real_from c (e ∷ es) =
    let rest = real_from (tick c e) es in
    let one = real_tick c e in
    let long : length (steps_in e ++ steps_of es) ≡ length (steps_in e) + length (steps_of es) = length-append (steps_in e) (steps_of es) in
    omega (arith, rest, one, long)

pub real_is : (log : List Event) → length (steps_of log) ≡ reals log
real_is log = let all = real_from zero_clock log in omega (arith, all)

-- from a clock on, which has made some
pub real_more : (before es : List Event) → (clock_from (clock_of before) es).real ≡ reals before + reals es
real_more before es =
    let all = real_from (clock_of before) es in
    let own = real_is es in
    omega (arith, all, own)

pub reals_append : (before es : List Event) → reals (before ++ es) ≡ reals before + reals es
reals_append before es = ap (λ (c : Clock). c.real) (clock_append zero_clock before es) ∙ real_more before es

-- ---- entries that leave a mark as it is
snapped_tick : (c : Clock) (e : Event) → is_snap e ≡ false → (tick c e).snapped_at ≡ c.snapped_at
snapped_tick c (Real h n) other = refl
snapped_tick c (Steps h n) other = refl
snapped_tick c (Till n) other = refl
snapped_tick c Snap other = absurd (cc)
snapped_tick c Replace other = refl
snapped_tick c (Given plan) other = refl
snapped_tick c Retire other = refl

attempted_tick : (c : Clock) (e : Event) → is_replace e ≡ false → (tick c e).attempted_at ≡ c.attempted_at
attempted_tick c (Real h n) other = refl
attempted_tick c (Steps h n) other = refl
attempted_tick c (Till n) other = refl
attempted_tick c Snap other = refl
attempted_tick c Replace other = absurd (cc)
attempted_tick c (Given plan) other = refl
attempted_tick c Retire other = refl

pending_tick : (c : Clock) (e : Event) → is_snap e ≡ false → is_replace e ≡ false → (tick c e).pending ≡ c.pending
pending_tick c (Real h n) other same = refl
pending_tick c (Steps h n) other same = refl
pending_tick c (Till n) other same = refl
pending_tick c Snap other same = absurd (cc)
pending_tick c Replace other same = absurd (cc)
pending_tick c (Given plan) other same = refl
pending_tick c Retire other same = refl

snapped_from : (c : Clock) (es : List Event) → NoSnap es → (clock_from c es).snapped_at ≡ c.snapped_at
unfolding clock_from
snapped_from c [] none = refl
snapped_from c (e ∷ es) none =
    snapped_from (tick c e) es (All-tail (λ f. is_snap f ≡ false) e es none) ∙ snapped_tick c e (All-head (λ f. is_snap f ≡ false) e es none)

attempted_from : (c : Clock) (es : List Event) → NoReplace es → (clock_from c es).attempted_at ≡ c.attempted_at
unfolding clock_from
attempted_from c [] none = refl
attempted_from c (e ∷ es) none =
    attempted_from (tick c e) es (All-tail (λ f. is_replace f ≡ false) e es none) ∙ attempted_tick c e (All-head (λ f. is_replace f ≡ false) e es none)

pending_from : (c : Clock) (es : List Event) → NoSnap es → NoReplace es → (clock_from c es).pending ≡ c.pending
unfolding clock_from
pending_from c [] none neither = refl
pending_from c (e ∷ es) none neither =
    pending_from (tick c e) es (All-tail (λ f. is_snap f ≡ false) e es none) (All-tail (λ f. is_replace f ≡ false) e es neither)
    ∙ pending_tick c e (All-head (λ f. is_snap f ≡ false) e es none) (All-head (λ f. is_replace f ≡ false) e es neither)

-- a snapshot waits until its attempt
stays_tick : (c : Clock) (e : Event) → c.pending ≡ true → is_replace e ≡ false → (tick c e).pending ≡ true
stays_tick c (Real h n) waits other = waits
stays_tick c (Steps h n) waits other = waits
stays_tick c (Till n) waits other = waits
stays_tick c Snap waits other = refl
stays_tick c Replace waits other = absurd (cc)
stays_tick c (Given plan) waits other = waits
stays_tick c Retire waits other = waits

stays_from : (c : Clock) (es : List Event) → c.pending ≡ true → NoReplace es → (clock_from c es).pending ≡ true
unfolding clock_from
stays_from c [] waits none = waits
stays_from c (e ∷ es) waits none =
    stays_from (tick c e) es (stays_tick c e waits (All-head (λ f. is_replace f ≡ false) e es none)) (All-tail (λ f. is_replace f ≡ false) e es none)

pub still_pending : (before es : List Event) → NoReplace es → (clock_of (before ++ Snap ∷ es)).pending ≡ true
unfolding clock_from
still_pending before es none =
    ap (λ (d : Clock). d.pending) (clock_append zero_clock before (Snap ∷ es)) ∙ stays_from (tick (clock_of before) Snap) es refl none

-- ---- after a Snap, an attempt, and neither
pub after_snap : (before es : List Event) → NoSnap es → NoReplace es
    → ((clock_of (before ++ Snap ∷ es)).snapped_at ≡ reals before) × ((clock_of (before ++ Snap ∷ es)).pending ≡ true)
unfolding clock_from
after_snap before es none neither =
    let c = tick (clock_of before) Snap in
    let e : clock_of (before ++ Snap ∷ es) ≡ clock_from c es = clock_append zero_clock before (Snap ∷ es) in
    (ap (λ (d : Clock). d.snapped_at) e ∙ snapped_from c es none, ap (λ (d : Clock). d.pending) e ∙ pending_from c es none neither)

pub after_replace : (before es : List Event) → NoSnap es → NoReplace es
    → ((clock_of (before ++ Replace ∷ es)).attempted_at ≡ reals before) × ((clock_of (before ++ Replace ∷ es)).pending ≡ false)
unfolding clock_from
after_replace before es none neither =
    let c = tick (clock_of before) Replace in
    let e : clock_of (before ++ Replace ∷ es) ≡ clock_from c es = clock_append zero_clock before (Replace ∷ es) in
    (ap (λ (d : Clock). d.attempted_at) e ∙ attempted_from c es neither, ap (λ (d : Clock). d.pending) e ∙ pending_from c es none neither)

pub from_start : (es : List Event) → NoSnap es → NoReplace es → ((clock_of es).attempted_at ≡ 0) × ((clock_of es).pending ≡ false)
from_start es none neither = (attempted_from zero_clock es neither, pending_from zero_clock es none neither)
