-- Steps that are counted in the last entry of a log.
use Rattle.std.proofs.Common.{◌≡◌, ℕ, zero, suc, ◌+◌, ◌-◌, ◌<◌, List, [], ◌∷◌, ◌++◌, length, refl, sym, ap, ◌∙◌, subst, arith}
use Rattle.std.specs.Prelude.{◌==◌, ◌&&◌, nat_lt, true, false, Option, Some, None, slice_get, slice_set, if◌then◌else◌}
use Rattle.std.proofs.lemmas.Option.{slice_get_within}
use Rattle.std.proofs.lemmas.Bool.Decides.{nat_tests}
use Rattle.sched_log.specs.declared.event.Event.{Event}
use Rattle.sched_log.specs.declared.event.Event.TheVariants.{Steps, Real}
use Rattle.recorder.specs.declared.journal.Asked.{Asked}
use Rattle.recorder.specs.declared.journal.Asked.TheVariants.{Step, RealStep}
use Rattle.recorder.specs.Journals.{Journal, entry_of, count_limit, count_in, longer, with_step, noted, LengthensAs}

-- what is known of an entry with a count
same_hart : (g h m n : ℕ) → (if g == h && nat_lt m count_limit then Some m else None) ≡ Some n → g ≡ h
same_hart g h m n e = grind (arith, nat_tests)

same_count : (g h m n : ℕ) → (if g == h && nat_lt m count_limit then Some m else None) ≡ Some n → m ≡ n
same_count g h m n e = grind (arith, nat_tests)

below_limit : (g h m n : ℕ) → (if g == h && nat_lt m count_limit then Some m else None) ≡ Some n → n < count_limit
below_limit g h m n e = grind (arith, nat_tests)

pub counted_entry : (a : Asked) (e : Event) (n : ℕ) → count_in a e ≡ Some n → e ≡ entry_of a n
counted_entry (Step h) (Steps g m) n is = let g = same_hart g h m n is in let m = same_count _ h m n is in cc
counted_entry (RealStep h) (Real g m) n is = let g = same_hart g h m n is in let m = same_count _ h m n is in cc
counted_entry (Step h) _ n is = absurd (cc)
counted_entry (RealStep h) _ n is = absurd (cc)

counted_below : (a : Asked) (e : Event) (n : ℕ) → count_in a e ≡ Some n → n < count_limit
counted_below (Step h) (Steps g m) n is = below_limit g h m n is
counted_below (RealStep h) (Real g m) n is = below_limit g h m n is
counted_below (Step h) _ n is = absurd (cc)
counted_below (RealStep h) _ n is = absurd (cc)

pub counts_itself : (a : Asked) (n : ℕ) → n < count_limit → count_in a (entry_of a n) ≡ Some n
counts_itself (Step h) n lt = grind (arith, nat_tests)
counts_itself (RealStep h) n lt = grind (arith, nat_tests)

-- ---- a log with one more step, at the place of its last entry
abbrev IsPut : Asked → (made log : List Event) → (last : ℕ) → Option ℕ → Type 0
IsPut a made log k (Some n) = made ≡ slice_set log k (entry_of a (n + 1))
IsPut a made log k None = made ≡ log ++ entry_of a 1 ∷ []

only_put : (a : Asked) (d : Event) (c : Option ℕ) → IsPut a (longer a d c) (d ∷ []) zero c
only_put a d (Some n) = refl
only_put a d None = refl

later_put : (a : Asked) (d : Event) (made log : List Event) (k : ℕ) (c : Option ℕ) → IsPut a made log k c → IsPut a (d ∷ made) (d ∷ log) (suc k) c
later_put a d made log k (Some n) is = ap (λ x. d ∷ x) is
later_put a d made log k None is = ap (λ x. d ∷ x) is

last_put : (a : Asked) (log : List Event) (k : ℕ) (e : Event) → length log ≡ suc k → slice_get log k ≡ Some e → IsPut a (with_step a log) log k (count_in a e)
unfolding with_step
last_put a [] k e len is = absurd (omega (arith, len))
last_put a (d ∷ []) zero e len is = let same : d ≡ e = cc in subst (λ x. IsPut a (longer a d (count_in a d)) (d ∷ []) zero (count_in a x)) same (only_put a d (count_in a d))
last_put a (d ∷ []) (suc k) e len is = absurd (omega (arith, len))
last_put a (d ∷ b ∷ later) zero e len is = absurd (omega (arith, len))
last_put a (d ∷ b ∷ later) (suc k) e len is = later_put a d (with_step a (b ∷ later)) (b ∷ later) k (count_in a e) (last_put a (b ∷ later) k e (omega (arith, len)) is)

pub lengthens : (a : Asked) (log : List Event) (e : Event) (c : Option ℕ) → slice_get log (length log - 1) ≡ Some e → c ≡ count_in a e → LengthensAs a true log c
lengthens a log e c is count =
    let within = slice_get_within log (length log - 1) e is in
    by_count c count (subst (IsPut a (with_step a log) log (length log - 1)) (sym count) (last_put a log (length log - 1) e (omega (arith, within)) is)) (omega (arith, within))
  where
    by_count : (c : Option ℕ) → c ≡ count_in a e → IsPut a (with_step a log) log (length log - 1) c → 0 < length log → LengthensAs a true log c
    by_count (Some n) count put some = (counted_below a e n (sym count), some, put)
    by_count None count put some = put

pub lengthens_none : (a : Asked) (log : List Event) → slice_get log (length log - 1) ≡ None → LengthensAs a true log None
unfolding with_step
lengthens_none a [] is = refl
lengthens_none a (e ∷ log) is = absurd (some_last log e is)
  where
    some_last : (log : List Event) (e : Event) → slice_get (e ∷ log) (length (e ∷ log) - 1) ≡ None → ⊥
    some_last [] e is = cc
    some_last (d ∷ log) e is =
        let same : length (e ∷ d ∷ log) - 1 ≡ suc (length (d ∷ log) - 1) = omega arith in
        some_last log d (sym (ap (slice_get (e ∷ d ∷ log)) same) ∙ is)

-- ---- by the end of a log
pub step_after : (a : Asked) (es : List Event) (e : Event) → with_step a (es ++ e ∷ []) ≡ es ++ longer a e (count_in a e)
unfolding with_step
step_after a [] e = refl
step_after a (d ∷ []) e = refl
step_after a (d ∷ b ∷ es) e = ap (λ x. d ∷ x) (step_after a (b ∷ es) e)

pub first_noted : (a : Asked) (es : List Event) → noted false a (record { entries = es; is_open = false }) ≡ record { entries = es ++ entry_of a 1 ∷ []; is_open = true }
first_noted a es = refl

pub further_noted : (a : Asked) (n : ℕ) (es : List Event) → n < count_limit
    → noted false a (record { entries = es ++ entry_of a n ∷ []; is_open = true }) ≡ record { entries = es ++ entry_of a (n + 1) ∷ []; is_open = true }
further_noted a n es lt =
    ap (λ (x : List Event). let j : Journal = record { entries = x; is_open = true } in j) (step_after a es (entry_of a n) ∙ ap (λ c. es ++ longer a (entry_of a n) c) (counts_itself a n lt))
