-- Many steps that are counted one after another.
use Rattle.std.proofs.Common.{◌≡◌, ℕ, zero, suc, ◌+◌, ◌-◌, ◌<◌, ◌≤◌, true, false, List, [], ◌∷◌, ◌++◌, length, take, append_assoc, refl, sym, ap, ◌∙◌, arith}
use Rattle.std.specs.Prelude.{◌==◌, ◌&&◌, nat_lt, Some, None, replicate, slice_set, if◌then◌else◌}
use Rattle.std.proofs.lemmas.Bool.Decides.{nat_tests}
use Rattle.std.proofs.lemmas.List.{append-nil}
use Rattle.sched_log.specs.declared.event.Event.{Event}
use Rattle.recorder.specs.declared.journal.Asked.{Asked}
use Rattle.recorder.specs.declared.journal.Asked.TheVariants.{Step, RealStep}
use Rattle.recorder.specs.Journals.{Journal, atom_of, count_in, count_limit, entry_of, longer, noted, noted_times, unfolded, LengthensAs}
use Rattle.recorder.proofs.Counting.{further_noted, step_after}
use Rattle.recorder.proofs.Unfolding.{noted_unfolds}

-- a log that is open, and whose last entry has so many
abbrev ends_with : Asked → List Event → ℕ → Journal
ends_with a es n = record { entries = es ++ entry_of a n ∷ []; is_open = true }

times_more : (m : ℕ) (a : Asked) (n : ℕ) (es : List Event) → n + m ≤ count_limit → noted_times m a (ends_with a es n) ≡ ends_with a es (n + m)
times_more zero a n es le = let e : n ≡ n + zero = omega arith in ap (ends_with a es) e
times_more (suc m) a n es le =
    let e : n + 1 + m ≡ n + suc m = omega arith in
    ap (noted_times m a) (further_noted a n es (omega (arith, le))) ∙ times_more m a (n + 1) es (omega (arith, le)) ∙ ap (ends_with a es) e

times_both : (m n : ℕ) (a : Asked) (j : Journal) → noted_times (m + n) a j ≡ noted_times n a (noted_times m a j)
times_both zero n a j = let e : zero + n ≡ n = omega arith in ap (λ k. noted_times k a j) e
times_both (suc m) n a j = let e : suc m + n ≡ suc (m + n) = omega arith in ap (λ k. noted_times k a j) e ∙ times_both m n a (noted false a j)

-- the last of some entries set to another
set_last : (log : List Event) (e : Event) → 0 < length log → slice_set log (length log - 1) e ≡ take (length log - 1) log ++ e ∷ []
set_last [] e some = absurd (omega (arith, some))
set_last (d ∷ []) e some = refl
set_last (d ∷ b ∷ log) e some =
    let same : length (d ∷ b ∷ log) - 1 ≡ suc (length (b ∷ log) - 1) = omega arith in
    ap (λ k. slice_set (d ∷ b ∷ log) k e) same ∙ ap (λ x. d ∷ x) (set_last (b ∷ log) e (omega arith)) ∙ sym (ap (λ k. take k (d ∷ b ∷ log) ++ e ∷ []) same)

-- a journal and what one step makes of it
noted_as : (a : Asked) (j : Journal) (es : List Event) (n : ℕ) → noted false a j ≡ ends_with a es n → (m : ℕ) → n + m ≤ count_limit → noted_times (suc m) a j ≡ ends_with a es (n + m)
noted_as a j es n one m le = ap (noted_times m a) one ∙ times_more m a n es le

pub journal_as : (es log : List Event) → es ≡ log → (let j : Journal = record { entries = es; is_open = true } in j) ≡ record { entries = log; is_open = true }
journal_as es log e = ap (λ (x : List Event). let j : Journal = record { entries = x; is_open = true } in j) e

-- ---- the three ways in which they are counted
pub in_new : (a : Asked) (n : ℕ) (j k : Journal) → 0 < n → n ≤ count_limit → LengthensAs a j.is_open j.entries None
    → k ≡ record { entries = j.entries ++ entry_of a n ∷ []; is_open = true } → k ≡ noted_times n a j
in_new a zero j k some le is made = absurd (omega (arith, some))
in_new a (suc m) j k some le is made =
    let e : 1 + m ≡ suc m = omega arith in
    made ∙ sym (noted_as a j j.entries 1 (journal_as _ _ is) m (omega (arith, le)) ∙ ap (ends_with a j.entries) e)

pub in_last : (a : Asked) (b n : ℕ) (j k : Journal) → 0 < n → b + n ≤ count_limit → LengthensAs a j.is_open j.entries (Some b)
    → k ≡ record { entries = slice_set j.entries (length j.entries - 1) (entry_of a (b + n)); is_open = true } → k ≡ noted_times n a j
in_last a b zero j k some le is made = absurd (omega (arith, some))
in_last a b (suc m) j k some le is made =
    let es = take (length j.entries - 1) j.entries in
    let e : b + 1 + m ≡ b + suc m = omega arith in
    made ∙ journal_as _ _ (set_last j.entries (entry_of a (b + suc m)) is.1)
    ∙ sym (noted_as a j es (b + 1) (journal_as _ _ (is.2 ∙ set_last j.entries (entry_of a (b + 1)) is.1)) m (omega (arith, le)) ∙ ap (ends_with a es) e)

-- no more can be counted in a full entry
full : (g h : ℕ) → (if g == h && nat_lt count_limit count_limit then Some count_limit else None) ≡ None
full g h = grind (arith, nat_tests)

counts_none : (a : Asked) → count_in a (entry_of a count_limit) ≡ None
counts_none (Step h) = full h h
counts_none (RealStep h) = full h h

past_full : (a : Asked) (es : List Event) → noted false a (ends_with a es count_limit) ≡ ends_with a (es ++ entry_of a count_limit ∷ []) 1
past_full a es =
    journal_as _ _ (step_after a es (entry_of a count_limit) ∙ ap (λ c. es ++ longer a (entry_of a count_limit) c) (counts_none a)
    ∙ sym (append_assoc es (entry_of a count_limit ∷ []) (entry_of a 1 ∷ [])))

pub in_both : (a : Asked) (b n : ℕ) (j k : Journal) → b < count_limit → n ≤ count_limit → count_limit - b < n → LengthensAs a j.is_open j.entries (Some b)
    → k ≡ record { entries = slice_set j.entries (length j.entries - 1) (entry_of a count_limit) ++ entry_of a (n - (count_limit - b)) ∷ []; is_open = true } → k ≡ noted_times n a j
in_both a b n j k lt le past is made =
    let fits = count_limit - b in
    let es = take (length j.entries - 1) j.entries in
    let whole : b + fits ≡ count_limit = omega (arith, lt) in
    let filled : noted_times fits a j ≡ ends_with a es count_limit =
    sym (in_last a b fits j (record { entries = slice_set j.entries (length j.entries - 1) (entry_of a (b + fits)); is_open = true }) (omega (arith, lt)) (omega (arith, whole)) is refl)
    ∙ journal_as _ _ (ap (λ c. slice_set j.entries (length j.entries - 1) (entry_of a c)) whole ∙ set_last j.entries (entry_of a count_limit) is.1) in
    let rest : n - fits ≡ suc (n - fits - 1) = omega (arith, past) in
    let one : 1 + (n - fits - 1) ≡ n - fits = omega (arith, past) in
    let all : fits + (n - fits) ≡ n = omega (arith, past) in
    let later : noted_times (n - fits) a (ends_with a es count_limit) ≡ ends_with a (es ++ entry_of a count_limit ∷ []) (n - fits) =
    ap (λ c. noted_times c a (ends_with a es count_limit)) rest
    ∙ noted_as a (ends_with a es count_limit) (es ++ entry_of a count_limit ∷ []) 1 (past_full a es) (n - fits - 1) (omega (arith, le, past))
    ∙ ap (ends_with a (es ++ entry_of a count_limit ∷ [])) one in
    made ∙ journal_as _ _ (ap (λ x. x ++ entry_of a (n - fits) ∷ []) (set_last j.entries (entry_of a count_limit) is.1))
    ∙ sym (ap (λ c. noted_times c a j) (sym all) ∙ times_both fits (n - fits) a j ∙ ap (noted_times (n - fits) a) filled ∙ later)

-- ---- what they ask for
pub times_unfold : (n : ℕ) (a : Asked) (j : Journal) → unfolded (noted_times n a j).entries ≡ unfolded j.entries ++ replicate n (atom_of a)
times_unfold zero a j = sym (append-nil (unfolded j.entries))
times_unfold (suc n) a j =
    times_unfold n a (noted false a j) ∙ ap (λ x. x ++ replicate n (atom_of a)) (noted_unfolds false a j (noted false a j) refl)
    ∙ append_assoc (unfolded j.entries) (atom_of a ∷ []) (replicate n (atom_of a))
