-- The first bad segment, found one after another.
use Rattle.std.proofs.Common.{◌≡◌, ℕ, ◌+◌, ◌<◌, true, false, List, length, take, get_or, Some, None, inl, inr, ap, ◌∙◌, arith}
use Rattle.std.specs.Option.{option_map_or}
use Rattle.std.proofs.lemmas.Bool.{cases_lt}
use Rattle.std.proofs.lemmas.Option.{slice_get-get_or}
use Rattle.finite.proofs.LeastFound.{first_below, none_below}
use Rattle.elf_read.specs.declared.tables.ProgramHeader.{ProgramHeader}
use Rattle.elf_read.specs.Faults.{is_bad, is_bad_at, first_bad_segment}

bad_at : (headers : List ProgramHeader) (i : ℕ) (d : ProgramHeader) → i < length headers → is_bad_at headers i ≡ is_bad (take i headers) (get_or headers i d)
bad_at headers i d lt = ap (λ o. option_map_or (is_bad (take i headers)) o false) (slice_get-get_or headers i d lt)

-- none of the first n is bad
abbrev pub AreGood : List ProgramHeader → ℕ → Type 0
AreGood headers n = (k : ℕ) → k < n → is_bad_at headers k ≡ false

pub good_more : (headers : List ProgramHeader) (i : ℕ) (d : ProgramHeader) → i < length headers → AreGood headers i → is_bad (take i headers) (get_or headers i d) ≡ false → AreGood headers (i + 1)
good_more headers i d lt good fails k below =
    elim (cases_lt k i) [
      | inl before ↦ good k before
      | inr past ↦ (let same : k ≡ i = omega (arith, below, past) in ap (is_bad_at headers) same ∙ bad_at headers i d lt ∙ fails)
    ]

pub bad_there : (headers : List ProgramHeader) (i : ℕ) (d : ProgramHeader) → i < length headers → AreGood headers i → is_bad (take i headers) (get_or headers i d) ≡ true → Some i ≡ first_bad_segment headers
unfolding first_bad_segment
bad_there headers i d lt good is = first_below (is_bad_at headers) (length headers) i lt good (bad_at headers i d lt ∙ is)

pub bad_nowhere : (headers : List ProgramHeader) → AreGood headers (length headers) → None ≡ first_bad_segment headers
unfolding first_bad_segment
bad_nowhere headers good = none_below (is_bad_at headers) (length headers) good
