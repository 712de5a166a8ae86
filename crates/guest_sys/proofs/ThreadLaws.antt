-- The words that get a tid.
use Rattle.std.proofs.Common.{◌≡◌, ℕ, ◌+◌, ◌≤◌, Bool, true, ◌&&◌, List, [], ◌∷◌, ◌++◌, map, refl, ap, arith}
use Rattle.std.specs.List.{list_all}
use Rattle.std.proofs.lemmas.List.Folds.{list_all-append}
use Rattle.finite.specs.Maps.{Places, contains_all}
use Rattle.oc_base.specs.declared.range.Range.{Range}
use Rattle.guest_mem.specs.Memory.{bytes_of}
use Rattle.guest_mem.specs.Access.{IsBelowEnd}
use Rattle.guest_mem.proofs.Laws.{end_of}
use Rattle.guest_sys.specs.State.{State}
use Rattle.guest_sys.specs.Calls.{ranges, puts, tid_bytes}
use Rattle.guest_sys.specs.Words.{word_range}

-- all of two lists
pub all_both : (p : ℕ → Bool) (xs ys : List ℕ) → list_all p (xs ++ ys) ≡ (list_all p xs && list_all p ys)
all_both p xs ys = list_all-append p xs ys

-- a word with a right ends below the end of guest addresses
pub low_word : (s : Places) (a : ℕ) → IsBelowEnd s → contains_all s a 4 ≡ true → a + 4 ≤ 0x1000_0000
low_word s a below all = end_of s a 4 below (omega arith) all

-- the bytes that are written where a tid is put into words
pub ranges_of_puts : (s : State) (words : List ℕ) → ranges (puts (tid_bytes s) words) ≡ map word_range words
unfolding bytes_of
ranges_of_puts s [] = refl
ranges_of_puts s (a ∷ words) = ap (λ (rs : List Range). word_range a ∷ rs) (ranges_of_puts s words)
