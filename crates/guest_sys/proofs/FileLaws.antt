-- Parts of memory, one more at a time.
use Rattle.std.proofs.Common.{◌≡◌, ℕ, ◌+◌, ◌-◌, ◌<◌, ◌≤◌, List, [], ◌∷◌, ◌++◌, length, take, None, refl, ap, append_assoc, arith, length-append}
use Rattle.std.proofs.lemmas.Bool.{lt-ltb}
use Rattle.std.proofs.lemmas.List.{length-take}
use Rattle.std.proofs.lemmas.List.FromFn.{map-range_with_len_more}
use Rattle.guest_mem.specs.Memory.{bytes_from}
use Rattle.guest_mem.proofs.Reading.{length-bytes_from}
use Rattle.guest_sys.specs.Calls.{part, parts, bytes_of_parts}
use Rattle.guest_sys.specs.Fitting.{fitting}

pub eight_bytes : (f : ℕ → ℕ) (a : ℕ) → length (bytes_from f a 8) ≡ 8
eight_bytes f a = length-bytes_from f a 8

pub parts_more : (see : ℕ → ℕ) (at k : ℕ) → parts see at (k + 1) ≡ parts see at k ++ part see at k ∷ []
parts_more see at k = map-range_with_len_more (part see at) 0 k k (omega arith)

-- with a next part that is too long, there is no room for all
pub too_long : (see : ℕ → ℕ) (made all : List ℕ) (p : ℕ × ℕ) (rest : List (ℕ × ℕ)) (room : ℕ)
    → made ++ bytes_of_parts see (p ∷ rest) ≡ all → length made ≤ room → room - length made < p.1 → None ≡ fitting room all
too_long see made all p rest room e fits long =
    let longer : room < length all = omega (arith, ap length e, length-append made (bytes_of_parts see (p ∷ rest)), length-append (bytes_from see p.0 p.1) (bytes_of_parts see rest), length-bytes_from see p.0 p.1) in
    rw (lt-ltb room (length all) longer) refl

-- the next part is added
pub one_more : (see : ℕ → ℕ) (made all more : List ℕ) (p : ℕ × ℕ) (rest : List (ℕ × ℕ)) (room : ℕ)
    → made ++ bytes_of_parts see (p ∷ rest) ≡ all → length made ≤ room → p.1 ≤ room - length made → more ≡ bytes_from see p.0 p.1
    → ((made ++ more) ++ bytes_of_parts see rest ≡ all) × (length (made ++ more) ≤ room)
one_more see made all more p rest room e fits short is =
    (rw (is, append_assoc) e, omega (arith, length-append made more, ap length is, length-bytes_from see p.0 p.1))

pub taken_length : (k : ℕ) (xs : List ℕ) → k ≤ length xs → length (take k xs) ≡ k
taken_length k xs e = omega (arith, length-take k xs)
