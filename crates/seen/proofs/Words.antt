-- Where the words of a layout lie, and how many they are.
use Rattle.std.proofs.Common.{◌≡◌, ℕ, zero, suc, ◌+◌, ◌*◌, ◌^◌, ◌<◌, List, length, map, subst, sym, refl, arith}
use Rattle.std.specs.Prelude.{All}
use Rattle.std.proofs.lemmas.List.Elements.{All-cons, All-nil}
use Rattle.layout.specs.Points.{Code}
use Rattle.blocks.specs.Words.{addresses}
use Rattle.seen.specs.declared.spot.Spot.{Spot}
use Rattle.seen.specs.declared.moved.Placed.{Placed}
use Rattle.seen.specs.Moved.{IsLow, placed_at, words_of}

low : (spots : List Spot) (c : Code) (base n : ℕ) → base + 4 * n < 2 ^ 32 → All IsLow (words_of spots c base n)
low spots c base zero small = All-nil IsLow
low spots c base (suc n) small =
    All-cons IsLow (placed_at spots c base) (words_of spots c (base + 4) n) (omega (arith, small)) (low spots c (base + 4) n (omega (arith, small)))

as_many : (spots : List Spot) (c : Code) (base n : ℕ) → length (words_of spots c base n) ≡ n
as_many spots c base zero = refl
as_many spots c base (suc n) = let rest = as_many spots c (base + 4) n in omega (arith, rest)

pub words_low : (spots : List Spot) (c : Code) (base n : ℕ) (words : List Placed) → base + 4 * n < 2 ^ 32 → words ≡ map (placed_at spots c) (addresses base n) → All IsLow words
words_low spots c base n words small is = subst (All IsLow) (sym is) (low spots c base n small)

pub words_few : (spots : List Spot) (c : Code) (base n : ℕ) (words : List Placed) → base + 4 * n < 2 ^ 32 → words ≡ map (placed_at spots c) (addresses base n) → length words < 2 ^ 32
words_few spots c base n words small is = let many = as_many spots c base n in rw is (omega (arith, many, small))
