-- Where layouts lie. Source: this project.
use Rattle.std.specs.Prelude.{◌≡◌, ℕ, ◌+◌, ◌*◌, ◌≤◌, ◌<◌, ◌⊎◌, ◌&&◌, nat_le, nat_lt, Bool, List, length, slice_get}
use Rattle.std.specs.Option.{IsSomeAnd}
use Rattle.layout.specs.Laid.{Laid}

-- the first address past a layout
abbrev pub end_of : Laid → ℕ
end_of l = l.base + 4 * length l.words

-- one ends before the other begins
abbrev pub LieApart : Laid → Laid → Type 0
LieApart l m = (end_of l ≤ m.base) ⊎ (end_of m ≤ l.base)

abbrev pub Covers : ℕ → Laid → Type 0
Covers a l = (l.base ≤ a) × (a < end_of l)

abbrev pub covers : ℕ → Laid → Bool
covers a l = nat_le l.base a && nat_lt a (end_of l)

-- an address lies in the layout at a position
abbrev pub LiesIn : List Laid → (a k : ℕ) → Type 0
LiesIn lives a k = IsSomeAnd (slice_get lives k) (Covers a)

-- no address lies in two layouts
abbrev pub AreApart : List Laid → Type 0
AreApart lives = (a j k : ℕ) → LiesIn lives a j → LiesIn lives a k → j ≡ k
