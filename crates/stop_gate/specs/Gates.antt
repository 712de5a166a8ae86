-- Which of 64 harts are away, and whether a stop is wanted.
-- Source: this project's own.
use Rattle.std.specs.Prelude.{◌≡◌, ℕ, ◌+◌, ◌<◌, Bool, true, false, cond, List, [], ◌∷◌, slice_index_or, slice_set}

-- away: a flag for each hart
pub record Gated : Type 0 where
  pub away : List Bool
  pub wanted : Bool

-- the flag of a hart, and false past the last
abbrev pub is_away : Gated → ℕ → Bool
is_away g h = slice_index_or g.away h false

abbrev pub left : ℕ → Gated → Gated
left h g = record { away = slice_set g.away h true; wanted = g.wanted }

abbrev pub back_in : ℕ → Gated → Gated
back_in h g = record { away = slice_set g.away h false; wanted = g.wanted }

abbrev pub wanting : Bool → Gated → Gated
wanting b g = record { away = g.away; wanted = b }

-- how many flags are set
abbrev pub set_in : List Bool → ℕ
set_in [] = 0
set_in (b ∷ bs) = cond b 1 0 + set_in bs

-- how many harts are away
abbrev pub aways : Gated → ℕ
aways g = set_in g.away

-- each hart that is away is below n
abbrev pub AwayBelow : ℕ → Gated → Type 0
AwayBelow n g = (h : ℕ) → is_away g h ≡ true → h < n
