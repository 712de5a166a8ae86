-- The last pairs of a list, and the ring that keeps them.
use Rattle.std.specs.Prelude.{ℕ, ◌-◌, List, [], ◌∷◌, ◌++◌, length, drop}

-- the last n of a list
abbrev pub last : {X : Type 0} → ℕ → List X → List X
last n xs = drop (length xs - n) xs

-- how many pairs a ring has room for, and those that it keeps, the oldest first: where a transfer came from, and where it went
pub record Notes : Type 0 where
  pub room : ℕ
  pub pairs : List (ℕ × ℕ)

-- one more pair is noted
abbrev pub noted : Notes → ℕ × ℕ → Notes
noted ring pair = record { room = ring.room; pairs = last ring.room (ring.pairs ++ pair ∷ []) }
