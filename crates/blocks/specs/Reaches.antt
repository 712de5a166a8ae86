-- How far functions reach.
use Rattle.std.specs.Prelude.{ℕ, max, List, [], ◌∷◌}
use Rattle.image.specs.declared.ranges.Func.{Func}
use Rattle.blocks.specs.declared.index.Reach.{Reach}

-- for each function the greatest end of those up to it, and of those that come before all of these
abbrev pub reaches : ℕ → List Func → List Reach
reaches far [] = []
reaches far (f ∷ fs) = record { to = max far f.to } ∷ reaches (max far f.to) fs

abbrev pub reach_end : Reach → ℕ
reach_end r = r.to
