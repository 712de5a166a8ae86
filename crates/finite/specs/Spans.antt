-- Ranges of numbers, each as its last number and its first.
use Rattle.std.specs.Prelude.{◌≡◌, ℕ, ◌<◌, ◌≤◌, Bool, ◌&&◌, nat_le, Some}
use Rattle.std.specs.Ordering.{nat_cmp}
use Rattle.std.specs.BTreeMap.{BTreeMap, get}

-- a range shares a number with the one from first to last
abbrev pub meets : ℕ → ℕ → ℕ × ℕ → Bool
meets first last r = nat_le first r.0 && nat_le r.1 last

-- the ranges by their last numbers: each holds a number, and no two share one
pub record IsApart (firsts : BTreeMap ℕ ℕ) : Type 0 where
  pub filled : (last first : ℕ) → get nat_cmp firsts last ≡ Some first → first ≤ last
  pub apart : (last first past next : ℕ) → get nat_cmp firsts last ≡ Some first → get nat_cmp firsts past ≡ Some next → last < past → last < next
