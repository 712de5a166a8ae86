-- What the calls of a program become when a new layout is placed. Source: this project.
use Rattle.std.specs.Prelude.{◌≡◌, ℕ, ◌+◌, ◌*◌, ◌==◌, Bool, false, pos, ◌-ℤ◌, List, position, Option, Some, None, unwrap_or}
use Rattle.std.specs.Option.{option_map, option_and_then, option_or}
use Rattle.rv_isa.specs.Decoded.{decoded}
use Rattle.rv_isa.specs.declared.instr.Instr.{Instr}
use Rattle.rv_isa.specs.declared.instr.Instr.TheVariants.{Jal, Jalr}
use Rattle.image.specs.Texts.{word_at}
use Rattle.image.specs.Picture.{Picture}
use Rattle.layout.specs.declared.point.Point.{Point}
use Rattle.layout.specs.declared.point.Point.TheVariants.{Start}
use Rattle.layout.specs.Laid.{Laid, point_in}
use Rattle.layout.specs.Points.{site_of, second_of, start_of, read}
use Rattle.patcher.specs.declared.goal.Goal.{Goal}
use Rattle.patcher.specs.declared.goal.Goal.TheVariants.{Jump, Same}

-- the register in which a call keeps its link
abbrev pub link_of : Option Instr → ℕ
link_of (Some (Jal rd off)) = rd
link_of (Some (Jalr rd rs off)) = rd
link_of _ = 0

abbrev pub is_start : ℕ → Point → Bool
is_start x (Start y) = y == x
is_start x _ = false

-- the address of the first Start of x, among points that stand one after another from an address on
abbrev pub start_from : ℕ → List Point → ℕ → Option ℕ
start_from a points x = option_map (λ k. a + 4 * k) (position (is_start x) points)

-- the address of a layout's first Start of an address of the original program
unfoldable pub start_in : Laid → ℕ → Option ℕ
start_in l x = start_from l.base l.points x

-- where the new layout, if there is one, starts what stands at an address
abbrev pub moved_to : Option Laid → ℕ → Option ℕ
moved_to None x = None
moved_to (Some l) x = start_in l x

-- a pair with its second word at x: a JAL to the new Start, or the original word where there is none
abbrev pub second_by : Picture → ℕ → Option ℕ → Option Goal
second_by p x (Some to) = Some (Jump (link_of (read (word_at p.texts) x)) to)
second_by p x None = option_map Same (word_at p.texts x)

module _ (p : Picture) (new : Option Laid) where
  -- the site at x calls the function that starts at s: it goes to the new Start, or to s itself
  unfoldable pub site_goal : (x s : ℕ) → Goal
  site_goal x s = Jump (link_of (read (word_at p.texts) x)) (unwrap_or (moved_to new s) s)

  -- what the word at x of the original program becomes, if it is a site or the second word of a pair
  unfoldable pub goal_of : ℕ → Option Goal
  goal_of x = option_or
      (option_map (site_goal x) (option_and_then (start_of p) (site_of p x)))
      (option_and_then (λ s. second_by p x (moved_to new s)) (option_and_then (start_of p) (second_of p x)))

-- a Start becomes what the original word becomes, and nothing else is changed
abbrev pub goal_at : (ℕ → Option Goal) → Option Point → Option Goal
goal_at goals (Some (Start x)) = goals x
goal_at goals _ = None

-- what the word at an address of a live layout becomes, if it is a call
abbrev pub goal_in : Picture → Option Laid → Laid → ℕ → Option Goal
goal_in p new l a = goal_at (goal_of p new) (point_in l a)

-- the word w at a is as it is to become
abbrev pub IsMade : ℕ → Goal → ℕ → Type 0
IsMade a (Jump rd to) w = decoded w ≡ Some (Jal rd (pos to -ℤ pos a))
IsMade a (Same v) w = w ≡ v
