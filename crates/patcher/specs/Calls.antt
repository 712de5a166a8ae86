-- The calls of text and of a layout in a list, and what is noted of them. For the patcher's own use.
use Rattle.std.specs.Prelude.{◌≡◌, ℕ, ◌+◌, ◌⊎◌, nat_lt, List, [], ◌∷◌, ◌++◌, All, Any, Contains, Option, Some, None, if◌then◌else◌}
use Rattle.std.specs.List.{filter_map}
use Rattle.std.specs.Option.{option_map}
use Rattle.image.specs.declared.ranges.Aim.{Aim}
use Rattle.image.specs.Picture.{Picture}
use Rattle.layout.specs.Laid.{Laid}
use Rattle.patcher.specs.declared.goal.Goal.{Goal}
use Rattle.patcher.specs.declared.goal.Call.{Call}
use Rattle.patcher.specs.declared.patches.Patch.{Patch}
use Rattle.patcher.specs.declared.goal.Out.{Out}
use Rattle.patcher.specs.Goals.{goal_of, goal_in, IsMade}
use Rattle.patcher.specs.Reach.{IsOut, IsNone, IsLeast}
use Rattle.patcher.specs.Patched.{IsAt}

abbrev pub call_at : ℕ → Goal → Call
call_at a g = record { at = a; goal = g }

abbrev pub call_of : (ℕ → Option Goal) → ℕ → Aim → Option Call
call_of goals past s = option_map (call_at (s.at + past)) (goals (s.at + past))

abbrev pub text_calls : Picture → Option Laid → List Call
text_calls p new = filter_map (call_of (goal_of p new) 0) p.sites ++ filter_map (call_of (goal_of p new) 4) p.pairs

abbrev pub layout_calls : Picture → Option Laid → Laid → List Call
layout_calls p new l = filter_map (call_of (goal_in p new l) 0) l.sites ++ filter_map (call_of (goal_in p new l) 0) l.pairs

-- one of the calls is out of reach
abbrev pub CallsOut : List Call → (at target : ℕ) → Type 0
CallsOut [] at target = ⊥
CallsOut (c ∷ cs) at target = ((at ≡ c.at) × IsOut (Some c.goal) at target) ⊎ CallsOut cs at target

-- the one at the lower address
abbrev pub lower : Option Out → Option Out → Option Out
lower None o = o
lower (Some m) None = Some m
lower (Some m) (Some n) = if nat_lt n.at m.at then Some n else Some m

abbrev pub IsLeastOut : (ℕ → ℕ → Type 0) → Option Out → Type 0
IsLeastOut Out None = IsNone Out
IsLeastOut Out (Some o) = IsLeast Out o.at o.target

abbrev pub IsMadeOf : List Call → Patch → Type 0
IsMadeOf calls s = (g : Goal) × Contains calls (call_at s.at g) × IsMade s.at g s.word

abbrev pub IsNoted : List Patch → Call → Type 0
IsNoted patches c = Any (IsAt c.at) patches ⊎ ((target : ℕ) × IsOut (Some c.goal) c.at target)

-- the patches of those calls that are in reach, and the first of the others
pub record IsTally (calls : List Call) (patches : List Patch) (out : Option Out) : Type 0 where
  pub each : All (IsMadeOf calls) patches
  pub all : All (IsNoted patches) calls
  pub least : IsLeastOut (CallsOut calls) out

abbrev pub EachTally : Picture → Option Laid → List Laid → List (List Patch) → Type 0
EachTally p new [] [] = Unit {0}
EachTally p new (l ∷ ls) (s ∷ ss) = ((out : Option Out) × IsTally (layout_calls p new l) s out) × EachTally p new ls ss
EachTally p new _ _ = ⊥

-- a call of some of these layouts is out of reach
abbrev pub EachOut : Picture → Option Laid → List Laid → (at target : ℕ) → Type 0
EachOut p new [] at target = ⊥
EachOut p new (l ∷ ls) at target = CallsOut (layout_calls p new l) at target ⊎ EachOut p new ls at target

-- one call more is noted
pub data IsOneMore (c : Call) (before : List Patch) (first : Option Out) (after : List Patch) (out : Option Out) : Type 0 where
  patched : (w : ℕ) → IsMade c.at c.goal w → ((t : ℕ) → IsOut (Some c.goal) c.at t → ⊥) → after ≡ before ++ (record { at = c.at; word = w }) ∷ [] → out ≡ first
      → IsOneMore c before first after out
  past_reach : (t : ℕ) → IsOut (Some c.goal) c.at t → after ≡ before → out ≡ lower first (Some (record { at = c.at; target = t })) → IsOneMore c before first after out
