-- Which calls are out of reach, and the first of them.
use Rattle.std.specs.Prelude.{◌≡◌, ℕ, ◌≤◌, ◌⊎◌, pos, ◌-ℤ◌, List, [], ◌∷◌, Option, Some}
use Rattle.rv_isa.specs.Ranges.{IsOffJ}
use Rattle.image.specs.Picture.{Picture}
use Rattle.layout.specs.Laid.{Laid}
use Rattle.patcher.specs.declared.goal.Goal.{Goal}
use Rattle.patcher.specs.declared.goal.Goal.TheVariants.{Jump}
use Rattle.patcher.specs.declared.fault.ReachFault.{ReachFault}
use Rattle.patcher.specs.declared.fault.ReachFault.TheVariants.{BranchReach, NoMemory}
use Rattle.patcher.specs.Goals.{goal_of, goal_in}

-- what stands at an address is to be a JAL to the target, which is out of reach from there
abbrev pub IsOut : Option Goal → (at target : ℕ) → Type 0
IsOut (Some (Jump rd to)) at target = (target ≡ to) × (IsOffJ (pos to -ℤ pos at) → ⊥)
IsOut _ at target = ⊥

module _ (p : Picture) (new : Option Laid) where
  -- a site or pair of text is out of reach
  abbrev pub TextOut : (at target : ℕ) → Type 0
  TextOut at target = IsOut (goal_of p new at) at target

  -- a site or pair of some of these layouts is
  abbrev pub LivesOut : List Laid → (at target : ℕ) → Type 0
  LivesOut [] at target = ⊥
  LivesOut (l ∷ ls) at target = IsOut (goal_in p new l at) at target ⊎ LivesOut ls at target

abbrev pub IsNone : (ℕ → ℕ → Type 0) → Type 0
IsNone Out = (at target : ℕ) → Out at target → ⊥

-- the one at the least address
abbrev pub IsLeast : (ℕ → ℕ → Type 0) → (at target : ℕ) → Type 0
IsLeast Out at target = Out at target × ((a t : ℕ) → Out a t → at ≤ a)

-- the first word out of reach: those of text ascending, then those of all live layouts ascending
abbrev pub IsFirstOut : Picture → Option Laid → List Laid → (at target : ℕ) → Type 0
IsFirstOut p new lives at target = IsLeast (TextOut p new) at target ⊎ (IsNone (TextOut p new) × IsLeast (LivesOut p new lives) at target)

-- every call reaches
pub record AllReach (p : Picture) (new : Option Laid) (lives : List Laid) : Type 0 where
  pub in_text : IsNone (TextOut p new)
  pub in_lives : IsNone (LivesOut p new lives)

-- the first of these calls that is out of reach
abbrev pub ExplainsOut : (ℕ → ℕ → Type 0) → ReachFault → Type 0
ExplainsOut Out (BranchReach at target) = IsLeast Out at target
ExplainsOut Out NoMemory = Unit {0}

abbrev pub Explains : Picture → Option Laid → List Laid → ReachFault → Type 0
Explains p new lives (BranchReach at target) = IsFirstOut p new lives at target
Explains p new lives NoMemory = Unit {0}
