-- Which layouts are referred to. Source: after OCOLOS.
use Rattle.std.specs.Prelude.{◌≢◌, ◌↔◌, ℕ, ◌<◌, List, ◌++◌, length, Any, AllPairs, Contains, Option, Some, None}
use Rattle.std.specs.List.{slice_get, filter_map}
use Rattle.std.specs.Option.{IsSomeAnd}
use Rattle.rv_isa.specs.declared.instr.Instr.{Instr}
use Rattle.rv_isa.specs.declared.instr.Instr.TheVariants.{Jal}
use Rattle.image.specs.declared.ranges.Aim.{Aim}
use Rattle.image.specs.Targets.{target}
use Rattle.layout.specs.Laid.{Laid, item_at}
use Rattle.layout.specs.Apart.{LiesIn}
use Rattle.layout.specs.Points.{read}

-- one of these addresses lies in the layout at a position
abbrev pub PointInto : List Laid → List ℕ → ℕ → Type 0
PointInto lives addresses k = Any (λ a. LiesIn lives a k) addresses

-- where an instruction at an address goes, if it is a JAL
abbrev pub jump_of : ℕ → Option Instr → Option ℕ
jump_of a (Some (Jal rd off)) = Some (target a off)
jump_of a _ = None

-- Where a call of a layout goes now. The second word of a pair that is still a JALR goes by its register, and has no aim.
abbrev pub aim_of : Laid → Aim → Option ℕ
aim_of l s = jump_of s.at (read (item_at l.base l.words) s.at)

-- where the sites and pairs of a layout go
abbrev pub aims_of : Laid → List ℕ
aims_of l = filter_map (aim_of l) (l.sites ++ l.pairs)

-- a site or pair of the layout at j points into the one at k
abbrev pub CallsInto : List Laid → (j k : ℕ) → Type 0
CallsInto lives j k = IsSomeAnd (slice_get lives j) (λ l. PointInto lives (aims_of l) k)

-- The positions of the layouts that are referred to: the least set that has each layout into which one of these addresses points, and
-- each into which a site or pair of another layout of the set points.
pub data Refers (lives : List Laid) (held : List ℕ) : ℕ → Type 0 where
  by_pointer : (k : ℕ) → PointInto lives held k → Refers lives held k
  by_call : (j k : ℕ) → j ≢ k → Refers lives held j → CallsInto lives j k → Refers lives held k

-- the positions of the layouts that aren't referred to, ascending; each other layout is referred to
pub record AreUnreferenced (lives : List Laid) (held positions : List ℕ) : Type 0 where
  pub ascending : AllPairs (λ j k. j < k) positions
  pub exact : (k : ℕ) → Contains positions k ↔ ((k < length lives) × (Refers lives held k → ⊥))
  pub others : (k : ℕ) → k < length lives → (Contains positions k → ⊥) → Refers lives held k
