-- Positions that are marked, and those of them that wait. For the crate's own use.
use Rattle.std.specs.Prelude.{◌≡◌, ◌↔◌, ℕ, ◌+◌, ◌<◌, ◌≤◌, ◌⊎◌, List, Bool, true, not, length, AllPairs, Contains, count_by, Some}
use Rattle.std.specs.List.{slice_get}
use Rattle.layout.specs.Laid.{Laid}
use Rattle.retire.specs.References.{PointInto, CallsInto, Refers}
use Rattle.retire.specs.declared.marks.Marks.{Marks}

abbrev pub IsMarked : List Bool → ℕ → Type 0
IsMarked marks k = slice_get marks k ≡ Some true

-- what is left to do: each position that waits, and each that may yet come to
abbrev pub left_of : Marks → ℕ
left_of m = length m.waiting.items + count_by not m.marked.items

-- the positions of which P holds are marked too, and no others; those that weren't marked before wait
pub record Marked (P : ℕ → Type 0) (before after : Marks) : Type 0 where
  pub size : length after.marked.items ≡ length before.marked.items
  pub kept : (k : ℕ) → IsMarked before.marked.items k → IsMarked after.marked.items k
  pub each : (k : ℕ) → P k → IsMarked after.marked.items k
  pub only : (k : ℕ) → IsMarked after.marked.items k → IsMarked before.marked.items k ⊎ P k
  pub still : (k : ℕ) → Contains before.waiting.items k → Contains after.waiting.items k
  pub waits : (k : ℕ) → IsMarked after.marked.items k → IsMarked before.marked.items k ⊎ Contains after.waiting.items k
  pub known : (k : ℕ) → Contains after.waiting.items k → Contains before.waiting.items k ⊎ IsMarked after.marked.items k
  pub left : left_of after ≤ left_of before

-- The layouts into which pointers point are marked, and only such as are referred to. Each that is marked waits, or those into which it
-- calls are marked too.
pub record IsClosing (lives : List Laid) (held : List ℕ) (m : Marks) : Type 0 where
  pub size : length m.marked.items ≡ length lives
  pub sound : (k : ℕ) → IsMarked m.marked.items k → Refers lives held k
  pub start : (k : ℕ) → PointInto lives held k → IsMarked m.marked.items k
  pub known : (k : ℕ) → Contains m.waiting.items k → IsMarked m.marked.items k
  pub followed : (j k : ℕ) → IsMarked m.marked.items j → CallsInto lives j k → Contains m.waiting.items j ⊎ IsMarked m.marked.items k

-- exactly the positions of layouts that are referred to are marked
pub record AreReferred (lives : List Laid) (held : List ℕ) (marks : List Bool) : Type 0 where
  pub size : length marks ≡ length lives
  pub marked : (k : ℕ) → IsMarked marks k ↔ Refers lives held k

-- the list has, ascending, the positions below n that aren't marked
pub record AreUnmarked (marks : List Bool) (n : ℕ) (positions : List ℕ) : Type 0 where
  pub ascending : AllPairs (λ j k. j < k) positions
  pub exact : (k : ℕ) → Contains positions k ↔ ((k < n) × (IsMarked marks k → ⊥))
