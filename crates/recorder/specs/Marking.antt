-- When a snapshot of the last transfers is due, and when an attempt to replace code. Source: this project.
use Rattle.std.specs.Prelude.{ℕ, ◌+◌, ◌≤◌, nat_le, Bool, true, false, if◌then◌else◌}
use Rattle.recorder.specs.declared.marks.Marks.{Marks}
use Rattle.recorder.specs.declared.marks.Due.{Due}
use Rattle.recorder.specs.declared.marks.Due.TheVariants.{Nothing, Snap, Pending, Overdue}

-- before the first snapshot and the first attempt
abbrev pub unmarked : Marks
unmarked = record { attempted_at = 0; snapped_at = 0; pending = false }

-- both were made by now
pub record AreReached (real : ℕ) (m : Marks) : Type 0 where
  pub attempt : m.attempted_at ≤ real
  pub snap : m.snapped_at ≤ real

-- so many real steps or more were made since a mark
abbrev pub is_past : (every mark real : ℕ) → Bool
is_past every mark real = nat_le (every + mark) real

-- While a snapshot is pending: the attempt, which is overdue so many real steps after the snapshot. Otherwise a snapshot, so many real
-- steps after the last attempt, or after the start.
abbrev pub due_of : (every real : ℕ) → Marks → Due
due_of every real m =
    if m.pending
    then (if is_past every m.snapped_at real then Overdue else Pending)
    else (if is_past every m.attempted_at real then Snap else Nothing)

-- ---- what becomes of the marks: nothing where a call is left out
abbrev pub snapped : (left_out : Bool) → (real : ℕ) → Marks → Marks
snapped true real m = m
snapped false real m = record m { snapped_at = real; pending = true }

abbrev pub attempted : (left_out : Bool) → (real : ℕ) → Marks → Marks
attempted true real m = m
attempted false real m = record m { attempted_at = real; pending = false }
