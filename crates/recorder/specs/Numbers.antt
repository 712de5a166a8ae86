-- The number of the code, and the number of steps of each hart. Source: this project.
use Rattle.std.specs.Prelude.{ℕ, ◌+◌, ◌-◌, ◌^◌, min, nat_lt, Bool, true, false, List, slice_index_or, slice_set, Result, Ok, Err, if◌then◌else◌}
use Rattle.oc_base.specs.declared.fault.NoMemory.{NoMemory}
use Rattle.sched_log.specs.declared.facts.Refusal.{Refusal}

-- a count after n more, which stays at the greatest number of 64 bits
abbrev pub raised : ℕ → ℕ → ℕ
raised n c = min (c + n) (2 ^ 64 - 1)

-- ---- the code has another number after each attempt that moved it
abbrev pub replaced_code : (has_ended : Bool) → Result Unit Refusal → ℕ → ℕ
replaced_code true answer n = n
replaced_code false (Ok done) n = raised 1 n
replaced_code false (Err why) n = n

-- and after each retirement that gave up a layout
abbrev pub retired_code : (has_ended : Bool) → Result ℕ NoMemory → ℕ → ℕ
retired_code true answer n = n
retired_code false (Ok gone) n = if nat_lt 0 gone then raised 1 n else n
retired_code false (Err why) n = n

-- ---- steps, of the harts 0 to 63 alone
abbrev pub steps_by : ℕ → List ℕ → ℕ
steps_by h steps = slice_index_or steps h 0

-- hart h made n more
abbrev pub with_steps : (h n : ℕ) → List ℕ → List ℕ
with_steps h n steps = slice_set steps h (raised n (steps_by h steps))

-- one more, unless the call is left out
abbrev pub with_step_by : (left_out : Bool) → ℕ → List ℕ → List ℕ
with_step_by true h steps = steps
with_step_by false h steps = with_steps h 1 steps
