-- How many real steps a log makes, and where among them its last snapshot and its last attempt stand. An attempt is a Retire and
-- the Replace after it. Source: this project.
use Rattle.std.specs.Prelude.{ℕ, ◌+◌, Bool, true, false, List, [], ◌∷◌}
use Rattle.sched_log.specs.declared.event.Event.{Event}
use Rattle.sched_log.specs.declared.event.Event.TheVariants.{Real, Snap, Replace, Retire}

pub record Clock : Type 0 where
  -- the real steps of all entries
  pub real : ℕ
  -- those before the last attempt, and those before the last snapshot; 0 where there is none
  pub attempted_at : ℕ
  pub snapped_at : ℕ
  -- a snapshot has no attempt yet
  pub pending : Bool
  -- the last entry is a Retire
  pub retired : Bool

abbrev pub zero_clock : Clock
zero_clock = record { real = 0; attempted_at = 0; snapped_at = 0; pending = false; retired = false }

-- one more entry
abbrev pub tick : Clock → Event → Clock
tick c (Real h n) = record c { real = c.real + n; retired = false }
tick c Snap = record c { snapped_at = c.real; pending = true; retired = false }
tick c Retire = record c { retired = true }
tick c Replace = record c { attempted_at = c.real; pending = false; retired = false }
tick c _ = record c { retired = false }

unfoldable pub clock_from : Clock → List Event → Clock
clock_from c [] = c
clock_from c (e ∷ es) = clock_from (tick c e) es

abbrev pub clock_of : List Event → Clock
clock_of log = clock_from zero_clock log

-- the real steps of a log
abbrev pub reals : List Event → ℕ
reals log = (clock_of log).real
