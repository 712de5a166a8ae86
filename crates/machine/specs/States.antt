-- A machine as contracts see it.
use Rattle.std.specs.Prelude.{Option, List}
use Rattle.hart.specs.declared.hart.Hart.{Hart}
use Rattle.guest_mem.specs.Memory.{Memory}
use Rattle.guest_sys.specs.State as system
use Rattle.machine.specs.declared.outcome.Outcome.{Outcome}

pub record State : Type 0 where
  -- the harts that were made, by their numbers
  pub harts : List Hart
  pub memory : Memory
  pub system : system.State
  -- how the run ended, once it has
  pub outcome : Option Outcome
