-- What is run with no files: a generated guest, and the script that goes with it. Source: this project.
use Rattle.std.specs.Prelude.{◌≡◌, ℕ, zero, suc, ◌*◌, List, [], ◌∷◌, ◌++◌}
use Rattle.elf_make.specs.File.{elf_of}
use Rattle.guest_gen.specs.Generated.{IsGenerated}
use Rattle.rv_asm.specs.declared.program.Program.{Program}
use Rattle.sched_log.specs.Printed.{printed}
use Rattle.sched_log.specs.declared.event.Event.{Event}
use Rattle.sched_log.specs.declared.event.Event.TheVariants.{Till, Snap, Retire, Replace}

-- the bytes are the file of the guest of n thousand rounds
pub record IsGuest (n : ℕ) (bytes : List ℕ) : Type 0 where
  pub program : Program
  pub generated : IsGenerated n program
  pub is : bytes ≡ elf_of program

-- some turns, and then code is moved by what they did
abbrev pub round : ℕ → List Event
round n = Till (500 * n) ∷ Snap ∷ Retire ∷ Replace ∷ []

-- so many rounds
abbrev pub rounds : ℕ → ℕ → List Event
rounds zero n = []
rounds (suc count) n = rounds count n ++ round n

-- 20 rounds, and then turns enough for the guest to end
abbrev pub guest_events : ℕ → List Event
guest_events n = rounds 20 n ++ Till (100000 * n) ∷ []

unfoldable pub guest_script : ℕ → List ℕ
guest_script n = printed (guest_events n)
