-- Transfers of control: the steps on a branch, taken or not, or a jump that don't end the run, each by the original addresses of its
-- instruction and of the one that comes next. Source: this project.
use Rattle.std.specs.Prelude.{ℕ, Bool, true, false, not, ◌==◌, ◌&&◌, is_some, List, [], ◌∷◌, ◌++◌, Option, Some, None, if◌then◌else◌}
use Rattle.std.specs.Option.{option_and_then, option_map_or, option_to_list}
use Rattle.rv_isa.specs.Decoded.{decoded}
use Rattle.rv_isa.specs.declared.instr.Instr.{Instr}
use Rattle.rv_isa.specs.declared.instr.Instr.TheVariants.{Jal, Jalr, Branch}
use Rattle.image.specs.Picture.{Picture}
use Rattle.image.specs.Texts.{word_at}
use Rattle.machine.specs.Harts.{hart_in}
use Rattle.machine.specs.States.{State}
use Rattle.machine.specs.Steps.{place_of, can_step, step_with, original_step}

abbrev pub transfers : Instr → Bool
transfers (Branch c rs1 rs2 off) = true
transfers (Jal rd off) = true
transfers (Jalr rd rs1 off) = true
transfers _ = false

-- a word was fetched that reads as such an instruction
abbrev pub is_transfer : Option ℕ → Bool
is_transfer fetched = option_map_or transfers (option_and_then decoded fetched) false

-- the transfer of hart h by what it fetched, from a state to the next one, if it makes one
abbrev pub transfer_on : (origin : ℕ → ℕ) → ℕ → (fetched : Option ℕ) → (s next : State) → Option (ℕ × ℕ)
transfer_on origin h fetched s next =
    if is_transfer fetched && not (is_some next.outcome) then Some (place_of origin h s, place_of origin h next) else None

-- that of its step
unfoldable pub transfer_with : (fetch : ℕ → Option ℕ) → (origin : ℕ → ℕ) → Picture → ℕ → State → Option (ℕ × ℕ)
transfer_with fetch origin image h s =
    if can_step h s then transfer_on origin h (fetch (hart_in s.harts h).pc) s (step_with fetch origin image h s) else None

-- that of a step of the original machine
unfoldable pub original_transfer : Picture → ℕ → State → Option (ℕ × ℕ)
original_transfer image h s = transfer_with (word_at image.texts) (λ a. a) image h s

-- the transfers of hart h in a run of the original machine, in their order
abbrev pub original_transfers : Picture → ℕ → List ℕ → State → List (ℕ × ℕ)
original_transfers image h [] s = []
original_transfers image h (k ∷ ks) s =
    (if k == h then option_to_list (original_transfer image k s) else []) ++ original_transfers image h ks (original_step image k s)
