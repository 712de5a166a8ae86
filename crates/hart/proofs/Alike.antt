-- What an instruction does where it is known by its parts.
use Rattle.std.proofs.Common.{◌≡◌, ℕ, sym, subst}
use Rattle.rv_isa.specs.declared.instr.Instr.{Instr}
use Rattle.guest_mem.specs.Memory.{Memory}
use Rattle.hart.specs.declared.hart.Hart.{Hart}
use Rattle.hart.specs.declared.act.Acted.{Acted}
use Rattle.hart.specs.Effects.{effect_of, Acts}

pub does_as : (origin : ℕ → ℕ) (i j : Instr) (h h' : Hart) (m m' : Memory) (result : Acted) → i ≡ j → Acts origin (effect_of origin m h j) h h' m m' result → Acts origin (effect_of origin m h i) h h' m m' result
does_as origin i j h h' m m' result is acts = subst (λ (k : Instr). Acts origin (effect_of origin m h k) h h' m m' result) (sym is) acts
