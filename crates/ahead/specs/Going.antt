-- Where a hart stops that goes on by registers and pc alone. Source: this project.
use Rattle.std.specs.Prelude.{ℕ, zero, suc, Bool, false, not, ◌&&◌, is_some, if◌then◌else◌}
use Rattle.std.specs.Option.{option_map_or}
use Rattle.hart.specs.Effects.{is_private}
use Rattle.layout.specs.Points.{read}
use Rattle.machine.specs.Harts.{hart_in}
use Rattle.sim_laws.specs.Steps.{is_layout}
use Rattle.world.specs.Worlds.{Replaced, code_of, kind_of, step_of}

-- hart h after the steps of layouts alone that come next, at most n
abbrev pub before_real : ℕ → ℕ → Replaced → Replaced
before_real zero h w = w
before_real (suc n) h w = if is_layout (kind_of h w) then before_real n h (step_of h w) else w

-- hart h's step is one of the original machine on an instruction that reads and writes registers and pc alone, and the run goes on after it
abbrev pub goes_alone : ℕ → Replaced → Bool
goes_alone h w =
    not (is_layout (kind_of h w))
    && option_map_or is_private (read (code_of w).word (hart_in w.machine.harts h).pc) false
    && not (is_some (step_of h w).machine.outcome)
