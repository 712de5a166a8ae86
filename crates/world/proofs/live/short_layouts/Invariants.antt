use Rattle.std.proofs.Common.{ℕ, ◌<◌, ◌^◌, get_or}
use Rattle.std.specs.Prelude.{All}
use Rattle.layout.specs.Laid.{Laid}
use Rattle.world.proofs.live.short_layouts.Given as goal

abbrev pub invariant-loop-layout : goal.invariant-loop-layout
invariant-loop-layout l = (k : ℕ) (d : Laid) → k < l.layout-index → All (λ w. w < 2 ^ 32) (get_or l.layouts k d).words
