use Rattle.std.proofs.Common.{◌≡◌, ◌++◌, ℕ, map}
use Rattle.std.specs.Prelude.{filter, nat_lt}
use Rattle.place_blocks.specs.Edges.{Edge}
use Rattle.place_blocks.specs.Gains.{entry_of}
use Rattle.place_blocks.proofs.weigh.listed.Given as goal

abbrev pub invariant-loop-edge : goal.invariant-loop-edge
invariant-loop-edge l = map entry_of l.edges.items ++ filter (λ (e : Edge × ℕ). nat_lt 0 e.1) l.edge-iterator ≡ filter (λ (e : Edge × ℕ). nat_lt 0 e.1) l.weights.entries
