use Rattle.std.proofs.Common.{◌≡◌, ℕ, List, []}
use Rattle.std.specs.Prelude.{◌<◌, All, length}
use Rattle.place_funcs.specs.Edges.{count}
use Rattle.place_funcs.specs.Grouping.{ranks}
use Rattle.place_funcs.proofs.order.ranked.Given as goal

abbrev pub invariant-loop-name : goal.invariant-loop-name
invariant-loop-name l = record {
  same : ranks (count l.funcs l.profile) l.ranked.entries l.name-iterator ≡ ranks (count l.funcs l.profile) [] l.fn.groups.entries;
  there : All (λ (e : ℕ × List ℕ). All (λ f. f < length l.funcs) e.1) l.name-iterator;
}
