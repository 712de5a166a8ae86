use Rattle.std.proofs.Common.{List, ℕ, subst}
use Rattle.std.specs.List.Sorted.{IsPermutation}
use Rattle.placer.proofs.Gathered.{by_targets}
use Rattle.placer.proofs.rows.by_target.Goals as goal

pub returns : goal.returns
returns c =
    record {
      same = λ row. by_targets c.args.rows.now c.sort.new.rows.items row (subst (λ (xs : List (ℕ × ℕ × ℕ)). IsPermutation xs c.sort.new.rows.items) c.in_ok-all.ensures c.sort.ensures.same);
      rises = c.sort.ensures.rises;
    }
