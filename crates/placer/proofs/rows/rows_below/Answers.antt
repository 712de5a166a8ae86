use Rattle.std.proofs.Common.{ℕ, ltb, ltb-true, rules}
use Rattle.std.proofs.lemmas.Bool.{ltb-false}
use Rattle.std.proofs.lemmas.List.Sorted.{IsPartitionPoint-from_clause, IsPartitionedBy-ltb}
use Rattle.placer.specs.Chosen.{row_from}
use Rattle.placer.proofs.rows.rows_below.Goals as goal

pub returns-clause-below : goal.returns-clause-below
returns-clause-below c =
    let parted = IsPartitionedBy-ltb row_from c.args.rows.now c.args.from c.requires in
    let point = IsPartitionPoint-from_clause (λ (r : ℕ × ℕ × ℕ). ltb (row_from r) c.args.from) _ _ c.partition_point.ensures.partitioned parted (λ a r q k. search rules) in
    λ k d h lt. ltb-true _ _ (point.0 k d h lt)

pub returns-clause-others : goal.returns-clause-others
returns-clause-others c =
    let parted = IsPartitionedBy-ltb row_from c.args.rows.now c.args.from c.requires in
    let point = IsPartitionPoint-from_clause (λ (r : ℕ × ℕ × ℕ). ltb (row_from r) c.args.from) _ _ c.partition_point.ensures.partitioned parted (λ a r q k. search rules) in
    λ k d h lt. ltb-false _ _ (point.1 k d h lt)
