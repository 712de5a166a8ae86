use Rattle.std.proofs.Common.{ltb, ltb-true, rules}
use Rattle.std.proofs.lemmas.Bool.{ltb-false}
use Rattle.std.proofs.lemmas.List.Sorted.{IsPartitionPoint-from_clause, IsPartitionedBy-ltb}
use Rattle.place_funcs.specs.Rows.{start_of}
use Rattle.place_funcs.proofs.rows.below.Goals as goal

pub returns-clause-below : goal.returns-clause-below
returns-clause-below c =
    let parted = IsPartitionedBy-ltb start_of c.args.profile.now c.args.at c.requires in
    let point = IsPartitionPoint-from_clause (λ x. ltb (start_of x) c.args.at) _ _ c.partition_point.ensures.partitioned parted (λ a r q k. search rules) in
    λ k d h lt. ltb-true _ _ (point.0 k d h lt)

pub returns-clause-others : goal.returns-clause-others
returns-clause-others c =
    let parted = IsPartitionedBy-ltb start_of c.args.profile.now c.args.at c.requires in
    let point = IsPartitionPoint-from_clause (λ x. ltb (start_of x) c.args.at) _ _ c.partition_point.ensures.partitioned parted (λ a r q k. search rules) in
    λ k d h lt. ltb-false _ _ (point.1 k d h lt)
