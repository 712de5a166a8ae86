use Rattle.std.proofs.Common.{leb, leb-true, rules}
use Rattle.std.proofs.lemmas.Bool.{leb-false}
use Rattle.std.proofs.lemmas.List.Sorted.{IsPartitionPoint-from_clause, IsPartitionedBy-leb}
use Rattle.place_blocks.specs.Places.{start_of}
use Rattle.place_blocks.proofs.find.starts_up_to.Goals as goal

pub returns-clause-up_to : goal.returns-clause-up_to
returns-clause-up_to c =
    let parted = IsPartitionedBy-leb start_of c.args.blocks.now c.args.at c.requires in
    let point = IsPartitionPoint-from_clause (λ b. leb (start_of b) c.args.at) _ _ c.partition_point.ensures.partitioned parted (λ a r q k. search rules) in
    λ k d h lt. leb-true _ _ (point.0 k d h lt)

pub returns-clause-others : goal.returns-clause-others
returns-clause-others c =
    let parted = IsPartitionedBy-leb start_of c.args.blocks.now c.args.at c.requires in
    let point = IsPartitionPoint-from_clause (λ b. leb (start_of b) c.args.at) _ _ c.partition_point.ensures.partitioned parted (λ a r q k. search rules) in
    λ k d h lt. leb-false _ _ (point.1 k d h lt)
