use Rattle.std.proofs.Common.{leb, leb-true, rules}
use Rattle.std.proofs.lemmas.Bool.{leb-false}
use Rattle.std.proofs.lemmas.List.Sorted.{IsPartitionPoint-from_clause, IsPartitionedBy-leb}
use Rattle.relocs.specs.Cover.{start_of}
use Rattle.relocs.proofs.cover.starts_up_to.Goals as goal

pub returns-clause-before : goal.returns-clause-before
returns-clause-before c =
    let point = IsPartitionPoint-from_clause (λ r. leb r.0 c.args.from) _ _ c.partition_point.ensures.partitioned (IsPartitionedBy-leb start_of _ c.args.from c.requires) (λ a r q k. search rules) in
    λ k d h lt. leb-true _ _ (point.0 k d h lt)

pub returns-clause-past : goal.returns-clause-past
returns-clause-past c =
    let point = IsPartitionPoint-from_clause (λ r. leb r.0 c.args.from) _ _ c.partition_point.ensures.partitioned (IsPartitionedBy-leb start_of _ c.args.from c.requires) (λ a r q k. search rules) in
    λ k d h lt. leb-false _ _ (point.1 k d h lt)
