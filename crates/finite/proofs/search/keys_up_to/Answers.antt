use Rattle.std.proofs.Common.{leb, leb-true, rules}
use Rattle.std.proofs.lemmas.Bool.{leb-false}
use Rattle.std.proofs.lemmas.List.Sorted.{IsPartitionPoint-from_clause, IsPartitionedBy-leb}
use Rattle.finite.proofs.search.keys_up_to.Goals as goal

pub returns-clause-up_to : goal.returns-clause-up_to
returns-clause-up_to g c =
    let parted = IsPartitionedBy-leb g.T.Keyed.key c.args.items.now c.args.key c.requires in
    let point = IsPartitionPoint-from_clause (λ x. leb (g.T.Keyed.key x) c.args.key) _ _ c.partition_point.ensures.partitioned parted (λ a r q k. search rules) in
    λ k d h lt. leb-true _ _ (point.0 k d h lt)

pub returns-clause-others : goal.returns-clause-others
returns-clause-others g c =
    let parted = IsPartitionedBy-leb g.T.Keyed.key c.args.items.now c.args.key c.requires in
    let point = IsPartitionPoint-from_clause (λ x. leb (g.T.Keyed.key x) c.args.key) _ _ c.partition_point.ensures.partitioned parted (λ a r q k. search rules) in
    λ k d h lt. leb-false _ _ (point.1 k d h lt)
