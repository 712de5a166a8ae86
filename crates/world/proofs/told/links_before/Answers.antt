use Rattle.std.proofs.Common.{ltb, ltb-true, rules, ℕ}
use Rattle.std.proofs.lemmas.Bool.{ltb-false}
use Rattle.std.proofs.lemmas.List.Sorted.{IsPartitionPoint-from_clause, IsPartitionedBy-ltb}
use Rattle.world.proofs.LinksRise.{never_falls}
use Rattle.world.proofs.told.links_before.Goals as goal

pub returns-clause-below : goal.returns-clause-below
returns-clause-below c =
    let parted = IsPartitionedBy-ltb (λ (l : ℕ × ℕ). l.0) c.args.links.now c.args.at (never_falls c.args.links.now c.requires) in
    let point = IsPartitionPoint-from_clause (λ (l : ℕ × ℕ). ltb l.0 c.args.at) _ _ c.partition_point.ensures.partitioned parted (λ a r q k. search rules) in
    λ k d h lt. ltb-true _ _ (point.0 k d h lt)

pub returns-clause-others : goal.returns-clause-others
returns-clause-others c =
    let parted = IsPartitionedBy-ltb (λ (l : ℕ × ℕ). l.0) c.args.links.now c.args.at (never_falls c.args.links.now c.requires) in
    let point = IsPartitionPoint-from_clause (λ (l : ℕ × ℕ). ltb l.0 c.args.at) _ _ c.partition_point.ensures.partitioned parted (λ a r q k. search rules) in
    λ k d h lt. ltb-false _ _ (point.1 k d h lt)
