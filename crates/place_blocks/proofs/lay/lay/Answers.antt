use Rattle.std.proofs.Common.{◌∙◌, ◌<◌, ◌^◌, ℕ, List, map, length, get_or, sym, ap, subst}
use Rattle.std.specs.List.{All, flat_map}
use Rattle.branch_ring.specs.Profiles.{counted}
use Rattle.place_blocks.specs.Ranks.{ranked, chain_of, sum_of}
use Rattle.place_blocks.specs.Slots.{chains_in}
use Rattle.place_blocks.proofs.Laid.{chains_below, chains_once, sum_small, is_laid}
use Rattle.place_blocks.proofs.lay.lay.Goals as goal

pub rank_all-requires-clause-below : goal.rank_all-requires-clause-below
rank_all-requires-clause-below c =
    subst (λ (n : ℕ). All (λ d. All (λ b. b < n) d) c.args.slots.items) (sym (ap length c.deref.ensures.value ∙ c.in_ok-counts.ensures.size)) (chains_below (length c.args.blocks.now) c.args.slots.items c.requires.each)

pub rank_all-requires-clause-fits : goal.rank_all-requires-clause-fits
rank_all-requires-clause-fits c =
    λ k d lt.
    subst (λ (l : List ℕ). sum_of l (get_or c.args.slots.items k d) < 2 ^ 64) (sym c.deref.ensures.value)
    (sum_small c.args.blocks.now (map counted c.args.rows.now) c.requires.are c.in_ok-counts.counts.items c.in_ok-counts.ensures.counts (get_or c.args.slots.items k d) (chains_once (length c.args.blocks.now) c.args.slots.items c.requires.each k d lt) c.requires.kept.small)

pub returns : goal.returns
returns c =
    is_laid c.args.blocks.now (map counted c.args.rows.now) c.requires.are c.in_ok-counts.counts.items c.in_ok-counts.ensures.counts c.args.slots.items c.requires.each
    c.in_ok-ranks.ranks.items c.sort.new.ranks.items (c.in_ok-ranks.ensures ∙ ap (λ (l : List ℕ). map (ranked l) (chains_in c.args.slots.items)) c.deref.ensures.value)
    c.sort.ensures.same c.sort.ensures.sorted c.in_ok-order.order.items (c.in_ok-order.ensures ∙ ap (flat_map chain_of) c.deref-2.ensures.value)
