use Rattle.std.proofs.Common.{◌≡◌, ◌<◌, ◌^◌, ◌∙◌, ℕ, List, ◌∷◌, ◌++◌, map, length, sym, ap, subst}
use Rattle.std.specs.List.{All}
use Rattle.place_blocks.specs.Ranks.{ranked, sum_of}
use Rattle.place_blocks.specs.Slots.{chains_in}
use Rattle.place_blocks.proofs.Laid.{ranked_more, all_head, all_tail}
use Rattle.place_blocks.proofs.lay.rank_all.Goals as goal

pub loop-chain-preserved : goal.loop-chain-preserved
loop-chain-preserved c =
    let step : c.loop-chain.chain-iterator.rest.items ≡ c.in-Some.chain ∷ c.next.new.self.rest.items = c.in-Some.ensures.steps.0 in
    record {
      below = all_tail (λ d. All (λ b. b < length c.args.counts.now) d) c.in-Some.chain c.next.new.self.rest.items (subst (All (λ d. All (λ b. b < length c.args.counts.now) d)) step c.loop-chain.invariant.below);
      fits = all_tail (λ d. sum_of c.args.counts.now d < 2 ^ 64) c.in-Some.chain c.next.new.self.rest.items (subst (All (λ d. sum_of c.args.counts.now d < 2 ^ 64)) step c.loop-chain.invariant.fits);
      same = ranked_more c.args.counts.now c.loop-chain.ranks.items c.in-Some.chain c.next.new.self.rest.items c.push_rank.new.ranks.items c.in_ok-push_rank.ensures
          ∙ ap (λ (l : List (List ℕ)). c.loop-chain.ranks.items ++ map (ranked c.args.counts.now) (chains_in l)) (sym step) ∙ c.loop-chain.invariant.same;
    }

pub push_rank-requires-clause-below : goal.push_rank-requires-clause-below
push_rank-requires-clause-below c =
    let step : c.loop-chain.chain-iterator.rest.items ≡ c.in-Some.chain ∷ c.next.new.self.rest.items = c.in-Some.ensures.steps.0 in
    all_head (λ d. All (λ b. b < length c.args.counts.now) d) c.in-Some.chain c.next.new.self.rest.items (subst (All (λ d. All (λ b. b < length c.args.counts.now) d)) step c.loop-chain.invariant.below)

pub push_rank-requires-clause-fits : goal.push_rank-requires-clause-fits
push_rank-requires-clause-fits c =
    let step : c.loop-chain.chain-iterator.rest.items ≡ c.in-Some.chain ∷ c.next.new.self.rest.items = c.in-Some.ensures.steps.0 in
    all_head (λ d. sum_of c.args.counts.now d < 2 ^ 64) c.in-Some.chain c.next.new.self.rest.items (subst (All (λ d. sum_of c.args.counts.now d < 2 ^ 64)) step c.loop-chain.invariant.fits)
