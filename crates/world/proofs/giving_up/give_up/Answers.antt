use Rattle.std.proofs.Common.{ℕ, ◌-◌, ◌<◌, sym, ap, ◌∙◌, subst, arith}
use Rattle.std.specs.Prelude.{slice_index_or, slice_get}
use Rattle.std.specs.List.{remove}
use Rattle.world.specs.Retiring.{given_back}
use Rattle.world.proofs.LeftOver.{climbs}
use Rattle.world.proofs.OneByOne.{next_there, next_spread, next_length, next_without, next_freed}
use Rattle.world.proofs.giving_up.give_up.Goals as goal

pub give_up_one-requires-clause-lives : goal.give_up_one-requires-clause-lives
give_up_one-requires-clause-lives c =
    rw c.loop-i.invariant.lives
    (next_there c.args.region.now.all c.args.lives.now.items c.args.region.now.free c.args.gone.now (climbs c.args.gone.now c.requires.rises) c.requires.within c.loop-i.i 0
    c.loop-i-test.true c.loop-i.invariant.within)

pub give_up_one-requires-clause-numbers : goal.give_up_one-requires-clause-numbers
give_up_one-requires-clause-numbers c =
    let there = next_there c.args.region.now.all c.args.lives.now.items c.args.region.now.free c.args.gone.now (climbs c.args.gone.now c.requires.rises) c.requires.within c.loop-i.i 0
    c.loop-i-test.true c.loop-i.invariant.within in
    let same = next_length c.args.region.now.all c.args.lives.now.items c.args.region.now.free c.args.gone.now (climbs c.args.gone.now c.requires.rises) c.requires.within c.loop-i.i 0
    c.loop-i-test.true c.loop-i.invariant.within c.args.numbers.now.items c.requires.numbers in
    rw c.loop-i.invariant.numbers (subst (λ (n : ℕ). slice_index_or c.args.gone.now (c.loop-i.i - 1) 0 < n) (sym same) there)

pub give_up_one-requires-clause-spread : goal.give_up_one-requires-clause-spread
give_up_one-requires-clause-spread c =
    rw (c.loop-i.invariant.all, c.loop-i.invariant.lives, c.loop-i.invariant.free)
    (next_spread c.args.region.now.all c.args.lives.now.items c.args.region.now.free c.args.gone.now (climbs c.args.gone.now c.requires.rises) c.requires.within c.loop-i.i 0
    c.loop-i-test.true c.loop-i.invariant.within c.requires.spread)

pub loop-i-preserved : goal.loop-i-preserved
loop-i-preserved c =
    let i = c.loop-i.invariant in
    let k = slice_index_or c.args.gone.now (c.loop-i.i - 1) 0 in
    let within = i.within in
    let spare = i.spare in
    let one = c.give_up_one.ensures.spare in
    let lives = next_without c.args.region.now.all c.args.lives.now.items c.args.region.now.free c.args.gone.now (climbs c.args.gone.now c.requires.rises) c.requires.within c.loop-i.i 0
    c.loop-i-test.true i.within c.args.lives.now.items in
    let numbers = next_without c.args.region.now.all c.args.lives.now.items c.args.region.now.free c.args.gone.now (climbs c.args.gone.now c.requires.rises) c.requires.within c.loop-i.i 0
    c.loop-i-test.true i.within c.args.numbers.now.items in
    let free = next_freed c.args.region.now.all c.args.lives.now.items c.args.region.now.free c.args.gone.now (climbs c.args.gone.now c.requires.rises) c.requires.within c.loop-i.i 0
    c.loop-i-test.true i.within in
    record {
      within = omega (arith, within);
      lives = c.give_up_one.ensures.lives ∙ ap (λ xs. remove xs k) i.lives ∙ lives;
      numbers = c.give_up_one.ensures.numbers ∙ ap (λ xs. remove xs k) i.numbers ∙ numbers;
      free = c.give_up_one.ensures.free ∙ (λ j. given_back (slice_get (i.lives j) k) (i.free j)) ∙ free;
      all = c.give_up_one.ensures.all ∙ i.all;
      spare = omega (arith, spare, one);
    }
