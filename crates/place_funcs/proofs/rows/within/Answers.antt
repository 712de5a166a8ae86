use Rattle.std.proofs.Common.{◌-◌, ap, drop, length, take, ◌∙◌, arith}
use Rattle.std.proofs.lemmas.List.{take_all, length-drop}
use Rattle.place_funcs.proofs.Slices.{between_bounds, bounds_rise}
use Rattle.place_funcs.proofs.rows.within.Goals as goal

pub slice_bounds-result-count : goal.slice_bounds-result-count
slice_bounds-result-count c = bounds_rise c.args.profile.now c.args.func c.below-first.result c.below-last.result c.requires.ordered c.below-first.ensures.within c.below-first.ensures.below c.below-last.ensures.others

pub returns : goal.returns
returns c =
    ap (take (c.below-last.result - c.below-first.result)) (take_all (length c.args.profile.now - c.below-first.result) (drop c.below-first.result c.args.profile.now) (let n = length-drop c.below-first.result c.args.profile.now in omega (arith, n)))
    ∙ between_bounds c.args.profile.now c.args.func c.below-first.result c.below-last.result
    (bounds_rise c.args.profile.now c.args.func c.below-first.result c.below-last.result c.requires.ordered c.below-first.ensures.within c.below-first.ensures.below c.below-last.ensures.others)
    c.below-last.ensures.within c.below-first.ensures.below c.below-first.ensures.others c.below-last.ensures.below c.below-last.ensures.others
