use Rattle.std.proofs.Common.{◌∙◌, ap, arith}
use Rattle.std.proofs.lemmas.List.{take_all}
use Rattle.place_funcs.specs.Edges.{is_held}
use Rattle.place_funcs.proofs.Tallied.{none_counted, all_counted}
use Rattle.place_funcs.proofs.count.count_of.Goals as goal

pub loop-f-init : goal.loop-f-init
loop-f-init c = let n = none_counted c.args.profile.now c.new.result c.new.ensures.empty in record { sum = n.0; seen = λ d i. n.1 d }

pub returns : goal.returns
returns c =
    c.loop-f.invariant.sum
    ∙ all_counted c.args.funcs.now c.args.profile.now c.args.group.now c.loop-f.tally.seen
    (λ d i. c.loop-f.invariant.seen d i ∙ ap (λ fs. is_held c.args.funcs.now fs d.from) (take_all c.loop-f.f-index c.args.group.now (omega (arith, c.loop-f-test.false))))
