use Rattle.std.proofs.Common.{sym, arith}
use Rattle.std.proofs.lemmas.List.{take_all, length-take-le}
use Rattle.script_words.proofs.head.Goals as goal

pub returns-then-text-le-SHOWN : goal.returns-then-text-le-SHOWN
returns-then-text-le-SHOWN c = sym (take_all 60 c.args.text.now (omega (arith, c.if-text-le-SHOWN.true)))

pub slice_bounds-result-end : goal.slice_bounds-result-end
slice_bounds-result-end c = sym (length-take-le 60 c.args.text.now (omega (arith, c.if-text-le-SHOWN.false)))
