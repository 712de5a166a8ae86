use Rattle.std.proofs.Common.{◌+◌, ◌*◌, length, ◌∙◌, sym, arith}
use Rattle.relocs.proofs.FunctionLemmas.{in_one, shifted}
use Rattle.relocs.proofs.functions.in_one_text.Goals as goal

pub returns : goal.returns
returns c =
    let held = in_one c.args.texts.now c.args.from (c.args.from + c.args.size) c.in-Some.t.now c.requires.rise (omega arith) c.in-Some.ensures.first in
    rw c.len.ensures (shifted c.args.size c.args.from (c.in-Some.t.now.from + 4 * length c.in-Some.t.now.words) (omega (arith, c.in-Some.ensures.to)) ∙ sym held)
