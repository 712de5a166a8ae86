use Rattle.std.proofs.Common.{◌<◌, length, arith}
use Rattle.std.proofs.lemmas.Grind.{common_steps}
use Rattle.relocs.proofs.FunctionLemmas.{end_at_none, end_at_read}
use Rattle.relocs.proofs.functions.ends.Goals as goal

pub loop-i-init : goal.loop-i-init
loop-i-init c = λ q. grind (arith, common_steps, end_at_none c.args.texts.now q)

pub loop-i-preserved : goal.loop-i-preserved
loop-i-preserved c = λ q.
    let within : c.loop-i.i < length c.args.symbols.now = omega (arith, c.loop-i-test.true, c.len-i-end.ensures) in
    let now = c.in_ok-note.ensures q in
    let before = c.loop-i.invariant q in
    let more = end_at_read c.args.texts.now c.args.symbols.now q c.loop-i.i c.at-s.result within c.at-s.ensures in
    cc
