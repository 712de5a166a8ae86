use Rattle.std.proofs.Common.{◌∙◌, ◌-◌, ◌+◌, ◌*◌, cond, get_or, ap, arith}
use Rattle.finite.specs.Maps.{within}
use Rattle.guest_mem.proofs.PageLaws.{clears_more}
use Rattle.guest_mem.proofs.page.Full.clear.Goals as goal

pub loop-k-preserved : goal.loop-k-preserved
loop-k-preserved c =
    let n = c.args.hi - c.args.lo in
    let k = c.loop-k.k in
    clears_more c.args.lo n k c.args.self.now c.loop-k.self c.set_word.new.self c.zeroed-word.result (omega arith) c.loop-k.invariant
    (λ j lt. c.zeroed-word.ensures.put.bytes j lt ∙ ap (λ xs. cond (within c.args.lo n (8 * k + j)) 0 (get_or xs j 0)) c.word.ensures.bytes)
    c.zeroed-word.ensures.put.tag c.set_word.ensures.bytes c.set_word.ensures.links c.set_word.ensures.rights
