use Rattle.std.proofs.Common.{◌∙◌, ◌*◌, sym, ap, arith}
use Rattle.guest_mem.specs.Memory.{number_of}
use Rattle.guest_mem.proofs.PageLaws.{row_none, row_more, row_skip}
use Rattle.guest_mem.proofs.page.Full.add_row.Goals as goal
use Rattle.guest_mem.proofs.page.Full.add_row.Goals.{then-bit+in-Ok, else-bit}

pub loop-k-init : goal.loop-k-init
loop-k-init c = row_none c.args.self.now c.args.first (64 * c.args.row) (64 * c.args.row) c.args.found.now.items (omega arith)

pub loop-k-preserved : goal.loop-k-preserved
loop-k-preserved c =
    let f = c.args.self.now in
    let k = c.loop-k.k in
    let lo = 64 * c.args.row in
    elim c.if-bit.branch [
      | then-bit+in-Ok w ↦
          ap (λ v. v.items) w.found-is ∙ w.in-Ok.ensures.items
          ∙ row_more f c.args.first lo k _ c.args.found.now.items c.loop-k.found.items (omega arith) c.loop-k.invariant (sym c.bit.ensures ∙ w.if-bit.true)
          (w.number-number.ensures.value ∙ ap number_of w.word.ensures.bytes)
      | else-bit w ↦
          ap (λ v. v.items) w.found-is
          ∙ row_skip f c.args.first lo k c.args.found.now.items c.loop-k.found.items (omega arith) c.loop-k.invariant (sym c.bit.ensures ∙ w.if-bit.false)
    ]
