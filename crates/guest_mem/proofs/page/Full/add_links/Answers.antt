use Rattle.std.proofs.Common.{◌∙◌, ap}
use Rattle.guest_mem.proofs.PageLaws.{rows_none, rows_more, rows_skip}
use Rattle.guest_mem.proofs.page.Full.add_links.Goals as goal
use Rattle.guest_mem.proofs.page.Full.add_links.Goals.{then-self-row-ne0+in-Ok, else-self-row-ne0}

pub loop-row-init : goal.loop-row-init
loop-row-init c = rows_none c.args.self.now c.args.first c.args.found.now.items

pub loop-row-preserved : goal.loop-row-preserved
loop-row-preserved c =
    let f = c.args.self.now in
    let row = c.loop-row.row in
    elim c.if-self-row-ne0.branch [
      | then-self-row-ne0+in-Ok w ↦
          ap (λ v. v.items) w.found-is ∙ w.in-Ok.ensures
          ∙ rows_more f c.args.first row c.args.found.now.items c.loop-row.found.items c.loop-row.invariant
      | else-self-row-ne0 w ↦
          ap (λ v. v.items) w.found-is
          ∙ rows_skip f c.args.first row c.args.found.now.items c.loop-row.found.items c.loop-row.invariant w.if-self-row-ne0.false
    ]
