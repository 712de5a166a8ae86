use Rattle.std.proofs.Common.{◌∙◌, arith}
use Rattle.std.proofs.lemmas.List.{get_or_default}
use Rattle.guest_mem.specs.Paged.{no_page}
use Rattle.guest_mem.proofs.PagedLaws.{links_none, links_more}
use Rattle.guest_mem.proofs.paged.links_in.Goals as goal

pub loop-i-init : goal.loop-i-init
loop-i-init c = links_none c.args.pages.now c.new-found.result.items c.new-found.ensures.items

pub loop-i-preserved : goal.loop-i-preserved
loop-i-preserved c =
    let is = c.index-pages-i.is ∙ get_or_default c.args.pages.now c.loop-i.i c.index-pages-i.result no_page (omega arith) in
    c.in-Ok.ensures ∙ links_more c.args.pages.now c.loop-i.i c.index-pages-i.result c.loop-i.found.items is c.loop-i.invariant
