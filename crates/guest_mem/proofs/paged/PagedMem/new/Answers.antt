use Rattle.std.proofs.Common.{◌∙◌, ap}
use Rattle.guest_mem.specs.Paged.{paged_memory, paged_room}
use Rattle.guest_mem.proofs.PagedLaws.{blank_pages, blank_room}
use Rattle.guest_mem.proofs.paged.PagedMem.new.Goals as goal

pub returns : goal.returns
returns c =
    let n = c.loop.counter in
    let m = ap paged_memory c.loop.invariant ∙ blank_pages n in
    let r = ap paged_room c.loop.invariant ∙ blank_room n in
    λ i. record { contents = m i; room = r i }
