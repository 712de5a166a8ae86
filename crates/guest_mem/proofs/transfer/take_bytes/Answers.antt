use Rattle.std.proofs.Common.{◌∙◌, sym, ap}
use Rattle.guest_mem.specs.Access.{seen}
use Rattle.guest_mem.specs.Memory.{bytes_from}
use Rattle.guest_mem.proofs.Reading.{bytes_from-none}
use Rattle.guest_mem.proofs.transfer.take_bytes.Goals as goal

pub returns-then-len-eq0-clause-ok : goal.returns-then-len-eq0-clause-ok
returns-then-len-eq0-clause-ok g c =
    let f = seen (g.O.Origins.origin c.args.origins.now) (g.S.WordStore.contents c.args.store.now) in
    c.new.ensures.items ∙ sym (bytes_from-none f c.args.at) ∙ ap (bytes_from f c.args.at) (sym c.if-len-eq0.true)
