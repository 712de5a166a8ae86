use Rattle.rv_asm.proofs.Named.{lookup_view}
use Rattle.rv_asm.proofs.names.Names.get.Goals as goal

pub returns : goal.returns
returns c =
    let seen = lookup_view (λ k. k.items) c.self.inside.table.entries c.args.name.now in
    let value = c.get.ensures.value in
    let copied = c.copied.ensures in
    let view = c.self.view_is in
    cc
