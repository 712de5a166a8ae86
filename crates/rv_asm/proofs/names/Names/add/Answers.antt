use Rattle.std.proofs.Common.{refl, sym, ◌∙◌}
use Rattle.std.specs.Str.{bytes_eq}
use Rattle.rv_asm.proofs.Named.{insert_view, added}
use Rattle.rv_asm.proofs.names.Names.add.Goals as goal

pub returns-in_ok-insert-in-None : goal.returns-in_ok-insert-in-None
returns-in_ok-insert-in-None c =
    let none = sym c.get.ensures ∙ c.in-None.is in
    let entries = c.in_ok-insert-in-None.ensures.entries in
    let items = c.in_ok-name-in-None.ensures.items in
    let view = c.self.view_is in
    let made = insert_view (λ k. k.items) (λ x y. bytes_eq x.items y.items) c.self.inside.table.entries c.in_ok-name-in-None.name c.args.meaning (λ x. refl) cc in
    let plus = added c.args.self.now c.args.name.now c.args.meaning none in
    cc
