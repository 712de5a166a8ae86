use Rattle.std.proofs.Common.{ℕ, List, ◌∙◌, ◌/◌, sym, ap}
use Rattle.finite.specs.Maps.{contains}
use Rattle.link_tags.specs.declared.value.Tag.TheVariants.{Link}
use Rattle.guest_mem.specs.Memory.{with_word}
use Rattle.guest_mem.proofs.Laws.{settled, link_again}
use Rattle.guest_mem.proofs.access.set_link.Goals as goal

pub returns-then-has_room-clause-contents : goal.returns-then-has_room-clause-contents
returns-then-has_room-clause-contents g c =
    let m = g.S.WordStore.contents c.args.store.now in
    let w = c.args.at / 8 in
    settled c.set_word.result (g.S.WordStore.contents c.set_word.new.self) (with_word m w (record { bytes = c.bytes.result; tag = Link }))
    (contains (g.S.WordStore.room c.args.store.now) w) c.set_word.ensures.ok c.set_word.ensures.roomy
    (sym c.has_room.ensures.value ∙ c.if-has_room.true)
    ∙ ap (λ (xs : List ℕ). with_word m w (record { bytes = xs; tag = Link })) c.bytes.ensures
    ∙ link_again m c.args.at c.args.number c.requires
