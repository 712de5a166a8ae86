use Rattle.std.proofs.Common.{◌∙◌, sym, ap, subst, true}
use Rattle.finite.specs.Maps.{contains}
use Rattle.guest_mem.specs.Flat.{AllLow}
use Rattle.guest_mem.proofs.Laws.{with_same}
use Rattle.guest_mem.proofs.LinkLaws.{low_insert}
use Rattle.guest_mem.specs.Memory.{with_word}
use Rattle.guest_mem.proofs.FlatLaws.{made_room, flat_set, kept_room, flat_word, passes}
use Rattle.guest_mem.proofs.flat.FlatMemWordStore.make_room.Goals as goal

pub returns-in_default-clause-roomy : goal.returns-in_default-clause-roomy
returns-in_default-clause-roomy c =
    sym (ap (λ s. contains s.room c.args.w) c.self.view_is)
    ∙ flat_word (λ _. true) c.self.inside.words.entries c.args.w
    ∙ ap (passes (λ _. true)) c.in_default.ensures.absent

pub returns-clause-same : goal.returns-clause-same
returns-clause-same c =
    flat_set c.self.inside.words.entries c.insert.new.self.entries c.self.inside.rights.items c.args.w c.word-word.result c.in-Ok.ensures.updates.0
    ∙ ap (λ s. with_word s.contents c.args.w c.word-word.result) c.self.view_is
    ∙ ap (with_word c.args.self.now.contents c.args.w) c.word-word.ensures
    ∙ with_same c.args.self.now.contents c.args.w

pub returns-clause-room : goal.returns-clause-room
returns-clause-room c v had =
    kept_room c.self.inside.words.entries c.insert.new.self.entries c.args.w c.word-word.result c.in-Ok.ensures.updates.0 v (ap (λ s. contains s.room v) c.self.view_is ∙ had)

pub returns-clause-made : goal.returns-clause-made
returns-clause-made c = made_room c.self.inside.words.entries c.insert.new.self.entries c.args.w c.word-word.result c.in-Ok.ensures.updates.0

pub invariant_of-self-2 : goal.invariant_of-self-2
invariant_of-self-2 c =
    record {
      words = subst AllLow (sym c.in-Ok.ensures.entries) (low_insert c.self.inside.words.entries c.args.w c.word-word.result c.requires c.self.invariant.words);
      rights = c.self.invariant.rights;
    }
