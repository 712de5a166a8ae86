use Rattle.std.proofs.Common.{◌≡◌, ◌∙◌, sym, ap, length}
use Rattle.guest_mem.specs.Memory.{word_of}
use Rattle.guest_mem.proofs.FlatLaws.{word_there, word_absent}
use Rattle.guest_mem.proofs.flat.FlatMemWordStore.word.Goals as goal

pub returns-in-Some : goal.returns-in-Some
returns-in-Some c =
    let x = c.in-Some.word.now in
    let same : record { bytes = c.copied.result; tag = x.tag } ≡ x = ap (λ b. record { bytes = b; tag = x.tag }) c.copied.ensures.same in
    same
    ∙ word_there c.self.inside.words.entries c.self.inside.rights.items c.args.w x (ap length (sym c.copied.ensures.same) ∙ c.copied.ensures.full) (sym c.in-Some.ensures.value)
    ∙ ap (λ s. word_of s.contents c.args.w) c.self.view_is

pub returns-in-None : goal.returns-in-None
returns-in-None c =
    word_absent c.self.inside.words.entries c.self.inside.rights.items c.args.w (sym c.in-None.ensures.value)
    ∙ ap (λ s. word_of s.contents c.args.w) c.self.view_is
