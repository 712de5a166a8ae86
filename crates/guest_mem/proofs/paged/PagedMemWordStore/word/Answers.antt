use Rattle.std.proofs.Common.{◌≡◌, ◌∙◌, ◌/◌, ap, arith}
use Rattle.std.proofs.lemmas.List.{get_or_read}
use Rattle.guest_mem.specs.Memory.{word_of}
use Rattle.guest_mem.specs.Paged.{no_page, page_of}
use Rattle.guest_mem.proofs.PagedLaws.{paged_word, paged_absent}
use Rattle.guest_mem.proofs.paged.PagedMemWordStore.word.Goals as goal

pub returns-then-w : goal.returns-then-w
returns-then-w c = paged_absent c.self.inside.pages.items c.args.w (omega arith) ∙ ap (λ s. word_of s.contents c.args.w) c.self.view_is

pub returns : goal.returns
returns c =
    let ps = c.self.inside.pages.items in
    let w = c.args.w in
    let is : c.index.result.now ≡ page_of ps (w / 512) = get_or_read ps (w / 512) c.index.result.now (omega arith) c.index.ensures no_page in
    paged_word ps w c.word.result c.index.result.now is c.word.ensures.full c.word.ensures.bytes c.word.ensures.tag
    ∙ ap (λ s. word_of s.contents w) c.self.view_is
