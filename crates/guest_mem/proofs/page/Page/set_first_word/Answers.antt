use Rattle.std.proofs.Common.{◌≡◌, ◌∙◌, cond, nat_eq, get_or, ap}
use Rattle.link_tags.specs.Values.{is_link}
use Rattle.guest_mem.specs.declared.page.Full.{Full}
use Rattle.guest_mem.specs.Bits.{bit_in}
use Rattle.guest_mem.specs.Pages.{full_byte, full_right}
use Rattle.guest_mem.proofs.PageLaws.{first_word, zero_kept}
use Rattle.guest_mem.proofs.page.Page.set_first_word.Goals as goal

pub returns-then-is_zero-clause-ok : goal.returns-then-is_zero-clause-ok
returns-then-is_zero-clause-ok c =
    zero_kept c.args.self.now c.args.k c.args.word c.requires.zero (c.is_zero.ensures.bytes c.if-is_zero.true) (c.is_zero.ensures.tag c.if-is_zero.true)

pub returns-clause-ok : goal.returns-clause-ok
returns-clause-ok c =
    let is : c.deref_mut.result.now ≡ c.blank.result = c.deref_mut.ensures.value ∙ c.in-Ok.ensures.ok in
    let k = c.args.k in
    let x = c.args.word in
    first_word c.args.self.now k x c.in-Zero.rights c.blank.result _ c.in-Zero.is c.blank.ensures.words c.blank.ensures.links c.blank.ensures.rights
    (λ v j lt. c.set_word.ensures.bytes v j lt ∙ ap (λ (f : Full). cond (nat_eq v k) (get_or x.bytes j 0) (full_byte f v j)) is)
    (λ v. c.set_word.ensures.links v ∙ ap (λ (f : Full). cond (nat_eq v k) (is_link x.tag) (bit_in f.links v)) is)
    (λ right j. c.set_word.ensures.rights right j ∙ ap (λ (f : Full). full_right right f j) is)
