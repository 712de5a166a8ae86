use Rattle.std.proofs.Common.{◌∙◌, sym}
use Rattle.relocs.proofs.TextLemmas.{all_sized, ends_fit_in, all_fit_in}
use Rattle.relocs.proofs.checks.checked_texts.Goals as goal

pub first_outside-requires : goal.first_outside-requires
first_outside-requires c = all_sized c.args.elf.now c.as_slice-sections.result.now (c.as_slice-sections.ensures.value ∙ c.in_ok-sections.ensures)

pub first_taken-requires-clause-texts : goal.first_taken-requires-clause-texts
first_taken-requires-clause-texts c = ends_fit_in c.args.elf.now c.in_ok-holders.holders.segments.now c.as_slice-sections.result.now (c.in_ok-holders.ensures ∙ c.as_slice-segments.ensures) (c.as_slice-sections.ensures.value ∙ c.in_ok-sections.ensures) c.requires.whole.each (sym c.first_misaligned.ensures ∙ c.in_default.is) (sym c.in_ok-at.ensures ∙ c.in_default-2.is)

pub texts_of-requires : goal.texts_of-requires
texts_of-requires c = all_sized c.args.elf.now c.as_slice-sections.result.now (c.as_slice-sections.ensures.value ∙ c.in_ok-sections.ensures)

pub least_aimed-requires : goal.least_aimed-requires
least_aimed-requires c = rw (c.as_slice.ensures.value ∙ c.in_ok-texts.ensures) (all_fit_in c.args.elf.now c.in_ok-holders.holders.segments.now c.as_slice-sections.result.now (c.in_ok-holders.ensures ∙ c.as_slice-segments.ensures) (c.as_slice-sections.ensures.value ∙ c.in_ok-sections.ensures) c.requires.whole.each (sym c.first_misaligned.ensures ∙ c.in_default.is) (sym c.in_ok-at.ensures ∙ c.in_default-2.is))
