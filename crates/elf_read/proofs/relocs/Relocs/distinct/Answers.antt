use Rattle.std.proofs.Common.{◌≡◌, length, false, ◌∙◌}
use Rattle.std.proofs.lemmas.List.Sorted.{All-permutation}
use Rattle.elf_read.specs.declared.tables.SectionHeader.{SectionHeader}
use Rattle.elf_read.specs.Faults.{is_outside}
use Rattle.elf_read.specs.Relocs.{relocs_of}
use Rattle.elf_read.proofs.RelocLemmas.{any_order}
use Rattle.elf_read.proofs.relocs.Relocs.distinct.Goals as goal

pub distinct_in-requires : goal.distinct_in-requires
distinct_in-requires c =
    let inside : SectionHeader → Type 0 = λ s. is_outside (length c.self.inside.bytes) s.offset s.size ≡ false in
    let same = rw c.deref.ensures.value at c.in_ok-sections.ensures in
    rw (c.deref-2.ensures.value, c.as_slice.ensures) (All-permutation inside c.self.inside.sections.items c.in_ok-sections.sections.items same c.self.invariant)

pub returns : goal.returns
returns c =
    let f = relocs_of c.self.inside.bytes c.self.inside.symbols in
    let same = rw c.deref.ensures.value at c.in_ok-sections.ensures in
    let all = rw (c.deref-2.ensures.value, c.as_slice.ensures) at c.in_ok-all.ensures in
    rw (← c.self.view_is) (λ test. all test ∙ any_order f c.self.inside.sections.items c.in_ok-sections.sections.items same test)
