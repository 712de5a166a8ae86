-- The steps are the whole, and each number fits.
use Rattle.std.proofs.Common.{◌≡◌, ℕ, List, ◌++◌, length, drop, ap, ◌∙◌, arith}
use Rattle.std.specs.List.{flat_map}
use Rattle.rv_asm.specs.Emission.{round_up}
use Rattle.elf_make.specs.Rows.{section_header}
use Rattle.elf_make.specs.Bytes.{placed}
use Rattle.elf_make.specs.File.{sections, sections_at}
use Rattle.elf_make.proofs.Wholly.{whole_is, patched}
use Rattle.elf_make.proofs.make.whole.Goals as goal

pub returns-clause-file : goal.returns-clause-file
unfolding sections_at
returns-clause-file c =
    let p = c.args.p.now in
    let third : List ℕ = c.place_next.new.file.items in
    let header : List ℕ = c.in_ok-header.header.items in
    let is : c.put_header.new.file ≡ header ++ drop 64 third = c.put_header.ensures ∙ ap (λ h. h ++ drop 64 c.deref_mut.result.now) c.deref-2.ensures.value ∙ ap (λ f. header ++ drop 64 f) c.deref_mut.ensures.value in
    let steps = patched c.place_next.new.file.len third c.put_header.new.file header (omega arith) is c.in_ok-header.ensures.len (omega (arith, c.in_ok-file.ensures.room, c.in_ok-at.ensures.grows, c.in_ok-last.ensures.len)) in
    let second : List ℕ = c.place_tables.new.file.items in
    let place : round_up 8 (length second) ≡ sections_at p = ap (round_up 8) c.in_ok-at.ensures.len in
    let bytes : c.deref.result.now ≡ flat_map section_header (sections p) = c.deref.ensures.value ∙ c.in_ok-section_headers.ensures in
    let last : third ≡ placed second (sections_at p) (flat_map section_header (sections p)) = c.in_ok-last.ensures.part ∙ ap (λ n. placed second n c.deref.result.now) place ∙ ap (λ bs. placed second (sections_at p) bs) bytes in
    steps ∙ ap (λ h. h ++ drop 64 third) c.in_ok-header.ensures.bytes ∙ whole_is p _ _ third c.in_ok-file.ensures.parts c.in_ok-at.ensures.parts last

pub returns-clause-range : goal.returns-clause-range
returns-clause-range c = record {
  entry = omega arith;
  funcs = c.in_ok-at.ensures.funcs;
  objects = c.in_ok-at.ensures.objects;
  fixups = c.in_ok-at.ensures.fixups;
}
