use Rattle.std.proofs.Common.{[], take, refl}
use Rattle.std.specs.List.{flat_map}
use Rattle.elf_read.specs.Relocs.{entries_from, relocs_of}
use Rattle.elf_read.proofs.RelocLemmas.{sections_join, known_none}
use Rattle.elf_read.proofs.relocs.distinct_in.Goals as goal

pub loop-s-init : goal.loop-s-init
loop-s-init c = (λ test. rw c.new-all.ensures.items refl, λ test h. known_none c.args.bytes.now c.args.symbols 0 [] test h)

pub loop-s-preserved : goal.loop-s-preserved
loop-s-preserved c =
    let found = flat_map (relocs_of c.args.bytes.now c.args.symbols) (take c.loop-s.s-index c.args.sections.now) in
    sections_join (relocs_of c.args.bytes.now c.args.symbols) c.args.sections.now c.loop-s.s-index _ c.push_section.new.out.items (entries_from c.args.bytes.now c.args.symbols c.in_ok-last.last.0 c.in_ok-last.last.1) c.loop-s-test.true (c.in_ok-last.ensures found c.loop-s.invariant.0 c.loop-s.invariant.1)
