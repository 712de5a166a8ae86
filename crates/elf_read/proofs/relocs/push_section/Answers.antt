use Rattle.std.proofs.Common.{◌≡◌, ◌/◌, arith}
use Rattle.elf_read.specs.Relocs.{entries_from, relocs_of}
use Rattle.elf_read.proofs.RelocLemmas.{section_joins, section_known, section_last, among_before}
use Rattle.elf_read.proofs.relocs.push_section.Goals as goal

pub returns-then-known-count : goal.returns-then-known-count
returns-then-known-count c = λ all same known.
    let last = entries_from c.args.bytes.now c.args.symbols c.args.last.0 c.args.last.1 in
    let is : c.known-known.result ≡ c.args.s.now.size / 24 = omega (arith, c.known-known.ensures.within, c.if-known-count.true) in
    (section_known c.args.bytes.now c.args.symbols c.args.s.now all c.args.out.now.items last c.known-known.result is same known (c.known-known.ensures.among c.args.bytes.now c.args.symbols), among_before last all (relocs_of c.args.bytes.now c.args.symbols c.args.s.now) known)

pub returns : goal.returns
returns c = λ all same known.
    let last = entries_from c.args.bytes.now c.args.symbols c.args.last.0 c.args.last.1 in
    (rw c.in_ok-push_entries.ensures (section_joins c.args.bytes.now c.args.symbols c.args.s.now all c.args.out.now.items last c.known-known.result c.known-known.ensures.within same known (c.known-known.ensures.among c.args.bytes.now c.args.symbols)), section_last c.args.bytes.now c.args.symbols c.args.s.now all)
