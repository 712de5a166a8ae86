use Rattle.std.proofs.Common.{arith}
use Rattle.elf_read.specs.Relocs.{entries_from}
use Rattle.elf_read.proofs.RelocLemmas.{known_none, known_some}
use Rattle.elf_read.proofs.relocs.known.Goals as goal

pub returns-then-s-last-clause-among : goal.returns-then-s-last-clause-among
returns-then-s-last-clause-among c = λ bytes n. known_none bytes n c.args.s.now.offset (entries_from bytes n c.args.last.0 c.args.last.1)

pub returns-then-past-ne0-clause-among : goal.returns-then-past-ne0-clause-among
returns-then-past-ne0-clause-among c = λ bytes n. known_none bytes n c.args.s.now.offset (entries_from bytes n c.args.last.0 c.args.last.1)

pub returns-clause-among : goal.returns-clause-among
returns-clause-among c = λ bytes n. known_some bytes n c.args.s.now.offset c.args.last.0 c.args.last.1 c.min.result (omega (arith, c.if-s-last.false)) (omega (arith, c.if-past-ne0.false)) (omega (arith, c.min.ensures, c.if-past-last.false))
