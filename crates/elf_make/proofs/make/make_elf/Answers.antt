-- The file is the program's, so what is read of it is what is read of that.
use Rattle.std.proofs.Common.{◌≡◌, ◌∙◌, length, ap, arith}
use Rattle.elf_read.specs.Faults.{fault_of}
use Rattle.elf_read.specs.Parts.{parts_of}
use Rattle.elf_make.specs.File.{elf_of}
use Rattle.elf_make.proofs.NoFault.{no_fault, no_text}
use Rattle.elf_make.proofs.PartsBack.{parts_back}
use Rattle.elf_make.proofs.make.make_elf.Goals as goal

pub returns-clause-no_fault : goal.returns-clause-no_fault
returns-clause-no_fault c = λ some.
    let p = c.args.p.now in
    let file : c.from_vec.result ≡ elf_of p = c.from_vec.ensures ∙ c.in_ok-file.ensures.file in
    ap fault_of file ∙ no_fault p (record { ranges = c.in_ok-file.ensures.range; size = omega (arith, ap length c.in_ok-file.ensures.file) }) some

pub returns-clause-read_back : goal.returns-clause-read_back
returns-clause-read_back c = λ some.
    let p = c.args.p.now in
    let file : c.from_vec.result ≡ elf_of p = c.from_vec.ensures ∙ c.in_ok-file.ensures.file in
    ap parts_of file ∙ parts_back p (record { ranges = c.in_ok-file.ensures.range; size = omega (arith, ap length c.in_ok-file.ensures.file) }) some

pub returns-clause-no_text : goal.returns-clause-no_text
returns-clause-no_text c = λ none.
    let p = c.args.p.now in
    let file : c.from_vec.result ≡ elf_of p = c.from_vec.ensures ∙ c.in_ok-file.ensures.file in
    ap fault_of file ∙ no_text p (record { ranges = c.in_ok-file.ensures.range; size = omega (arith, ap length c.in_ok-file.ensures.file) }) none
