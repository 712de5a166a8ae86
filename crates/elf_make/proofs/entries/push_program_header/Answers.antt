-- Field by field.
use Rattle.std.proofs.Common.{append_assoc}
use Rattle.std.proofs.lemmas.List.{append-nil}
use Rattle.elf_make.specs.Rows.{program_header}
use Rattle.elf_make.proofs.entries.push_program_header.Goals as goal

pub returns : goal.returns
unfolding program_header
returns c = rw (c.in_ok-push_u64-6.ensures, c.in_ok-push_u64-5.ensures, c.in_ok-push_u64-4.ensures, c.in_ok-push_u64-3.ensures, c.in_ok-push_u64-2.ensures, c.in_ok-push_u64.ensures, c.in_ok-push_u32-2.ensures, c.in_ok-push_u32.ensures) (simp (append_assoc, append-nil))
