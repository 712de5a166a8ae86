-- Field by field.
use Rattle.std.proofs.Common.{append_assoc}
use Rattle.std.proofs.lemmas.List.{append-nil}
use Rattle.elf_make.specs.Rows.{symbol_entry}
use Rattle.elf_make.proofs.entries.push_symbol.Goals as goal

pub returns : goal.returns
unfolding symbol_entry
returns c = rw (c.in_ok-push_u64-2.ensures, c.in_ok-push_u64.ensures, c.in_ok-push_u16.ensures, c.in_ok-push_u8-2.ensures, c.in_ok-push_u8.ensures, c.in_ok-push_u32.ensures) (simp (append_assoc, append-nil))
