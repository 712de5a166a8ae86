-- What the types of a program's numbers say of them.
use Rattle.std.specs.Prelude.{◌^◌, ◌<◌}
use Rattle.std.specs.List.{All}
use Rattle.rv_asm.specs.declared.program.Program.{Program}
use Rattle.rv_asm.specs.declared.symbol.Fixup.{Fixup}
use Rattle.rv_asm.specs.declared.symbol.Named.{Named}

abbrev pub IsInRange : Named → Type 0
IsInRange n = (n.from < 2 ^ 64) × (n.to < 2 ^ 64)

abbrev pub IsFixupInRange : Fixup → Type 0
IsFixupInRange f = (f.at < 2 ^ 64) × (f.kind < 2 ^ 8)

pub record IsProgramInRange (p : Program) : Type 0 where
  pub entry : p.entry < 2 ^ 64
  pub funcs : All IsInRange p.funcs
  pub objects : All IsInRange p.objects
  pub fixups : All IsFixupInRange p.fixups
