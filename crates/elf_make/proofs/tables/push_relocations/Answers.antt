-- The bytes of one more, and what its type says.
use Rattle.std.proofs.Common.{arith, subst}
use Rattle.std.specs.List.{All}
use Rattle.std.proofs.lemmas.Grind.{common_steps}
use Rattle.std.proofs.lemmas.List.{take_all}
use Rattle.std.proofs.lemmas.List.Elements.{All-more}
use Rattle.finite.proofs.Filtered.{flat_map_filter_more}
use Rattle.rv_asm.specs.declared.symbol.Fixup.{Fixup}
use Rattle.elf_make.specs.Ranges.{IsFixupInRange}
use Rattle.elf_make.proofs.tables.push_relocations.Goals as goal

no_fixup : Fixup
no_fixup = record { at = 0; kind = 0; func = 0 }

pub loop-f-preserved : goal.loop-f-preserved
unfolding no_fixup
loop-f-preserved c = record {
  bytes = grind (arith, common_steps, flat_map_filter_more);
  range = All-more IsFixupInRange c.args.fixups.now c.loop-f.f-index no_fixup c.loop-f-test.true c.loop-f.invariant.range c.is_of.ensures.range;
}

pub returns-clause-range : goal.returns-clause-range
returns-clause-range c = subst (All IsFixupInRange) (take_all c.loop-f.f-index c.args.fixups.now c.loop-f-test.false) c.loop-f.invariant.range
