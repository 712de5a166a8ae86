-- The bytes of one more, and what its type says.
use Rattle.std.proofs.Common.{arith, ap, subst}
use Rattle.std.proofs.lemmas.Grind.{common_steps}
use Rattle.std.proofs.lemmas.List.Elements.{All-more}
use Rattle.std.proofs.lemmas.List.{take_all}
use Rattle.std.specs.List.{All}
use Rattle.rv_asm.specs.Kept.{symbol_size}
use Rattle.elf_make.specs.Ranges.{IsInRange}
use Rattle.elf_make.proofs.OneMore.{symbols_more, size_more}
use Rattle.elf_make.proofs.tables.push_symbols.Goals as goal

pub loop-n-preserved : goal.loop-n-preserved
loop-n-preserved c = record {
  bytes = grind (arith, common_steps, symbols_more, c.in_ok-push_symbol.ensures);
  room = omega (arith, size_more c.args.items.now c.loop-n.n-index c.n-item.result c.loop-n-test.true, ap symbol_size c.n-item.is);
  range = All-more IsInRange c.args.items.now c.loop-n.n-index c.n-item.result c.loop-n-test.true c.loop-n.invariant.range (subst IsInRange c.n-item.is (omega arith, omega arith));
}

pub returns-clause-range : goal.returns-clause-range
returns-clause-range c = subst (All IsInRange) (take_all c.loop-n.n-index c.args.items.now c.loop-n-test.false) c.loop-n.invariant.range
