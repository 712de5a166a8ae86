use Rattle.std.proofs.Common.{subst, sym, All, List}
use Rattle.blocks.specs.declared.run.Run.{Run}
use Rattle.emit.proofs.Parts.{IsLow, words_low, order_below}
use Rattle.emit.proofs.plan.push_blocks.Goals as goal

pub invariant_of-moving : goal.invariant_of-moving
invariant_of-moving c = record {
  low = subst (λ (rs : List Run). All (λ r. All IsLow r.words) rs) (sym c.requires.runs) (words_low c.args.table.now.image.now c.args.part.now.func c.function-func.result c.kept.ensures c.function-func.ensures c.requires.none);
  each = rw (c.as_slice.ensures, c.requires.runs) (order_below c.args.table.now.image.now c.args.part.now c.requires.none c.requires.order);
}
