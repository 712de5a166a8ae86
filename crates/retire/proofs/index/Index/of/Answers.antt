use Rattle.layout.proofs.Apart.{are_apart}
use Rattle.retire.proofs.index.Index.of.Goals as goal

pub invariant_of-result : goal.invariant_of-result
invariant_of-result c = record {
  apart = are_apart c.args.lives.now c.requires;
  are = c.place_all.ensures.are;
}
