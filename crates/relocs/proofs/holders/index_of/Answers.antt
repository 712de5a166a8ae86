use Rattle.relocs.proofs.HolderLemmas.{all_alone}
use Rattle.relocs.proofs.holders.index_of.Goals as goal

pub invariant_of-result : goal.invariant_of-result
invariant_of-result c = record {
  each = c.requires.each;
  apart = all_alone c.args.segments.now c.requires.apart;
  index = c.in_ok-places.ensures;
}
