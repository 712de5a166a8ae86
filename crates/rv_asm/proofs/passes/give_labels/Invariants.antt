use Rattle.std.proofs.Common.{◌≡◌, drop}
use Rattle.rv_asm.specs.Order.{first_fault, first_of_two}
use Rattle.rv_asm.specs.Names.{add_labels, labels_again}
use Rattle.rv_asm.proofs.passes.give_labels.Given as goal

abbrev pub invariant-loop-i : goal.invariant-loop-i
invariant-loop-i l = record {
  names : add_labels l.names l.at (drop l.i l.labels) ≡ add_labels l.fn.names l.at l.labels;
  fault : first_of_two l.fault (first_fault (labels_again l.names l.line l.at (drop l.i l.labels))) ≡ first_of_two l.fn.so_far (first_fault (labels_again l.fn.names l.line l.at l.labels));
}
