use Rattle.std.proofs.Common.{◌≡◌, ◌≤◌, ◌*◌, drop}
use Rattle.rv_asm.specs.Order.{first_fault, first_of_two}
use Rattle.rv_asm.specs.State.{start, after}
use Rattle.rv_asm.specs.Faults.{faults_from}
use Rattle.rv_asm.proofs.passes.second_pass.Given as goal

abbrev pub invariant-loop-i : goal.invariant-loop-i
invariant-loop-i l = record {
  state : after l.state (drop l.i l.items) ≡ after start l.items;
  fault : first_of_two l.fault (first_fault (faults_from l.names l.state (drop l.i l.items))) ≡ first_of_two l.fn.so_far (first_fault (faults_from l.names start l.items));
  text_len : l.state.text_len ≤ 33554432 * l.i;
  data_len : l.state.data_len ≤ 33554432 * l.i;
  funcs : l.state.funcs ≤ l.i;
}
