use Rattle.std.proofs.Common.{◌≡◌, ◌≤◌, ◌*◌, ◌++◌, drop}
use Rattle.rv_asm.specs.State.{start, collect}
use Rattle.rv_asm.specs.Emission.{bytes}
use Rattle.rv_asm.proofs.emit.bytes_of.Given as goal

abbrev pub invariant-loop-i : goal.invariant-loop-i
invariant-loop-i l = record {
  list : l.all.items ++ collect (bytes l.names) l.state (drop l.i l.items) ≡ collect (bytes l.names) start l.items;
  text_len : l.state.text_len ≤ 33554432 * l.i;
  data_len : l.state.data_len ≤ 33554432 * l.i;
  funcs : l.state.funcs ≤ l.i;
}
