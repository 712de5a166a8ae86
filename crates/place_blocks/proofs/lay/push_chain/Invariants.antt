use Rattle.std.proofs.Common.{◌≡◌, ◌++◌, take}
use Rattle.place_blocks.proofs.lay.push_chain.Given as goal

abbrev pub invariant-loop-i : goal.invariant-loop-i
invariant-loop-i l = l.order.items ≡ l.fn.order.items ++ take l.i l.chain
