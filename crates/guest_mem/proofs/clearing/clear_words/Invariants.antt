use Rattle.std.proofs.Common.{◌-◌}
use Rattle.guest_mem.specs.Memory.{byte_at}
use Rattle.guest_mem.specs.Access.{KeepsRoom}
use Rattle.guest_mem.proofs.PutLaws.{Puts}
use Rattle.guest_mem.proofs.clearing.clear_words.Given as goal

abbrev pub invariant-loop-w : goal.invariant-loop-w
invariant-loop-w g l = record {
  puts : Puts (byte_at (g.S.WordStore.contents l.fn.store)) (g.S.WordStore.contents l.fn.store) (g.S.WordStore.contents l.store) l.range.from (l.range.to - l.range.from) (λ _. 0) l.w;
  room : KeepsRoom (g.S.WordStore.room l.fn.store) (g.S.WordStore.room l.store);
}
