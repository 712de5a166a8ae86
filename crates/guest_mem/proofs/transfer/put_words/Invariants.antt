use Rattle.std.proofs.Common.{◌≡◌, ℕ, ◌-◌, ◌<◌, ◌≤◌, true, length, get_or}
use Rattle.finite.specs.Maps.{contains}
use Rattle.guest_mem.specs.Access.{KeepsRoom, seen}
use Rattle.guest_mem.proofs.PutLaws.{Puts}
use Rattle.guest_mem.proofs.transfer.put_words.Given as goal

abbrev pub invariant-loop-w : goal.invariant-loop-w
invariant-loop-w g l = record {
  puts : Puts (seen (g.O.Origins.origin l.origins) (g.S.WordStore.contents l.fn.store)) (g.S.WordStore.contents l.fn.store) (g.S.WordStore.contents l.store) l.at (length l.bytes) (λ q. get_or l.bytes (q - l.at) 0) l.w;
  room : KeepsRoom (g.S.WordStore.room l.fn.store) (g.S.WordStore.room l.store);
  made : (v : ℕ) → l.first ≤ v → v < l.end → contains (g.S.WordStore.room l.store) v ≡ true;
}
