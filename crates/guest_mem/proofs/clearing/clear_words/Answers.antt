use Rattle.std.proofs.Common.{◌≡◌, ◌+◌, ◌-◌, ◌/◌, sym, subst, arith}
use Rattle.guest_mem.specs.Memory.{Memory, byte_at}
use Rattle.guest_mem.specs.declared.words.Word.{Word}
use Rattle.guest_mem.proofs.Reading.{get_or-bytes_from}
use Rattle.guest_mem.proofs.PutLaws.{Puts, puts_more, clears_all}
use Rattle.guest_mem.proofs.clearing.clear_words.Goals as goal

pub loop-w-preserved : goal.loop-w-preserved
loop-w-preserved g c =
    let m = g.S.WordStore.contents c.args.store.now in
    let m' = g.S.WordStore.contents c.loop-w.store in
    let n = c.args.range.to - c.args.range.from in
    let w = c.loop-w.w in
    let z = c.clear_word.ensures.contents in
    record {
      puts = subst (λ (t : Memory). Puts (byte_at m) m t c.args.range.from n (λ _. 0) (w + 1)) (sym z.2)
          (puts_more (byte_at m) m m' c.args.range.from n (λ _. 0) w (λ (y : Word). y.bytes) z.0 (omega arith) c.loop-w.invariant.puts
          (λ j lt. sym (get_or-bytes_from (byte_at m) _ 8 j lt)) z.1);
      room = λ v had. c.clear_word.ensures.room v (c.loop-w.invariant.room v had);
    }

pub returns-clause-contents : goal.returns-clause-contents
returns-clause-contents g c =
    let m = g.S.WordStore.contents c.args.store.now in
    let n = c.args.range.to - c.args.range.from in
    let e : c.loop-w.w ≡ (c.args.range.from + n + 7) / 8 = omega arith in
    clears_all m (g.S.WordStore.contents c.loop-w.store) c.args.range.from n (omega arith)
    (subst (λ v. Puts (byte_at m) m (g.S.WordStore.contents c.loop-w.store) c.args.range.from n (λ _. 0) v) e c.loop-w.invariant.puts)
