use Rattle.std.proofs.Common.{◌≡◌, ℕ, ◌+◌, ◌-◌, ◌*◌, ◌/◌, length, get_or, sym, ap, subst, ◌∙◌, arith}
use Rattle.std.proofs.lemmas.Bool.{both_ways}
use Rattle.finite.specs.Maps.{contains}
use Rattle.guest_mem.specs.declared.words.Word.{Word}
use Rattle.guest_mem.specs.Memory.{Memory}
use Rattle.guest_mem.specs.Access.{seen}
use Rattle.guest_mem.specs.Words.{plain_bytes_of, IsPut}
use Rattle.guest_mem.proofs.Laws.{seen_word}
use Rattle.guest_mem.proofs.PutLaws.{Puts, puts_more, puts_all}
use Rattle.guest_mem.proofs.transfer.put_words.Goals as goal

pub returns-in_default-clause-roomy : goal.returns-in_default-clause-roomy
returns-in_default-clause-roomy g c all =
    let r = c.in_default.ensures.roomy in
    let k = 8 * r.0 - c.args.at in
    let w : (c.args.at + k) / 8 ≡ r.0 = omega arith in
    both_ways (contains (g.S.WordStore.room c.args.store.now) r.0) r.3
    (ap (contains (g.S.WordStore.room c.args.store.now)) (sym w) ∙ all k (omega arith))

pub loop-w-preserved : goal.loop-w-preserved
loop-w-preserved g c =
    let origin = g.O.Origins.origin c.args.origins.now in
    let m = g.S.WordStore.contents c.args.store.now in
    let m' = g.S.WordStore.contents c.loop-w.store in
    let n = length c.args.bytes.now in
    let f : ℕ → ℕ = λ q. get_or c.args.bytes.now (q - c.args.at) 0 in
    let w = c.loop-w.w in
    let x = c.put_in-word.result in
    record {
      puts = subst (λ (t : Memory). Puts (seen origin m) m t c.args.at n f (w + 1)) (sym c.in-Ok-set_word.ensures.ok)
          (puts_more (seen origin m) m m' c.args.at n f w (plain_bytes_of origin) x (omega arith) c.loop-w.invariant.puts
          (λ j lt. seen_word origin m w j lt)
          (subst (λ (y : Word). IsPut (plain_bytes_of origin y) w c.args.at n f x) c.word.ensures c.put_in-word.ensures.put));
      room = λ v had. c.in-Ok-set_word.ensures.room v (c.loop-w.invariant.room v had);
      made = λ v a b. c.in-Ok-set_word.ensures.room v (c.loop-w.invariant.made v a b);
    }

pub returns-clause-ok : goal.returns-clause-ok
returns-clause-ok g c =
    let origin = g.O.Origins.origin c.args.origins.now in
    let m = g.S.WordStore.contents c.args.store.now in
    let n = length c.args.bytes.now in
    let f : ℕ → ℕ = λ q. get_or c.args.bytes.now (q - c.args.at) 0 in
    let e : c.loop-w.w ≡ (c.args.at + n + 7) / 8 = omega arith in
    puts_all origin m (g.S.WordStore.contents c.loop-w.store) c.args.at n f c.requires.some
    (subst (λ v. Puts (seen origin m) m (g.S.WordStore.contents c.loop-w.store) c.args.at n f v) e c.loop-w.invariant.puts)
