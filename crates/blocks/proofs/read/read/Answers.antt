use Rattle.std.proofs.Common.{◌≡◌, ℕ, List, ◌+◌, ◌-◌, ◌/◌, ◌<◌, ◌^◌, ◌++◌, [], ◌∷◌, map, drop, arith, append-nil, sym, ◌∙◌, subst, ap}
use Rattle.std.specs.Prelude.{All}
use Rattle.std.specs.List.{filter_map}
use Rattle.finite.specs.First.{first_of}
use Rattle.std.proofs.lemmas.List.Elements.{All-push}
use Rattle.blocks.specs.declared.word.Word.{Word}
use Rattle.blocks.specs.Words.{word_read, places_of, words_of}
use Rattle.blocks.specs.Faults.{word_fault}
use Rattle.blocks.proofs.Reading.{addresses_end, read_step, fault_step, fault_stop}
use Rattle.blocks.proofs.read.read.Goals as goal

pub returns-in-Err-clause-fault : goal.returns-in-Err-clause-fault
returns-in-Err-clause-fault c = λ _. sym c.loop-i.invariant.faults
    ∙ fault_stop (word_fault c.args.image.now.texts c.args.f.now) c.args.f.now.from ((c.args.f.now.to - c.args.f.now.from) / 4) c.loop-i.i c.in-Err.e c.loop-i-test.true c.in-Err.ensures.fault

pub loop-i-preserved : goal.loop-i-preserved
loop-i-preserved c =
    let n : ℕ = (c.args.f.now.to - c.args.f.now.from) / 4 in
    let pushed : c.push_word.new.words.items ≡ c.loop-i.words.items ++ c.in-Ok.w ∷ [] = c.in_ok-push_word.ensures in
    let small : c.in-Ok.w.at + 4 < 2 ^ 64 = omega (arith, c.in-Ok.ensures.at, c.loop-i-test.true, c.requires.ordered, c.requires.low) in
    record {
      low = subst (λ (ws : List Word). All (λ w. w.at + 4 < 2 ^ 64) ws) (sym pushed)
          (All-push (λ (w : Word). w.at + 4 < 2 ^ 64) c.loop-i.words.items c.in-Ok.w c.loop-i.invariant.low small);
      words = ap (λ (ws : List Word). ws ++ filter_map (word_read c.args.image.now.texts) (drop (c.loop-i.i + 1) (places_of c.args.f.now))) pushed
          ∙ read_step (word_read c.args.image.now.texts) c.loop-i.words.items (filter_map (word_read c.args.image.now.texts) (places_of c.args.f.now)) c.args.f.now.from n c.loop-i.i c.in-Ok.w
          c.loop-i-test.true c.in-Ok.ensures.is c.loop-i.invariant.words;
      faults = fault_step (word_fault c.args.image.now.texts c.args.f.now) c.args.f.now.from n c.loop-i.i c.loop-i-test.true c.in-Ok.ensures.none ∙ c.loop-i.invariant.faults;
    }

pub returns-clause-is : goal.returns-clause-is
unfolding words_of
returns-clause-is c =
    let n : ℕ = (c.args.f.now.to - c.args.f.now.from) / 4 in
    let at_end : c.loop-i.i ≡ n = omega (arith, c.loop-i-test.false, c.loop-i.auto.i-end) in
    let none : drop c.loop-i.i (places_of c.args.f.now) ≡ [] = ap (λ (i : ℕ). drop i (places_of c.args.f.now)) at_end ∙ addresses_end c.args.f.now.from n in
    sym (append-nil c.loop-i.words.items) ∙ ap (λ (xs : List ℕ). c.loop-i.words.items ++ filter_map (word_read c.args.image.now.texts) xs) (sym none) ∙ c.loop-i.invariant.words

pub returns-clause-none : goal.returns-clause-none
returns-clause-none c =
    let n : ℕ = (c.args.f.now.to - c.args.f.now.from) / 4 in
    let at_end : c.loop-i.i ≡ n = omega (arith, c.loop-i-test.false, c.loop-i.auto.i-end) in
    let none : drop c.loop-i.i (places_of c.args.f.now) ≡ [] = ap (λ (i : ℕ). drop i (places_of c.args.f.now)) at_end ∙ addresses_end c.args.f.now.from n in
    sym c.loop-i.invariant.faults ∙ ap (λ (xs : List ℕ). first_of (map (word_fault c.args.image.now.texts c.args.f.now) xs)) none
