use Rattle.std.proofs.Common.{ℕ, Bool, rules, get_or, sym, ap, ◌∙◌}
use Rattle.std.specs.Prelude.{◌||◌, ◌==◌}
use Rattle.plans.proofs.Planned.{among_next}
use Rattle.script_words.specs.Parts.{number_told, number_fault}
use Rattle.script_words.proofs.Found.{told_here, told_later}
use Rattle.script_words.proofs.part.wrong_number.Goals as goal

pub returns-then-is_some : goal.returns-then-is_some
returns-then-is_some c =
    let i = c.loop-n.n-index in
    let n : ℕ = get_or c.args.order.now i 0 in
    sym (told_here (number_fault c.args.blocks) c.args.order.now i 0 c.number_told-told.result c.loop-n-test.true (search rules)
    (c.number_told-told.ensures ∙ ap (λ (s : Bool). number_told c.args.blocks s n) (c.in_ok-seen.ensures.seen ∙ c.loop-n.invariant.set n)))
    ∙ c.loop-n.invariant.told

pub loop-n-preserved : goal.loop-n-preserved
loop-n-preserved c =
    let i = c.loop-n.n-index in
    let n : ℕ = get_or c.args.order.now i 0 in
    record {
      told =
          sym (told_later (number_fault c.args.blocks) c.args.order.now i 0 c.number_told-told.result c.loop-n-test.true (search rules)
          (c.number_told-told.ensures ∙ ap (λ (s : Bool). number_told c.args.blocks s n) (c.in_ok-seen.ensures.seen ∙ c.loop-n.invariant.set n)))
          ∙ c.loop-n.invariant.told;
      set = λ q. c.in_ok-seen.ensures.set q ∙ ap (λ (b : Bool). b || (n == q)) (c.loop-n.invariant.set q) ∙ sym (among_next c.args.order.now i 0 q c.loop-n-test.true);
    }
