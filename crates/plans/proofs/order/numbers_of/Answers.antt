use Rattle.std.proofs.Common.{ℕ, get_or, sym, ◌∙◌, ap}
use Rattle.std.specs.Prelude.{◌||◌, Bool, ◌==◌}
use Rattle.plans.proofs.Planned.{put_twice, put_once, among_next}
use Rattle.plans.proofs.order.numbers_of.Goals as goal

pub returns-then-not-branch-clause-once : goal.returns-then-not-branch-clause-once
returns-then-not-branch-clause-once c =
    let i = c.loop-n.n-index in
    let n : ℕ = get_or c.args.numbers.now i 0 in
    sym (put_twice c.args.numbers.now i _ c.loop-n-test.true (sym c.if-not-branch.true ∙ c.in_ok-put.ensures.fresh) (c.loop-n.invariant.set n))

pub loop-n-preserved : goal.loop-n-preserved
loop-n-preserved c =
    let i = c.loop-n.n-index in
    let n : ℕ = get_or c.args.numbers.now i 0 in
    record {
      once = put_once c.args.numbers.now i _ c.loop-n-test.true (sym c.if-not-branch.false ∙ c.in_ok-put.ensures.fresh) (c.loop-n.invariant.set n) c.loop-n.invariant.once;
      set = λ q. c.in_ok-put.ensures.set q ∙ ap (λ (b : Bool). b || (n == q)) (c.loop-n.invariant.set q) ∙ sym (among_next c.args.numbers.now i 0 q c.loop-n-test.true);
    }
