use Rattle.std.proofs.Common.{ℕ, ◌∙◌, arith}
use Rattle.std.proofs.lemmas.Result.{on_ok_weaker}
use Rattle.place_funcs.specs.Links.{link_at, top_of}
use Rattle.place_funcs.proofs.Callees.{is_none, is_some_it}
use Rattle.place_funcs.proofs.Raised.{share_none, share_there, back_small, both_raised}
use Rattle.place_funcs.proofs.start.add_row.Goals as goal

pub returns-in_default-clause-tops : goal.returns-in_default-clause-tops
returns-in_default-clause-tops c = λ p q.
    let z = share_none c.args.funcs.now c.args.chosen.now c.args.f c.args.row (λ y. c.callee.ensures y ∙ is_none c.callee.result c.in_default.is y) p q in
    omega (arith, z)

pub raise-requires-clause-small : goal.raise-requires-clause-small
raise-requires-clause-small c =
    let h = λ (y : ℕ). c.callee.ensures y ∙ is_some_it c.callee.result c.in-Some.g c.in-Some.is y in
    let k = share_there c.args.funcs.now c.args.chosen.now c.args.f c.args.row c.in-Some.g h in
    let s = c.requires.small c.args.f c.in-Some.g in
    omega (arith, k, s)

pub raise-requires-2-clause-small : goal.raise-requires-2-clause-small
raise-requires-2-clause-small c =
    let h = λ (y : ℕ). c.callee.ensures y ∙ is_some_it c.callee.result c.in-Some.g c.in-Some.is y in
    back_small c.args.funcs.now c.args.chosen.now c.args.f c.args.row c.in-Some.g h (λ p q. top_of (link_at c.args.table.now.links p q)) (λ p q. top_of (link_at c.raise.new.table.links p q)) c.in_ok-raise.ensures.tops c.requires.small

pub returns-clause-tops : goal.returns-clause-tops
returns-clause-tops c =
    let h = λ (y : ℕ). c.callee.ensures y ∙ is_some_it c.callee.result c.in-Some.g c.in-Some.is y in
    on_ok_weaker c.raise-2.result (λ d. both_raised c.args.funcs.now c.args.chosen.now c.args.f c.args.row c.in-Some.g h
    (λ p q. top_of (link_at c.args.table.now.links p q)) (λ p q. top_of (link_at c.raise.new.table.links p q)) (λ p q. top_of (link_at c.raise-2.new.table.links p q)) c.in_ok-raise.ensures.tops d) c.raise-2.ensures.tops
