use Rattle.std.proofs.Common.{ℕ, List, sym, ap, subst, ◌∙◌}
use Rattle.std.specs.Prelude.{◌<◌, All, length}
use Rattle.std.proofs.lemmas.List.Elements.{All-head, All-tail}
use Rattle.std.proofs.lemmas.Map.Iter.{rest_more}
use Rattle.place_funcs.specs.Edges.{count}
use Rattle.place_funcs.specs.Grouping.{ranks}
use Rattle.place_funcs.proofs.order.ranked.Goals as goal

pub put_in-requires-clause-there : goal.put_in-requires-clause-there
put_in-requires-clause-there c =
    let P = λ (e : ℕ × List ℕ). All (λ f. f < length c.args.funcs.now) e.1 in
    let e = rest_more (λ (x : ℕ × List ℕ). x) c.loop-name.name-iterator c.next.new.self c.next.result (c.in-Some.name, c.in-Some.group) c.in-Some.is c.next.ensures.steps in
    All-head P (c.in-Some.name, c.in-Some.group) c.next.new.self (subst (λ (xs : List (ℕ × List ℕ)). All P xs) e c.loop-name.invariant.there)

pub loop-name-preserved : goal.loop-name-preserved
loop-name-preserved c =
    let P = λ (e : ℕ × List ℕ). All (λ f. f < length c.args.funcs.now) e.1 in
    let n = count c.args.funcs.now c.args.profile.now in
    let e = rest_more (λ (x : ℕ × List ℕ). x) c.loop-name.name-iterator c.next.new.self c.next.result (c.in-Some.name, c.in-Some.group) c.in-Some.is c.next.ensures.steps in
    record {
      same = ap (λ rs. ranks n rs c.next.new.self) c.in_ok-put_in.ensures ∙ ap (λ (xs : List (ℕ × List ℕ)). ranks n c.loop-name.ranked.entries xs) (sym e) ∙ c.loop-name.invariant.same;
      there = All-tail P (c.in-Some.name, c.in-Some.group) c.next.new.self (subst (λ (xs : List (ℕ × List ℕ)). All P xs) e c.loop-name.invariant.there);
    }
