use Rattle.std.proofs.Common.{◌∙◌, sym, ap}
use Rattle.finite.specs.Maps.{contains}
use Rattle.std.specs.VecDeque.Iter.{deque_iter_rest}
use Rattle.guest_mem.specs.Flat.{flat_rights, gives}
use Rattle.guest_mem.proofs.FlatLaws.{first_span, next_span, no_span}
use Rattle.guest_mem.proofs.flat.has_right.Goals as goal

pub returns-then-covers : goal.returns-then-covers
returns-then-covers c =
    let p = gives c.args.right in
    c.gives.ensures
    ∙ sym (c.loop-span.invariant
    ∙ ap (λ ss. contains (flat_rights p ss) c.args.at) c.in-Some.ensures.steps
    ∙ first_span p c.in-Some.span.now (deque_iter_rest c.next.new.self) c.args.at c.if-covers.ensures)

pub loop-span-preserved : goal.loop-span-preserved
loop-span-preserved c =
    let p = gives c.args.right in
    c.loop-span.invariant
    ∙ ap (λ ss. contains (flat_rights p ss) c.args.at) c.in-Some.ensures.steps
    ∙ next_span p c.in-Some.span.now (deque_iter_rest c.next.new.self) c.args.at c.if-covers.ensures

pub returns : goal.returns
returns c =
    let p = gives c.args.right in
    sym (c.loop-span.invariant ∙ no_span p (deque_iter_rest c.loop-span.span-iterator) c.args.at c.in-None.ensures.steps.0)
