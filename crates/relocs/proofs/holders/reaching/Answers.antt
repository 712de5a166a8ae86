use Rattle.std.specs.Option.{option_copied}
use Rattle.finite.proofs.SpanLaws.{in_order}
use Rattle.relocs.proofs.HolderLemmas.{all_apart, held_nowhere, held_by_first, got_there}
use Rattle.relocs.proofs.holders.reaching.Goals as goal

pub returns-in_default : goal.returns-in_default
returns-in_default c = λ to lt.
    let kept = c.args.holders.now in
    let part = c.range.ensures.in_range tt in
    held_nowhere kept.segments.now kept.places c.args.from to kept.each kept.index lt (λ q le. part.5 c.in_default.ensures.steps.0 q (in_order c.args.from q le, tt))

pub returns : goal.returns
returns c = λ to lt.
    let kept = c.args.holders.now in
    let part = c.range.ensures.in_range tt in
    held_by_first kept.segments.now kept.places c.args.from to _ c.in-Some.i.now c.range.result c.next.new.self (option_copied c.get.result) kept.each (all_apart kept.segments.now kept.apart) kept.index lt c.in-Some.ensures.steps part.1 part.2 (got_there c.get.result kept.segments.now c.in-Some.i.now c.get.ensures.lookup.1 c.get.ensures.lookup.2)
