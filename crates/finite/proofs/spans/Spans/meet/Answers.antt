use Rattle.std.proofs.Common.{◌∙◌, sym, ap}
use Rattle.std.specs.List.{list_any}
use Rattle.finite.specs.Spans.{meets}
use Rattle.finite.proofs.SpanLaws.{meets_none, meets_first, in_order}
use Rattle.finite.proofs.spans.Spans.meet.Goals as goal

pub returns-in-Some : goal.returns-in-Some
returns-in-Some c =
    let part = c.range.ensures.in_range tt in
    meets_first c.self.inside.firsts c.args.first c.args.last c.in-Some.field-0-0.now c.in-Some.next.now c.range.result c.next.new.self c.range.ensures.ordered c.self.invariant c.in-Some.ensures.steps part.1 part.2 ∙ ap (list_any (meets c.args.first c.args.last)) c.self.view_is

pub returns-in-None : goal.returns-in-None
returns-in-None c =
    let part = c.range.ensures.in_range tt in
    sym (meets_none c.self.inside.firsts c.args.first c.args.last c.range.ensures.ordered (λ q le. part.5 c.in-None.ensures.steps.0 q (in_order c.args.first q le, tt))) ∙ ap (list_any (meets c.args.first c.args.last)) c.self.view_is
