use Rattle.std.proofs.Common.{◌∙◌, ap}
use Rattle.std.specs.Prelude.{◌||◌}
use Rattle.std.specs.List.{list_any}
use Rattle.finite.specs.Spans.{meets}
use Rattle.finite.proofs.SpanLaws.{stay_apart, any_insert, absent}
use Rattle.finite.proofs.spans.Spans.insert.Goals as goal

pub invariant_of-self-2 : goal.invariant_of-self-2
invariant_of-self-2 c =
    let free = ap (list_any (meets c.args.first c.args.last)) c.self.view_is ∙ c.requires.apart in
    stay_apart c.self.inside.firsts c.insert.new.self c.args.first c.args.last c.in-Ok.ensures.was_ordered c.self.invariant c.requires.filled free c.in-Ok.ensures.updates.0

pub returns-clause-added : goal.returns-clause-added
returns-clause-added c = λ test.
    let free = ap (list_any (meets c.args.first c.args.last)) c.self.view_is ∙ c.requires.apart in
    let none = absent c.self.inside.firsts c.args.first c.args.last c.in-Ok.ensures.was_ordered c.self.invariant c.requires.filled free in
    ap (list_any test) c.in-Ok.ensures.entries ∙ any_insert test c.self.inside.firsts.entries c.args.last c.args.first none ∙ ap (λ es. test (c.args.last, c.args.first) || list_any test es) c.self.view_is
