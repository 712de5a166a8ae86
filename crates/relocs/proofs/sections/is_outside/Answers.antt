use Rattle.std.proofs.Common.{◌∙◌, sym}
use Rattle.relocs.proofs.OutsideLemmas.{inside_by_spans, spans_more}
use Rattle.relocs.proofs.sections.is_outside.Goals as goal

pub returns : goal.returns
returns c = λ earlier each are.
    let held = sym c.is_held.ensures.held ∙ c.if-not-is_held.false in
    let free = sym c.meet.ensures ∙ c.if-meet.false in
    (inside_by_spans c.args.holders.now.segments.now earlier c.args.spans.now c.args.s.now each are c.requires held free, λ e. spans_more earlier c.args.spans.now c.insert.new.self c.args.s.now are c.in_ok-insert.ensures.added)
