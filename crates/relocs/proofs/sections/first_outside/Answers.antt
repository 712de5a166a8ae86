use Rattle.std.proofs.Common.{◌≡◌, ℕ, ◌<◌, List, length, take, ◌∙◌, sym, subst, arith}
use Rattle.std.proofs.lemmas.List.{take_more}
use Rattle.std.proofs.lemmas.List.Elements.{All-take}
use Rattle.elf_read.specs.declared.elf.Section.{Section}
use Rattle.relocs.specs.Spans.{AreSpansOf}
use Rattle.relocs.proofs.OutsideLemmas.{AreInside, inside_more, outside_there, outside_nowhere}
use Rattle.relocs.proofs.sections.first_outside.Goals as goal

pub returns-then-branch : goal.returns-then-branch
returns-then-branch c =
    let some = All-take (λ (e : Section). 0 < e.size) c.loop-i.i c.args.texts.now c.requires in
    let step = c.in_ok-is_outside.ensures (take c.loop-i.i c.args.texts.now) some c.loop-i.invariant.0 in
    outside_there c.args.holders.now.segments.now c.args.texts.now c.loop-i.i _ c.loop-i-test.true c.loop-i.invariant.1 (sym step.0 ∙ c.if-branch.true)

pub loop-i-preserved : goal.loop-i-preserved
loop-i-preserved c =
    let some = All-take (λ (e : Section). 0 < e.size) c.loop-i.i c.args.texts.now c.requires in
    let step = c.in_ok-is_outside.ensures (take c.loop-i.i c.args.texts.now) some c.loop-i.invariant.0 in
    (subst (λ (ss : List Section). AreSpansOf ss c.is_outside.new.spans) (sym (take_more c.args.texts.now c.loop-i.i _ c.loop-i-test.true)) (step.1 c.if-branch.false), inside_more c.args.holders.now.segments.now c.args.texts.now c.loop-i.i _ c.loop-i-test.true c.loop-i.invariant.1 (sym step.0 ∙ c.if-branch.false))

pub returns : goal.returns
returns c =
    let all : c.loop-i.i ≡ length c.args.texts.now = omega (arith, c.loop-i-test.false, c.loop-i.auto.i-end) in
    outside_nowhere c.args.holders.now.segments.now c.args.texts.now (subst (λ (n : ℕ). AreInside c.args.holders.now.segments.now c.args.texts.now n) all c.loop-i.invariant.1)
