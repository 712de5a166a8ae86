use Rattle.std.proofs.Common.{◌≡◌, ℕ, List, length, take, ◌∙◌, sym, subst, arith}
use Rattle.std.proofs.lemmas.List.{take_more}
use Rattle.elf_read.specs.declared.tables.ProgramHeader.{ProgramHeader}
use Rattle.elf_read.specs.Spans.{AreSpansOf}
use Rattle.elf_read.proofs.BadLemmas.{bad_there, bad_nowhere, good_more, AreGood}
use Rattle.elf_read.proofs.bad.first_bad_segment.Goals as goal

pub returns-then-branch-clause-first : goal.returns-then-branch-clause-first
returns-then-branch-clause-first c =
    let step = c.in_ok-is_bad.ensures (take c.loop-i.i c.args.headers.now) c.loop-i.invariant.0 in
    bad_there c.args.headers.now c.loop-i.i _ c.loop-i-test.true c.loop-i.invariant.1 (sym step.0 ∙ c.if-branch.true)

pub loop-i-preserved : goal.loop-i-preserved
loop-i-preserved c =
    let step = c.in_ok-is_bad.ensures (take c.loop-i.i c.args.headers.now) c.loop-i.invariant.0 in
    (subst (λ (hs : List ProgramHeader). AreSpansOf hs c.is_bad.new.spans) (sym (take_more c.args.headers.now c.loop-i.i _ c.loop-i-test.true)) (step.1 c.if-branch.false), good_more c.args.headers.now c.loop-i.i _ c.loop-i-test.true c.loop-i.invariant.1 (sym step.0 ∙ c.if-branch.false))

pub returns-clause-first : goal.returns-clause-first
returns-clause-first c =
    let all : c.loop-i.i ≡ length c.args.headers.now = omega (arith, c.loop-i-test.false, c.loop-i.auto.i-end) in
    bad_nowhere c.args.headers.now (subst (λ (n : ℕ). AreGood c.args.headers.now n) all c.loop-i.invariant.1)
