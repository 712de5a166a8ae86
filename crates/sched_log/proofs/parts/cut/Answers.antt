use Rattle.sched_log.proofs.Cuts.{cut_at, cut_nowhere, before_at, before_nowhere, behind_at, behind_nowhere}
use Rattle.sched_log.proofs.parts.cut.Goals as goal

pub returns-in_default-clause-parts : goal.returns-in_default-clause-parts
returns-in_default-clause-parts c = cut_nowhere c.args.mark c.args.bytes.now c.in_default.ensures

pub returns-in_default-clause-before : goal.returns-in_default-clause-before
returns-in_default-clause-before c = before_nowhere c.args.mark c.args.bytes.now c.in_default.ensures

pub returns-in_default-clause-behind : goal.returns-in_default-clause-behind
returns-in_default-clause-behind c = behind_nowhere c.args.mark c.args.bytes.now c.in_default.ensures

pub returns-clause-parts : goal.returns-clause-parts
returns-clause-parts c = cut_at c.args.mark c.args.bytes.now c.in-Some.at c.in-Some.ensures.0 c.in-Some.ensures.1

pub returns-clause-before : goal.returns-clause-before
returns-clause-before c = before_at c.args.mark c.args.bytes.now c.in-Some.at c.in-Some.ensures.0 c.in-Some.ensures.1

pub returns-clause-behind : goal.returns-clause-behind
returns-clause-behind c = behind_at c.args.mark c.args.bytes.now c.in-Some.at c.in-Some.ensures.0 c.in-Some.ensures.1
