use Rattle.std.proofs.Common.{inl, inr}
use Rattle.top_call.specs.Outside.{with_out}
use Rattle.report.proofs.Ending.{ends_as}
use Rattle.report.proofs.writing.finish.Goals as goal

pub returns-in_default : goal.returns-in_default
returns-in_default g c = λ rest. inr (c.give_up.ensures (with_out g.O.Sink c.args.out.now rest))

pub returns : goal.returns
returns g c = λ rest. inl (ends_as c.args.decision c.in-Ok.writing _ _ _ c.in-Ok.ensures.is c.in-Ok.ensures.memory (c.deliver.ensures rest))
