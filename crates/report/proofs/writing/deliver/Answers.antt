use Rattle.std.proofs.Common.{inl, inr, ap}
use Rattle.top_call.specs.Outside.{with_out}
use Rattle.report.specs.declared.answer.Ended.TheVariants.{Ran}
use Rattle.report.proofs.writing.deliver.Goals as goal

pub returns-in_default : goal.returns-in_default
returns-in_default g c = λ rest. rw (c.in-Run.is) (inr (rw (← c.as_slice.ensures, ← c.as_slice-in-Run.ensures) (c.in_default.ensures rest), c.refused.ensures))

pub returns-in-Ok : goal.returns-in-Ok
returns-in-Ok g c = λ rest. rw (c.in-Run.is) (inl (rw (← c.as_slice.ensures, ← c.as_slice-in-Run.ensures) (c.in-Ok.ensures rest), ap (λ status. record { status = status; ended = Ran c.in-Run.outcome; report = c.in-Run.report }) c.status.ensures))

pub returns-in-Refusal : goal.returns-in-Refusal
returns-in-Refusal g c = λ rest. rw (c.in-Refusal.is) (rw (← c.as_slice-in-Refusal.ensures) (c.refuse.ensures (with_out g.O.Sink c.args.out.now rest)))
