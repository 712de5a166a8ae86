use Rattle.std.proofs.Common.{inl, inr}
use Rattle.top_call.specs.Outside.{with_files, with_out, with_err}
use Rattle.look.proofs.call.deliver.Goals as goal

pub returns-in-Err : goal.returns-in-Err
returns-in-Err g c = λ rest. rw (c.in-Err.is) (c.refuse.ensures (with_files g.F.Files c.args.files.now (with_out g.O.Sink c.args.out.now rest)))

pub returns-in_default : goal.returns-in_default
returns-in_default g c = λ rest. rw (c.in-Ok.is) (inl (inr (c.in_default.ensures (with_err g.E.Sink c.args.err.now rest), c.answered.ensures)))

pub returns : goal.returns
returns g c = λ rest. rw (c.in-Ok.is) (inl (inl (c.in-Ok-put_seen.ensures (with_err g.E.Sink c.args.err.now rest), c.answered-2.ensures)))
