use Rattle.std.proofs.Common.{inl, inr, refl}
use Rattle.top_call.specs.Outside.{with_files, with_out, with_err}
use Rattle.guest_gen.proofs.call.deliver.Goals as goal

pub returns-in-Err-clause-ends : goal.returns-in-Err-clause-ends
returns-in-Err-clause-ends g c = λ rest. rw (c.in-Err.is) (c.refuse.ensures (with_files g.F.Files c.args.files.now (with_out g.O.Sink c.args.out.now rest)))

pub returns-in_default-clause-ends : goal.returns-in_default-clause-ends
returns-in_default-clause-ends g c = λ rest. rw (c.in-Ok.is) (inl (inr (c.in_default.ensures.wrote (with_err g.E.Sink c.args.err.now rest), refl)))

pub returns-clause-ends : goal.returns-clause-ends
returns-clause-ends g c = λ rest. rw (c.in-Ok.is) (inl (inl (c.in-Ok-put_file.ensures.wrote (with_err g.E.Sink c.args.err.now rest), refl)))
