use Rattle.std.proofs.Common.{inl}
use Rattle.top_call.specs.Outside.{with_out, with_err}
use Rattle.top_call.specs.Writing.{to_out, to_err}
use Rattle.top_call.proofs.Called.{two_writes}
use Rattle.report.proofs.writing.write_run.Goals as goal

pub returns-in_default : goal.returns-in_default
returns-in_default g c = λ rest. inl (c.in_default.ensures (with_err g.E.Sink c.args.err.now rest))

pub returns : goal.returns
returns g c = λ rest.
    two_writes (to_out c.args.first.now) (to_err c.args.second.now) _ (with_out g.O.Sink c.write_out.new.out (with_err g.E.Sink c.args.err.now rest)) _ c.write_err.result
    (c.in-Ok.ensures (with_err g.E.Sink c.args.err.now rest)) (c.write_err.ensures (with_out g.O.Sink c.write_out.new.out rest))
