use Rattle.top_call.specs.Outside.{no_device, with_files, with_input, with_out, with_err}
use Rattle.top_call.proofs.Called.{delivered}
use Rattle.live.specs.Decision as decision
use Rattle.live.proofs.Promised.{promised}
use Rattle.live.proofs.call.live_shown.Goals as goal

pub returns : goal.returns
returns g c =
    promised _ _ _ _
    (delivered decision.live (decision.reading_of _) _
    (with_files g.F.Files c.decide-decision.new.files (with_input g.I.Source c.decide-decision.new.input (with_out g.O.Sink c.args.out.now (with_err g.E.Sink c.args.err.now no_device))))
    _ c.decide-decision.result _
    (c.decide-decision.ensures (with_out g.O.Sink c.args.out.now (with_err g.E.Sink c.args.err.now no_device)))
    (c.finish_call.ensures (with_input g.I.Source c.decide-decision.new.input no_device)))
