use Rattle.top_call.specs.Outside.{no_device, with_files, with_input, with_out, with_err}
use Rattle.top_call.proofs.Called.{delivered}
use Rattle.delivered.proofs.WorldLaws.{laws, one_result}
use Rattle.look.specs.Decision.{look, reading_of}
use Rattle.look.proofs.OneDecision.{one_decision}
use Rattle.look.proofs.Promised.{promised}
use Rattle.look.proofs.call.look.Goals as goal

pub returns : goal.returns
returns g c =
    promised _ _ _ _ (one_decision laws (one_result c.one_plan.ensures) _)
    (delivered look (reading_of _) _
    (with_files g.F.Files c.decide-decision.new.files (with_input g.I.Source c.decide-decision.new.input (with_out g.O.Sink c.args.out.now (with_err g.E.Sink c.args.err.now no_device))))
    _ c.decide-decision.result _
    (c.decide-decision.ensures (with_out g.O.Sink c.args.out.now (with_err g.E.Sink c.args.err.now no_device)))
    (c.deliver.ensures (with_input g.I.Source c.decide-decision.new.input no_device)))
