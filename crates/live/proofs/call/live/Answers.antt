use Rattle.std.specs.Prelude.{Err}
use Rattle.top_call.specs.Outside.{no_device, with_files, with_input, with_out, with_err}
use Rattle.top_call.proofs.Called.{delivered}
use Rattle.report.specs.declared.answer.Ended.TheVariants.{NoMemory}
use Rattle.live.specs.Decision as decision
use Rattle.live.proofs.Decided.{words_full}
use Rattle.live.proofs.Promised.{promised}
use Rattle.live.proofs.call.live.Goals as goal

-- no room for the watch
pub returns-in_default : goal.returns-in_default
returns-in_default g c =
    promised _ _ _ _
    (delivered decision.live (decision.reading_of _) _
    (with_files g.F.Files c.args.files.now (with_input g.I.Source c.args.input.now (with_out g.O.Sink c.args.out.now (with_err g.E.Sink c.args.err.now no_device))))
    _ (Err NoMemory) _
    (words_full _ _)
    (c.finish_call.ensures (with_input g.I.Source c.args.input.now no_device)))
