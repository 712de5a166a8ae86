use Rattle.std.proofs.Common.{refl}
use Rattle.top_call.specs.Outside.{no_device, with_files, with_out, with_err}
use Rattle.top_call.proofs.Called.{delivered}
use Rattle.guest_gen.specs.Decision.{make, reading_of}
use Rattle.guest_gen.proofs.Promised.{promised, out_kept}
use Rattle.guest_gen.proofs.call.make.Goals as goal

pub returns-clause-promise : goal.returns-clause-promise
returns-clause-promise g c =
    promised _ _ _ _ refl (delivered make (reading_of _) _ (with_files g.F.Files c.decide-decision.new.files (with_out g.O.Sink c.args.out.now (with_err g.E.Sink c.args.err.now no_device))) _ c.decide-decision.result _
    (c.decide-decision.ensures (with_out g.O.Sink c.args.out.now (with_err g.E.Sink c.args.err.now no_device)))
    (rw (c.made.ensures) (c.deliver.ensures.ends no_device)))

pub returns-clause-out : goal.returns-clause-out
returns-clause-out g c = out_kept _ _ _ _ _ c.decide-decision.result (c.decide-decision.ensures no_device) c.deliver.ensures.quiet c.deliver.ensures.silent
