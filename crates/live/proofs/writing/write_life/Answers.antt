use Rattle.top_call.specs.Outside.{with_files, with_out, with_err}
use Rattle.top_call.specs.Writing.{to_out, to_err}
use Rattle.live.proofs.Written.{first_failed, record_failed, last_wrote}
use Rattle.live.proofs.writing.write_life.Goals as goal

pub returns-in_default : goal.returns-in_default
returns-in_default g c = λ rest.
    first_failed (to_out c.args.life.now.delivery.out) (to_err c.args.text.now) c.args.life.now.file _ _
    (rw (← c.as_slice.ensures) (c.in_default.ensures (with_files g.F.Files c.args.files.now (with_err g.E.Sink c.args.err.now rest))))

pub returns-in_default-write_record : goal.returns-in_default-write_record
returns-in_default-write_record g c = λ rest.
    record_failed (to_out c.args.life.now.delivery.out) (to_err c.args.text.now) c.args.life.now.file _
    (with_files g.F.Files c.args.files.now (with_out g.O.Sink c.write_out.new.out (with_err g.E.Sink c.args.err.now rest)))
    (rw (← c.as_slice.ensures) (c.in-Ok.ensures (with_files g.F.Files c.args.files.now (with_err g.E.Sink c.args.err.now rest)))) _
    (c.in_default-write_record.ensures (with_out g.O.Sink c.write_out.new.out (with_err g.E.Sink c.args.err.now rest)))

pub returns : goal.returns
returns g c = λ rest.
    last_wrote (to_out c.args.life.now.delivery.out) (to_err c.args.text.now) c.args.life.now.file _
    (with_files g.F.Files c.args.files.now (with_out g.O.Sink c.write_out.new.out (with_err g.E.Sink c.args.err.now rest)))
    (rw (← c.as_slice.ensures) (c.in-Ok.ensures (with_files g.F.Files c.args.files.now (with_err g.E.Sink c.args.err.now rest))))
    (with_files g.F.Files c.write_record.new.files (with_out g.O.Sink c.write_out.new.out (with_err g.E.Sink c.args.err.now rest)))
    (c.in-Ok-write_record.ensures (with_out g.O.Sink c.write_out.new.out (with_err g.E.Sink c.args.err.now rest))) _
    c.write_err.result (c.write_err.ensures (with_files g.F.Files c.write_record.new.files (with_out g.O.Sink c.write_out.new.out rest)))
