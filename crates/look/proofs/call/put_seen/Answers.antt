use Rattle.std.proofs.Common.{inl}
use Rattle.top_call.specs.Outside.{with_files, with_out}
use Rattle.look.proofs.Promised.{text_then_picture, text_alone}
use Rattle.look.proofs.call.put_seen.Goals as goal

pub returns-in_default : goal.returns-in_default
returns-in_default g c = λ rest. inl (rw (← c.as_slice.ensures) (c.in_default.ensures (with_files g.F.Files c.args.files.now rest)))

pub returns-in_default-picture : goal.returns-in_default-picture
returns-in_default-picture g c = λ rest.
    text_alone _ _ _ _ c.in_default-picture.is (rw (← c.as_slice.ensures) (c.in-Ok.ensures (with_files g.F.Files c.args.files.now rest)))

pub returns : goal.returns
returns g c = λ rest.
    text_then_picture _ _ c.in-Some.picture _ (with_files g.F.Files c.args.files.now (with_out g.O.Sink c.write_out.new.out rest)) _ c.write_file.result c.in-Some.is
    (rw (← c.as_slice.ensures) (c.in-Ok.ensures (with_files g.F.Files c.args.files.now rest)))
    (rw (← c.as_str.ensures, ← c.as_slice-2.ensures) (c.write_file.ensures (with_out g.O.Sink c.write_out.new.out rest)))
