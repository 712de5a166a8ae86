use Rattle.std.proofs.Common.{inl}
use Rattle.top_call.specs.Outside.{with_files, with_out}
use Rattle.guest_gen.proofs.Promised.{file_then_line, file_alone}
use Rattle.guest_gen.proofs.call.put_file.Goals as goal

pub returns-in_default-clause-wrote : goal.returns-in_default-clause-wrote
returns-in_default-clause-wrote g c = λ rest. inl (rw (← c.as_str.ensures) (c.in_default.ensures (with_out g.O.Sink c.args.out.now rest)))

pub returns-in_default-line-clause-wrote : goal.returns-in_default-line-clause-wrote
returns-in_default-line-clause-wrote g c = λ rest.
    file_alone _ _ _ _ _ c.in_default-line.is (rw (← c.as_str.ensures, ← c.as_slice.ensures) (c.in-Ok.ensures (with_out g.O.Sink c.args.out.now rest)))

pub returns-clause-wrote : goal.returns-clause-wrote
returns-clause-wrote g c = λ rest.
    file_then_line _ _ c.in-Some.line _ _ (with_files g.F.Files c.write_file.new.files (with_out g.O.Sink c.args.out.now rest)) _ c.write_out.result c.in-Some.is
    (rw (← c.as_str.ensures, ← c.as_slice.ensures) (c.in-Ok.ensures (with_out g.O.Sink c.args.out.now rest)))
    (rw (← c.as_str-2.ensures, ← c.as_bytes.ensures.value) (c.write_out.ensures (with_files g.F.Files c.write_file.new.files rest)))
