use Rattle.live.proofs.Written.{one_record}
use Rattle.live.proofs.writing.write_record.Goals as goal

pub returns : goal.returns
returns g c = λ rest. one_record c.args.file.now c.in-Some.file _ _ c.write_file.result c.in-Some.is (rw (← c.as_str.ensures, ← c.as_slice.ensures) (c.write_file.ensures rest))
