use Rattle.play.proofs.generated.guest_file.Goals as goal

pub returns : goal.returns
returns c = record { program = c.in_ok-program.program; generated = c.in_ok-program.ensures; is = c.in_ok-bytes.ensures.file }
