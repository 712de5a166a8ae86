use Rattle.look.proofs.Decided.{program_refused, program_shown}
use Rattle.look.proofs.call.decide_program.Goals as goal

pub returns-in-Err : goal.returns-in-Err
returns-in-Err g c = λ rest.
    program_refused c.args.said.now c.args.function.now _ _ c.in-Err.why c.from.result (rw (← c.as_str.ensures) (c.in-Err.ensures.read rest)) c.from.ensures

pub returns : goal.returns
returns g c = λ rest.
    program_shown c.args.said.now c.args.function.now _ _ c.in-Ok.bytes c.show.result (rw (← c.as_str.ensures) (c.in-Ok.ensures.read rest)) (rw (← c.as_slice.ensures) c.show.ensures)
