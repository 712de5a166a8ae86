use Rattle.play.proofs.Decided.{guest_input_refused, guest_full, guest_given}
use Rattle.play.proofs.call.decide_guest.Goals as goal

pub returns-in-Err : goal.returns-in-Err
returns-in-Err g c = λ rest. guest_input_refused c.args.said.now c.args.count _ _ c.in-Err.why c.from.result (c.in-Err.ensures rest) c.from.ensures

pub returns-in_default : goal.returns-in_default
returns-in_default g c = λ rest. guest_full c.args.said.now c.args.count _ _ c.in-Ok.bytes (c.in-Ok.ensures rest)

pub returns-in_default-guest_script : goal.returns-in_default-guest_script
returns-in_default-guest_script g c = λ rest. guest_full c.args.said.now c.args.count _ _ c.in-Ok.bytes (c.in-Ok.ensures rest)

pub returns : goal.returns
returns g c = λ rest.
    guest_given c.args.said.now c.args.count _ _ c.in-Ok-guest_file.program c.in-Ok-guest_script.script c.in-Ok.bytes c.run.result c.in-Ok-guest_file.ensures c.in-Ok-guest_script.ensures (c.in-Ok.ensures rest)
    (rw (← c.as_slice.ensures, ← c.as_slice-2.ensures, ← c.into_vec.ensures) c.run.ensures)
