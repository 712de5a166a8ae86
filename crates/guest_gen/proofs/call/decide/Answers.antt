use Rattle.std.proofs.Common.{Some, ap, ◌∙◌}
use Rattle.guest_gen.proofs.Decided.{text_refused, text_decided}
use Rattle.guest_gen.proofs.call.decide.Goals as goal

pub returns-in-Err-fetch : goal.returns-in-Err-fetch
returns-in-Err-fetch g c = λ rest.
    text_refused _ c.in-Assemble.input c.in-Assemble.output (c.in-Ok.ensures.ok ∙ ap Some c.in-Assemble.is) _ _ c.in-Err-fetch.why c.from.result (rw (← c.as_str.ensures) (c.in-Err-fetch.ensures.read rest)) c.from.ensures

pub returns-in-Ok-fetch : goal.returns-in-Ok-fetch
returns-in-Ok-fetch g c = λ rest.
    text_decided _ c.in-Assemble.input c.in-Assemble.output (c.in-Ok.ensures.ok ∙ ap Some c.in-Assemble.is) _ _ c.in-Ok-fetch.bytes c.file_of.result (rw (← c.as_str.ensures) (c.in-Ok-fetch.ensures.read rest)) (rw (← c.as_slice.ensures) c.file_of.ensures)
