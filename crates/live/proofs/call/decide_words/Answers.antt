use Rattle.top_call.specs.Outside.{with_files, with_input}
use Rattle.live.proofs.Decided.{program_refused, input_refused, all_given}
use Rattle.live.proofs.call.decide_words.Goals as goal

pub returns-in-Err : goal.returns-in-Err
returns-in-Err g c = λ rest.
    program_refused c.args.said.now c.as_str.result.now c.as_str.ensures _ _ c.in-Err.why c.from.result (c.in-Err.ensures.read (with_input g.I.Source c.args.input.now rest)) c.from.ensures

pub returns-in-Err-fetch_input : goal.returns-in-Err-fetch_input
returns-in-Err-fetch_input g c = λ rest.
    input_refused c.args.said.now c.as_str.result.now c.as_str.ensures _ (with_files g.F.Files c.fetch.new.files (with_input g.I.Source c.args.input.now rest)) c.in-Ok.bytes (c.in-Ok.ensures.read (with_input g.I.Source c.args.input.now rest))
    _ c.in-Err-fetch_input.why c.from-in-Err-fetch_input.result (c.in-Err-fetch_input.ensures (with_files g.F.Files c.fetch.new.files rest)) c.from-in-Err-fetch_input.ensures

pub returns : goal.returns
returns g c = λ rest.
    all_given c.args.said.now c.as_str.result.now c.as_str.ensures _ (with_files g.F.Files c.fetch.new.files (with_input g.I.Source c.args.input.now rest)) c.in-Ok.bytes (c.in-Ok.ensures.read (with_input g.I.Source c.args.input.now rest))
    _ c.in-Ok-fetch_input.bytes c.run.result (c.in-Ok-fetch_input.ensures (with_files g.F.Files c.fetch.new.files rest))
    (rw (← c.as_slice.ensures, ← c.into_vec.ensures) c.run.ensures)
