use Rattle.top_call.specs.Outside.{with_files, with_input}
use Rattle.look.proofs.Decided.{first_refused, script_refused, input_refused, run_shown}
use Rattle.look.proofs.call.decide_run.Goals as goal

pub returns-in-Err : goal.returns-in-Err
returns-in-Err g c = λ rest.
    first_refused c.args.said.now c.args.run.now _ _ c.in-Err.why c.from.result (rw (← c.as_str.ensures) (c.in-Err.ensures.read (with_input g.I.Source c.args.input.now rest))) c.from.ensures

pub returns-in-Err-fetch : goal.returns-in-Err-fetch
returns-in-Err-fetch g c = λ rest.
    script_refused c.args.said.now c.args.run.now _ (with_files g.F.Files c.fetch.new.files (with_input g.I.Source c.args.input.now rest)) c.in-Ok.bytes
    (rw (← c.as_str.ensures) (c.in-Ok.ensures.read (with_input g.I.Source c.args.input.now rest))) _ c.in-Err-fetch.why c.from-in-Err-fetch.result
    (rw (← c.as_str-2.ensures) (c.in-Err-fetch.ensures.read (with_input g.I.Source c.args.input.now rest))) c.from-in-Err-fetch.ensures

pub returns-in-Err-fetch_input : goal.returns-in-Err-fetch_input
returns-in-Err-fetch_input g c = λ rest.
    input_refused c.args.said.now c.args.run.now _ (with_files g.F.Files c.fetch.new.files (with_input g.I.Source c.args.input.now rest)) c.in-Ok.bytes
    (rw (← c.as_str.ensures) (c.in-Ok.ensures.read (with_input g.I.Source c.args.input.now rest)))
    (with_files g.F.Files c.fetch-2.new.files (with_input g.I.Source c.args.input.now rest)) c.in-Ok-fetch.bytes
    (rw (← c.as_str-2.ensures) (c.in-Ok-fetch.ensures.read (with_input g.I.Source c.args.input.now rest))) _ c.in-Err-fetch_input.why c.from-in-Err-fetch_input.result
    (c.in-Err-fetch_input.ensures (with_files g.F.Files c.fetch-2.new.files rest)) c.from-in-Err-fetch_input.ensures

pub returns : goal.returns
returns g c = λ rest.
    run_shown c.args.said.now c.args.run.now _ (with_files g.F.Files c.fetch.new.files (with_input g.I.Source c.args.input.now rest)) c.in-Ok.bytes
    (rw (← c.as_str.ensures) (c.in-Ok.ensures.read (with_input g.I.Source c.args.input.now rest)))
    (with_files g.F.Files c.fetch-2.new.files (with_input g.I.Source c.args.input.now rest)) c.in-Ok-fetch.bytes
    (rw (← c.as_str-2.ensures) (c.in-Ok-fetch.ensures.read (with_input g.I.Source c.args.input.now rest))) _ c.in-Ok-fetch_input.bytes c.show_run.result
    (c.in-Ok-fetch_input.ensures (with_files g.F.Files c.fetch-2.new.files rest)) (rw (← c.as_slice.ensures, ← c.as_slice-2.ensures, ← c.into_vec.ensures) c.show_run.ensures)
