use Rattle.std.proofs.Common.{◌∙◌, Ok}
use Rattle.top_call.specs.Outside.{with_files, with_out}
use Rattle.live.proofs.Written.{full_ends, life_ends, life_fails}
use Rattle.live.proofs.writing.finish_life.Goals as goal

pub returns-in_default : goal.returns-in_default
returns-in_default g c = λ rest.
    rw (c.unlived.ensures) (full_ends (Ok c.args.life) _ _ c.give_up.result (c.give_up.ensures (with_files g.F.Files c.args.files.now (with_out g.O.Sink c.args.out.now rest))))

pub returns-in-Ok-write_life : goal.returns-in-Ok-write_life
returns-in-Ok-write_life g c = λ rest. life_ends c.args.life c.as_slice.result.now _ _ _ (c.as_slice.ensures ∙ c.in-Ok.ensures) (c.in-Ok-write_life.ensures rest) c.answer_of.ensures

pub returns : goal.returns
returns g c = λ rest. life_fails c.args.life c.as_slice.result.now _ _ _ (c.as_slice.ensures ∙ c.in-Ok.ensures) (c.in-Err.ensures rest) c.unwritten_of.ensures
