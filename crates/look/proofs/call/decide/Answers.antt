use Rattle.top_call.specs.Outside.{with_input}
use Rattle.look.proofs.Decided.{words_refused, words_full, by_words}
use Rattle.look.proofs.call.decide.Goals as goal

pub returns-in-Err-Usage : goal.returns-in-Err-Usage
returns-in-Err-Usage g c = λ rest. words_refused _ _ (c.in-Err-Usage.ensures.err (λ is. let e = c.in-Err-Usage.field-0-is in cc))

pub returns-in-Err-NoMemory : goal.returns-in-Err-NoMemory
returns-in-Err-NoMemory g c = λ rest. words_full _ _

pub returns-in-Program : goal.returns-in-Program
returns-in-Program g c = λ rest.
    by_words _ c.in-Ok.said _ _ _ c.decide_program.result c.in-Ok.ensures.ok c.in-Program.is (c.decide_program.ensures (with_input g.I.Source c.args.input.now rest))

pub returns : goal.returns
returns g c = λ rest.
    by_words _ c.in-Ok.said _ _ _ c.decide_run.result c.in-Ok.ensures.ok c.in-Run.is (c.decide_run.ensures rest)
