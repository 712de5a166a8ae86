use Rattle.live.proofs.Decided.{words_refused, words_full, by_words}
use Rattle.live.proofs.call.decide.Goals as goal

pub returns-in-Err-Usage : goal.returns-in-Err-Usage
returns-in-Err-Usage g c = λ rest. words_refused _ _ (c.in-Err-Usage.ensures.err (λ is. let e = c.in-Err-Usage.field-0-is in cc))

pub returns-in-Err-NoMemory : goal.returns-in-Err-NoMemory
returns-in-Err-NoMemory g c = λ rest. words_full _ _

pub returns : goal.returns
returns g c = λ rest. by_words _ c.in-Ok.said _ _ c.decide_words.result c.in-Ok.ensures.ok (c.decide_words.ensures rest)
