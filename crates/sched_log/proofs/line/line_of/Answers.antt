use Rattle.sched_log.proofs.line.line_of.Goals as goal

pub returns-clause-range : goal.returns-clause-range
returns-clause-range c = c.words_line.ensures.range c.args.image.now
