use Rattle.relocs.proofs.Builds.{fit_sorted, rise_texts, starts_texts, all_cuts, entry_there, no_aims}
use Rattle.relocs.proofs.build.text_laws.Goals as goal

pub returns-clause-fit : goal.returns-clause-fit
returns-clause-fit c = fit_sorted c.args.elf.now c.args.region c.args.texts.now c.requires.whole c.requires.faultless c.requires.same

pub returns-clause-rise : goal.returns-clause-rise
returns-clause-rise c = rise_texts c.args.elf.now c.args.region c.args.texts.now c.requires.whole c.requires.faultless c.requires.sorted c.requires.same

pub returns-clause-starts : goal.returns-clause-starts
returns-clause-starts c = starts_texts c.args.texts.now (fit_sorted c.args.elf.now c.args.region c.args.texts.now c.requires.whole c.requires.faultless c.requires.same) (rise_texts c.args.elf.now c.args.region c.args.texts.now c.requires.whole c.requires.faultless c.requires.sorted c.requires.same)

pub returns-clause-cuts : goal.returns-clause-cuts
returns-clause-cuts c = all_cuts c.args.elf.now c.args.region c.args.texts.now c.requires.whole c.requires.faultless c.requires.same

pub returns-clause-entry : goal.returns-clause-entry
returns-clause-entry c = entry_there c.args.elf.now c.args.region c.args.texts.now c.requires.whole c.requires.faultless c.requires.same

pub returns-clause-unaimed : goal.returns-clause-unaimed
returns-clause-unaimed c = no_aims c.args.elf.now c.args.region c.args.texts.now c.requires.faultless c.requires.same
