use Rattle.relocs.proofs.Builds.{free_there}
use Rattle.relocs.proofs.build.region_laws.Goals as goal

pub returns : goal.returns
returns c = free_there c.args.elf.now c.args.region c.args.texts.now c.args.parts.now c.requires.whole c.requires.faultless c.requires.texts c.requires.parts
