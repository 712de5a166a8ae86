use Rattle.std.proofs.Common.{◌∙◌}
use Rattle.elf_read.proofs.NameLemmas.{begins}
use Rattle.elf_read.proofs.elf.Name.starts_with.Goals as goal

pub returns : goal.returns
returns c = rw (← c.self.view_is) (c.starts_with.ensures.value ∙ begins c.self.inside.rest.now c.args.head.now c.requires)
