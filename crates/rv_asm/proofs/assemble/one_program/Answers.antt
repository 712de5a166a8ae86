use Rattle.rv_asm.proofs.OneProgram.{one_program}
use Rattle.rv_asm.proofs.assemble.one_program.Goals as goal

pub returns : goal.returns
returns c = one_program
