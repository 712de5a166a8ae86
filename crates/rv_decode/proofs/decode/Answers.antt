use Rattle.rv_decode.proofs.Decoded.{same_as_decoded}
use Rattle.rv_decode.proofs.decode.Goals as goal

pub returns-clause-is : goal.returns-clause-is
returns-clause-is c = same_as_decoded c.args.w c.instruction.result c.instruction.ensures.reads c.instruction.ensures.only
