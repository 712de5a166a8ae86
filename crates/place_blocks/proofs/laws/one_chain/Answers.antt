use Rattle.place_blocks.proofs.Once.{chain_once}
use Rattle.place_blocks.proofs.laws.one_chain.Goals as goal

pub returns : goal.returns
returns c = chain_once
