use Rattle.blocks.proofs.Soundness.{sound, alone}
use Rattle.blocks.proofs.laws.sound_blocks.Goals as goal

pub returns : goal.returns
returns c = record { sound = sound; alone = alone }
