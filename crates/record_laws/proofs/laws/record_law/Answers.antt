use Rattle.record_laws.proofs.Ranging.{ranged}
use Rattle.record_laws.proofs.Texts.{text_length, text_back}
use Rattle.record_laws.proofs.laws.record_law.Goals as goal

pub returns : goal.returns
returns _ = record { range = ranged; back = text_back; text = text_length }
