use Rattle.std.proofs.lemmas.List.{length-map}
use Rattle.run_book.specs.Told.{as_told}
use Rattle.run_book.proofs.Tellings.{same_steps, same_reals}
use Rattle.run_book.proofs.laws.told_law.Goals as goal

pub returns : goal.returns
returns _ = record { length = λ r. length-map r.journal.entries as_told; steps = λ r. same_steps r.journal.entries; reals = λ r. same_reals r.journal.entries }
