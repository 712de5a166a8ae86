use Rattle.live_threads.specs.Ran.{terms_of}
use Rattle.live_threads.proofs.run.run_shown.Given as goal

abbrev pub ghosts-run_named-J-Named : goal.ghosts-run_named-J-Named
ghosts-run_named-J-Named g a = record { image = a.image }

abbrev pub ghosts-run_named-J-Run : goal.ghosts-run_named-J-Run
ghosts-run_named-J-Run g a = record { terms = terms_of a.image a.input.items a.settings.ring a.settings.workers a.settings.every a.settings.limit }

abbrev pub ghosts-run_named-J-Ledger : goal.ghosts-run_named-J-Ledger
ghosts-run_named-J-Ledger g a = record { name = a.blank.name; parts = a.blank.parts }

abbrev pub ghosts-run_named-J-Watched : goal.ghosts-run_named-J-Watched
ghosts-run_named-J-Watched g a = record { cell = a.watch.now }
