use Rattle.placer_cases.proofs.thread_tests.placed.Given as goal

abbrev pub ghosts-placed_as : goal.ghosts-placed_as
ghosts-placed_as g a = record { image = a.image.now }
