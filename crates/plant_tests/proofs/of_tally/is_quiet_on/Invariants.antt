use Rattle.plant_tests.proofs.of_tally.is_quiet_on.Given as goal

abbrev pub ghosts-is_quiet : goal.ghosts-is_quiet
ghosts-is_quiet g a = record { name = a.blank.name; parts = a.blank.parts }
