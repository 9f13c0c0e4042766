use Rattle.plant_tests.proofs.examples.of_mixer_effects.has_no_bus.Given as goal

abbrev pub ghosts-counted : goal.ghosts-counted
ghosts-counted g a = record { name = a.blank.name; parts = a.blank.parts }
