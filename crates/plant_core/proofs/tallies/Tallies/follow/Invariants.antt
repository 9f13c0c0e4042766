use Rattle.plant_core.proofs.tallies.Tallies.follow.Given as goal

abbrev pub ghosts-follow_counted : goal.ghosts-follow_counted
ghosts-follow_counted a = record { name = a.blank.name; parts = a.blank.parts }
