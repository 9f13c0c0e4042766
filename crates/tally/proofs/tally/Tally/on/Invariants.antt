use Rattle.tally.proofs.tally.Tally.on.Given as goal

abbrev pub ghosts-is_on : goal.ghosts-is_on
ghosts-is_on a = record { name = a.blank.name; parts = a.blank.parts }
