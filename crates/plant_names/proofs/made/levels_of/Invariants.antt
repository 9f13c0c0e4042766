use Rattle.plant_names.specs.NamesInside.{IsTable, placed}
use Rattle.plant_names.proofs.made.levels_of.Given as goal

-- The table has the levels so far.
abbrev pub invariant-loop-place : goal.invariant-loop-place
invariant-loop-place l = IsTable (placed l.plant) l.place l.levels.items
