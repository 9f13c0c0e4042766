use Rattle.plant_names.specs.Pages.{lowest_level}
use Rattle.plant_names.specs.NamesInside.{IsTable}
use Rattle.plant_names.proofs.made.lowest_of.Given as goal

-- The table has the lowest levels of the matrices so far.
abbrev pub invariant-loop-matrix : goal.invariant-loop-matrix
invariant-loop-matrix l = IsTable (lowest_level l.plant) l.matrix l.lowest.items
