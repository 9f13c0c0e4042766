use Rattle.std.proofs.Common.{◌≡◌, take}
use Rattle.plant_names.proofs.level.index_of.Given as goal

-- The names so far are in the index.
abbrev pub invariant-loop-name : goal.invariant-loop-name
invariant-loop-name l = l.index.keys ≡ take l.name-index l.names
