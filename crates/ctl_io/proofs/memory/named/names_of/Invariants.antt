use Rattle.std.proofs.Common.{◌≡◌, map, take}
use Rattle.ctl_io.proofs.memory.named.names_of.Given as goal

abbrev pub invariant-loop-entry : goal.invariant-loop-entry
invariant-loop-entry g l = l.names.items ≡ map g.T.Named.name_of (take l.entry-index l.entries)
