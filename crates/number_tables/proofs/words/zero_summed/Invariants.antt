use Rattle.number_tables.specs.SetInside.{ZeroesBelow}
use Rattle.number_tables.proofs.words.zero_summed.Given as goal

abbrev pub invariant-loop-group : goal.invariant-loop-group
invariant-loop-group l = ZeroesBelow l.initial.words l.words l.group
