use Rattle.std.proofs.Common.{◌≡◌, ◌++◌, map}
use Rattle.std.specs.List.{range_with_len}
use Rattle.plant_config.specs.DrillPlant.{remote_source}
use Rattle.plant_config.proofs.drill.add_remote.Given as goal

abbrev pub invariant-loop-origin : goal.invariant-loop-origin
invariant-loop-origin l = l.sources.items ≡ l.initial.sources.items ++ map remote_source (range_with_len 0 l.origin)
