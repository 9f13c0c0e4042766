use Rattle.std.proofs.Common.{◌≡◌, ◌++◌, map}
use Rattle.std.specs.List.{range_with_len}
use Rattle.plant_file.specs.Reading.{default_name, destination_letter}
use Rattle.plant_config.proofs.drill.add_dest_names.Given as goal

abbrev pub invariant-loop-number : goal.invariant-loop-number
invariant-loop-number l = l.names.items ≡ l.initial.names.items ++ map (default_name destination_letter) (range_with_len 0 l.number)
