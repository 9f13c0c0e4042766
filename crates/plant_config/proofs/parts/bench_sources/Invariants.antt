use Rattle.std.proofs.Common.{◌≡◌, ℕ, map, None}
use Rattle.std.specs.List.{range_with_len}
use Rattle.plant_file.specs.Reading.{default_name, source_letter}
use Rattle.plant_config.specs.declared.records.Source.{Source}
use Rattle.plant_config.proofs.parts.bench_sources.Given as goal

abbrev pub invariant-loop-number : goal.invariant-loop-number
invariant-loop-number l = l.sources.items ≡ map (λ (number : ℕ). let source : Source = record { name = default_name source_letter number; origin = number; pool = None } in source) (range_with_len 0 l.number)
