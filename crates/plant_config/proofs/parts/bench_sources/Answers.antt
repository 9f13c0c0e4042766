use Rattle.std.proofs.Common.{◌≡◌, ℕ, None, arith}
use Rattle.std.proofs.lemmas.List.FromFn.{map-range_with_len_more}
use Rattle.plant_file.specs.Reading.{default_name, source_letter}
use Rattle.plant_config.specs.declared.records.Source.{Source}
use Rattle.plant_config.specs.Bench.{bench_sources}
use Rattle.plant_config.proofs.parts.bench_sources.Goals as goal

pub loop-number-preserved : goal.loop-number-preserved
loop-number-preserved c = rw (c.in_ok-push.ensures.items, c.loop-number.invariant, c.numbered.ensures, c.of.ensures, c.from.ensures, map-range_with_len_more (λ (number : ℕ). let source : Source = record { name = default_name source_letter number; origin = number; pool = None } in source) 0 c.loop-number.number c.loop-number.number (omega arith))

pub returns : goal.returns
unfolding bench_sources
returns c = let all : c.loop-number.number ≡ 32 = omega arith in rw (c.loop-number.invariant, all)
