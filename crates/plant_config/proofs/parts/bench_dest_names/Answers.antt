use Rattle.std.proofs.Common.{◌≡◌, arith}
use Rattle.std.proofs.lemmas.List.FromFn.{map-range_with_len_more}
use Rattle.plant_file.specs.Reading.{default_name, destination_letter}
use Rattle.plant_config.specs.Bench.{bench_dest_names}
use Rattle.plant_config.proofs.parts.bench_dest_names.Goals as goal

pub loop-number-preserved : goal.loop-number-preserved
loop-number-preserved c = rw (c.in_ok-push.ensures.items, c.loop-number.invariant, c.numbered.ensures, map-range_with_len_more (default_name destination_letter) 0 c.loop-number.number c.loop-number.number (omega arith))

pub returns : goal.returns
unfolding bench_dest_names
returns c = let all : c.loop-number.number ≡ 32 = omega arith in rw (c.loop-number.invariant, all)
