use Rattle.std.proofs.Common.{◌≡◌, map}
use Rattle.std.specs.List.{range_with_len}
use Rattle.plant_core.specs.Step.{dumped_at}
use Rattle.plant_core.proofs.state.PlantState.dump.Given as goal

-- The destinations so far were told.
abbrev pub invariant-loop-dest : goal.invariant-loop-dest
invariant-loop-dest l = record {
  answers : l.out.items ≡ map (λ dest. dumped_at l.self (record { matrix = l.matrix; level = l.level; dest = dest })) (range_with_len 0 l.dest);
  places : l.out.places ≡ l.fn.out.places;
}
