use Rattle.std.proofs.Common.{◌≡◌, length, drop}
use Rattle.plant_core.specs.Noticed.{all_marked}
use Rattle.plant_core.specs.Salvos.{moved}
use Rattle.plant_core.proofs.notify.notify_moved.Given as goal

-- what is left to be marked leads to what is wanted
abbrev pub invariant-loop-change : goal.invariant-loop-change
invariant-loop-change l = record {
  count : length l.notices ≡ length l.fn.notices;
  marked : all_marked l.notices (moved l.crosspoints.entries (drop l.change-index l.changes)) ≡ all_marked l.fn.notices (moved l.crosspoints.entries l.changes);
}
