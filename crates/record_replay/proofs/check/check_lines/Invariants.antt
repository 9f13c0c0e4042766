use Rattle.std.proofs.Common.{◌+◌, ◌≤◌, length}
use Rattle.record_replay.proofs.LinesSpellLemmas.{SoFar}
use Rattle.record_replay.proofs.check.check_lines.Given as goal

abbrev pub invariant-loop-rest : goal.invariant-loop-rest
invariant-loop-rest l = record {
  so_far : SoFar l.plant l.script l.rest l.number;
  few : l.number + length l.rest ≤ length l.script;
}

abbrev pub decreases-loop-rest : goal.decreases-loop-rest
decreases-loop-rest l = length l.rest
