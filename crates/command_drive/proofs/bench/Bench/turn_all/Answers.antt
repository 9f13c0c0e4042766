use Rattle.std.proofs.Common.{◌∙◌, sym}
use Rattle.command_drive.specs.Drive.{turn, turns}
use Rattle.command_drive.proofs.RegularLemmas.{regular_turn}
use Rattle.command_drive.proofs.BenchLemmas.{one_turn}
use Rattle.command_drive.proofs.bench.Bench.turn_all.Goals as goal

pub loop-self-preserved : goal.loop-self-preserved
loop-self-preserved c = record {
  stands =
      let it = c.loop-self.invariant.stands in
      record { drive = turn it.drive; shows = c.turn.ensures.turn it.drive it.shows it.regular; regular = regular_turn it.drive it.regular };
  ready = c.turn.ensures.ready;
  going = λ first is regular.
      let turned = c.loop-self.invariant.going first is regular in
      one_turn first c.loop-self.self c.turn.new.self regular turned (sym (c.is_over.ensures (turns turned.count first) turned.shows) ∙ c.loop-self-test.true) c.turn.ensures.turn;
}
