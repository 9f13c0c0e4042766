use Rattle.std.proofs.Common.{◌≡◌, ℕ, refl, ap, subst}
use Rattle.std.specs.Prelude.{slice_index_or, slice_set}
use Rattle.record_replay.specs.OutputInside.{Gives}
use Rattle.record_replay.specs.Replay.{turn_line}
use Rattle.record_replay.proofs.TurnLemmas.{Puts-turn}
use Rattle.record_replay.proofs.ReplayerLemmas.{ready, replay_runs, may_turn, turn_done}
use Rattle.record_replay.proofs.replayer.Replayer.turn.Goals as goal

pub work_turn-requires : goal.work_turn-requires
work_turn-requires g c =
    ready c.args.self.now.plant.now c.args.panel c.args.piece.now c.args.self.now c.index_mut.result.now c.requires.panel c.requires.may
    (subst (λ (place : ℕ). c.index_mut.result.now ≡ slice_index_or c.args.self.now.sessions.items place c.index_mut.result.now) c.get.ensures c.index_mut.ensures.value)

pub returns : goal.returns
returns g c = λ stand used stands within.
    let plant = c.args.self.now.plant.now in
    let is = subst (λ (place : ℕ). c.index_mut.result.now ≡ slice_index_or c.args.self.now.sessions.items place c.index_mut.result.now) c.get.ensures c.index_mut.ensures.value in
    let may = may_turn plant c.args.panel c.args.piece.now c.args.self.now c.index_mut.result.now stand used c.requires.panel stands within is in
    let ran = replay_runs (λ old bytes new. Gives g.K.Drain.written g.K.Drain.faults bytes old new) c.args.piece.now c.index_mut.result.now c.work_turn.new.self c.args.self.now.state c.work_turn.new.answerer c.begin_turn.new.self c.work_turn.new.out c.work_turn.result c.work_turn.ensures.turned c.work_turn.ensures.cut plant c.args.panel c.args.panel (stand.pasts c.args.panel) may in (
      turn_line c.args.panel ran.0,
      Puts-turn g.K.Drain.written g.K.Drain.faults c.args.panel ran.0 c.args.out.now c.begin_turn.new.self c.work_turn.new.out c.end_turn.new.self c.begin_turn.ensures.puts c.begin_turn.ensures.none ran.1 c.end_turn.ensures,
      turn_done plant c.args.panel c.args.piece.now c.args.self.now _ c.work_turn.new.self stand used ran.0 c.requires.panel stands ran.2 refl (ap (λ (place : ℕ). slice_set c.args.self.now.sessions.items place c.work_turn.new.self) c.get.ensures) refl,
    )
