use Rattle.std.proofs.Common.{rules, length, refl, arith}
use Rattle.record_replay.specs.OutputInside.{Puts}
use Rattle.record_replay.specs.Script.{Read}
use Rattle.record_replay.proofs.SentLemmas.{does_unsent}
use Rattle.record_replay.proofs.WorkLineLemmas.{may_less, first_may, first_done}
use Rattle.record_replay.proofs.WorkScriptLemmas.{first_spelled}
use Rattle.record_replay.proofs.replayer.Replayer.work_first.Goals as goal

pub turn-requires-clause-panel : goal.turn-requires-clause-panel
turn-requires-clause-panel g c = c.in-Some.ensures.2.1.of_plant

pub turn-requires-clause-may : goal.turn-requires-clause-may
turn-requires-clause-may g c = first_may c.args.self.now.plant.now c.args.self.now c.args.text.now _ c.bytes.result.now _ _ c.in-Some.ensures c.bytes.ensures c.requires.may

pub returns-in-Some : goal.returns-in-Some
returns-in-Some g c =
    first_done c.args.self.now.plant.now c.args.text.now _ c.bytes.result.now _ _ c.args.self.now c.turn.new.self _ c.in-Some.ensures c.bytes.ensures
    (does_unsent g.P.DisplayPort.was_sent g.P.DisplayPort.faults c.args.port.now c.args.self.now.plant.now (Read _ c.bytes.result.now) c.args.self.now c.turn.new.self
    (λ text. Puts g.K.Drain.written g.K.Drain.faults text c.args.out.now c.turn.new.out) (λ stand. refl) c.turn.ensures)

pub work_line-requires-clause-may : goal.work_line-requires-clause-may
work_line-requires-clause-may g c =
    let may = may_less (length c.split_line.result.0.now) (length c.args.text.now) c.args.self.now.plant.now c.args.self.now (omega (arith, c.split_line.ensures.within)) c.requires.may in search rules

pub work_line-requires-clause-spelled : goal.work_line-requires-clause-spelled
work_line-requires-clause-spelled g c =
    let spelled = first_spelled c.args.self.now.plant.now c.args.text.now c.split_line.result.0.now c.split_line.result.1.now c.split_line.ensures.lines c.requires.spelled in search rules
