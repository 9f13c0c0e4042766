use Rattle.command_rows.specs.Moment.{output_of}
use Rattle.command_rows.specs.StopInside.{number_of}
use Rattle.command_replay.proofs.ReplayLemmas.{replayed, refused, replayed_front}
use Rattle.command_replay.proofs.row.work.Goals as goal

pub returns-in-Ok-replay_script : goal.returns-in-Ok-replay_script
returns-in-Ok-replay_script g c = replayed c.args.plant.now c.args.script.now _ _ c.in-Ok-replay_script.ensures.ok c.in-Ok-replay_script.ensures.count

pub returns-in-Err-BadLine : goal.returns-in-Err-BadLine
returns-in-Err-BadLine g c =
    let before = output_of g.K.Sink.written g.K.Sink.faults c.args.out.now in
    let mid = output_of g.K.Sink.written g.K.Sink.faults c.replay_script.new.out in
    let now = output_of g.K.Sink.written g.K.Sink.faults c.refuse_line.new.out in
    let replay = c.replay_script.ensures in
    refused c.args.plant.now c.args.script.now c.replay_script.result before mid now (number_of c.refuse_line.result) replay.count c.in-Err-BadLine.number (cc) replay.bad_line replay.same
    c.refuse_line.ensures

pub returns : goal.returns
returns g c =
    let before = output_of g.K.Sink.written g.K.Sink.faults c.args.out.now in
    let mid = output_of g.K.Sink.written g.K.Sink.faults c.replay_script.new.out in
    let replay = c.replay_script.ensures in
    replayed_front c.args.plant.now c.args.script.now c.replay_script.result before mid replay.count (cc) replay.output_fault
