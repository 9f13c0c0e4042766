use Rattle.std.proofs.Common.{rules, arith}
use Rattle.record_replay.proofs.ReplayScriptLemmas.{may_begin, streamed, stopped, cut_short}
use Rattle.record_replay.proofs.streamed.work_lines.Goals as goal

pub work-sent-requires-clause-may : goal.work-sent-requires-clause-may
work-sent-requires-clause-may g c =
    let may = may_begin c.args.replayer.now.plant.now c.args.replayer.now c.args.script.now c.requires.begun (omega arith) in search rules

pub returns-then-not-finish-clause-output_fault : goal.returns-then-not-finish-clause-output_fault
returns-then-not-finish-clause-output_fault g c = λ is.
    let done = (cut_short g.K.Sink.written g.K.Sink.faults g.P.DisplayPort.was_sent g.P.DisplayPort.faults c.args.replayer.now.plant.now c.args.script.now c.args.replayer.now c.args.out.now _ c.new-output.result c.work-sent.new.out c.args.port.now c.work-sent.new.port
    c.requires.begun (omega arith) c.requires.form c.new-output.ensures.nothing c.work-sent.result c.work-sent.ensures.does c.work-sent.ensures.stops c.if-not-finish.ensures.cut).0 in search rules

pub returns-then-not-finish-clause-count : goal.returns-then-not-finish-clause-count
returns-then-not-finish-clause-count g c =
    let done = (cut_short g.K.Sink.written g.K.Sink.faults g.P.DisplayPort.was_sent g.P.DisplayPort.faults c.args.replayer.now.plant.now c.args.script.now c.args.replayer.now c.args.out.now _ c.new-output.result c.work-sent.new.out c.args.port.now c.work-sent.new.port
    c.requires.begun (omega arith) c.requires.form c.new-output.ensures.nothing c.work-sent.result c.work-sent.ensures.does c.work-sent.ensures.stops c.if-not-finish.ensures.cut).1 in search rules

pub returns-then-not-finish-clause-port_count : goal.returns-then-not-finish-clause-port_count
returns-then-not-finish-clause-port_count g c =
    let done = (cut_short g.K.Sink.written g.K.Sink.faults g.P.DisplayPort.was_sent g.P.DisplayPort.faults c.args.replayer.now.plant.now c.args.script.now c.args.replayer.now c.args.out.now _ c.new-output.result c.work-sent.new.out c.args.port.now c.work-sent.new.port
    c.requires.begun (omega arith) c.requires.form c.new-output.ensures.nothing c.work-sent.result c.work-sent.ensures.does c.work-sent.ensures.stops c.if-not-finish.ensures.cut).2 in search rules

pub returns-then-sent-clause-ok : goal.returns-then-sent-clause-ok
returns-then-sent-clause-ok g c =
    let done = (streamed g.K.Sink.written g.K.Sink.faults g.P.DisplayPort.was_sent g.P.DisplayPort.faults c.args.replayer.now.plant.now c.args.script.now c.args.replayer.now c.args.out.now _ c.new-output.result c.work-sent.new.out c.args.port.now c.work-sent.new.port
    c.requires.begun (omega arith) c.requires.form c.new-output.ensures.nothing c.if-sent.ensures.does c.if-not-finish.ensures.failed c.if-not-finish.ensures.whole).0 in search rules

pub returns-then-sent-clause-count : goal.returns-then-sent-clause-count
returns-then-sent-clause-count g c =
    let done = (streamed g.K.Sink.written g.K.Sink.faults g.P.DisplayPort.was_sent g.P.DisplayPort.faults c.args.replayer.now.plant.now c.args.script.now c.args.replayer.now c.args.out.now _ c.new-output.result c.work-sent.new.out c.args.port.now c.work-sent.new.port
    c.requires.begun (omega arith) c.requires.form c.new-output.ensures.nothing c.if-sent.ensures.does c.if-not-finish.ensures.failed c.if-not-finish.ensures.whole).1 in search rules

pub returns-then-sent-clause-port_count : goal.returns-then-sent-clause-port_count
returns-then-sent-clause-port_count g c =
    let done = (streamed g.K.Sink.written g.K.Sink.faults g.P.DisplayPort.was_sent g.P.DisplayPort.faults c.args.replayer.now.plant.now c.args.script.now c.args.replayer.now c.args.out.now _ c.new-output.result c.work-sent.new.out c.args.port.now c.work-sent.new.port
    c.requires.begun (omega arith) c.requires.form c.new-output.ensures.nothing c.if-sent.ensures.does c.if-not-finish.ensures.failed c.if-not-finish.ensures.whole).2 in search rules

pub returns-else-sent-clause-port_fault : goal.returns-else-sent-clause-port_fault
returns-else-sent-clause-port_fault g c = λ is.
    let done = (stopped g.K.Sink.written g.K.Sink.faults g.P.DisplayPort.was_sent g.P.DisplayPort.faults c.args.replayer.now.plant.now c.args.script.now c.args.replayer.now c.args.out.now _ c.new-output.result c.work-sent.new.out c.args.port.now c.work-sent.new.port
    c.requires.begun (omega arith) c.requires.form c.new-output.ensures.nothing c.if-sent.ensures.stops c.if-not-finish.ensures.whole).0 in search rules

pub returns-else-sent-clause-count : goal.returns-else-sent-clause-count
returns-else-sent-clause-count g c =
    let done = (stopped g.K.Sink.written g.K.Sink.faults g.P.DisplayPort.was_sent g.P.DisplayPort.faults c.args.replayer.now.plant.now c.args.script.now c.args.replayer.now c.args.out.now _ c.new-output.result c.work-sent.new.out c.args.port.now c.work-sent.new.port
    c.requires.begun (omega arith) c.requires.form c.new-output.ensures.nothing c.if-sent.ensures.stops c.if-not-finish.ensures.whole).1 in search rules

pub returns-else-sent-clause-port_count : goal.returns-else-sent-clause-port_count
returns-else-sent-clause-port_count g c =
    let done = (stopped g.K.Sink.written g.K.Sink.faults g.P.DisplayPort.was_sent g.P.DisplayPort.faults c.args.replayer.now.plant.now c.args.script.now c.args.replayer.now c.args.out.now _ c.new-output.result c.work-sent.new.out c.args.port.now c.work-sent.new.port
    c.requires.begun (omega arith) c.requires.form c.new-output.ensures.nothing c.if-sent.ensures.stops c.if-not-finish.ensures.whole).2 in search rules
