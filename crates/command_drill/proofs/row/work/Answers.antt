use Rattle.command_rows.specs.Moment.{output_of}
use Rattle.command_rows.specs.StopInside.{number_of}
use Rattle.command_drill.specs.Drill.{IsHistoryOf}
use Rattle.command_drill.proofs.DrillLemmas.{confirmed_alone, drill_trace, told}
use Rattle.command_drill.proofs.row.work.Goals as goal

pub returns : goal.returns
returns g c =
    let made = c.in-Ok.ensures in
    let drill = c.args.drill.now in
    let plant = c.drills_are_plants.ensures drill.panels c.requires.some c.requires.few in
    let history : IsHistoryOf drill c.in-Ok.drilled.past = record { traceable = made.history; few = made.few; by_panels = made.by_panels; entries = made.entries; told = made.told } in
    told drill c.in-Ok.drilled.trace _ _ _ _ (output_of g.K.Sink.written g.K.Sink.faults c.args.out.now) (output_of g.K.Sink.written g.K.Sink.faults c.tell.new.out) (number_of c.tell.result)
    (drill_trace drill c.in-Ok.drilled.past _ c.histories_are_confirmed.ensures plant history made.trace) made.messages made.acks made.naks made.sessions c.tell.ensures

pub unreachable-requires : goal.unreachable-requires
unreachable-requires g c =
    let made = c.in-Ok.ensures in
    let drill = c.args.drill.now in
    let plant = c.drills_are_plants.ensures drill.panels c.requires.some c.requires.few in
    c.in_default-verdict.not-Confirmed _
    (confirmed_alone drill.panels c.in-Ok.drilled.past c.in-Ok.drilled.plant c.as_slice.result.now c.in-Ok.drilled.trace c.in-Ok-audit.verdict c.histories_are_confirmed.ensures c.traces_have_one_verdict.ensures
    plant made.history made.trace made.plant c.as_slice.ensures c.in-Ok-audit.ensures)
