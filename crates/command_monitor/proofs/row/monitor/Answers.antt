use Rattle.std.proofs.Common.{List, ℕ, subst}
use Rattle.command_words.specs.Words.{texts}
use Rattle.command_words.specs.Parts.{NoMore}
use Rattle.command_rows.specs.Moment.{output_of}
use Rattle.command_rows.specs.Row.{EndsAlone}
use Rattle.command_rows.specs.StopInside.{number_of}
use Rattle.command_rows.proofs.RowLemmas.{runs_alone}
use Rattle.command_monitor.specs.Monitor.{MonitorEnds, parts}
use Rattle.command_monitor.proofs.row.monitor.Goals as goal

pub returns-in-Ok : goal.returns-in-Ok
returns-in-Ok g c =
    let before = output_of g.K.Sink.written g.K.Sink.faults c.args.out.now in
    let now = output_of g.K.Sink.written g.K.Sink.faults c.tell.new.out in
    runs_alone parts NoMore (λ given. MonitorEnds given.0) (texts c.args.words.now) (c.in-Ok.stream.items, tt) _ _ before now (number_of c.tell.result) c.in-Ok.ensures
    (subst (λ (stream : List ℕ). EndsAlone (MonitorEnds stream) before now (number_of c.tell.result)) c.deref.ensures.value c.tell.ensures)
