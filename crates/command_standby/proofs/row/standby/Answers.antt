use Rattle.std.proofs.Common.{List, ℕ, subst}
use Rattle.line_text.specs.Lines.{lines}
use Rattle.command_words.specs.Words.{texts}
use Rattle.command_rows.specs.Moment.{output_of}
use Rattle.command_rows.specs.Row.{EndsAlone}
use Rattle.command_rows.specs.StopInside.{number_of}
use Rattle.command_rows.proofs.RowLemmas.{runs_alone}
use Rattle.command_standby.specs.Standby.{StandbyEnds, last, parts}
use Rattle.command_standby.proofs.row.standby.Goals as goal

pub returns-in-Ok : goal.returns-in-Ok
returns-in-Ok g c =
    let before = output_of g.K.Sink.written g.K.Sink.faults c.args.out.now in
    let now = output_of g.K.Sink.written g.K.Sink.faults c.work.new.out in
    runs_alone parts last (λ given. StandbyEnds given.0 given.1) (texts c.args.words.now) (c.in-Ok.plant, lines c.in-Ok.text.items) _ _ before now (number_of c.work.result) c.in-Ok.ensures
    (subst (λ (text : List ℕ). EndsAlone (StandbyEnds c.in-Ok.plant (lines text)) before now (number_of c.work.result)) c.deref.ensures.value c.work.ensures)
