use Rattle.std.proofs.Common.{List, ℕ, subst}
use Rattle.command_words.specs.Words.{texts}
use Rattle.command_words.specs.Parts.{NoMore}
use Rattle.command_rows.specs.Moment.{moment_of, output_of}
use Rattle.command_rows.specs.Row.{RowEnds}
use Rattle.command_rows.specs.StopInside.{number_of}
use Rattle.command_rows.proofs.RowLemmas.{runs_opened}
use Rattle.command_stream.specs.Stream.{StreamEnds, StreamRow, parts}
use Rattle.command_stream.proofs.row.stream.Goals as goal

pub returns-in-Ok : goal.returns-in-Ok
returns-in-Ok g c =
    let before = output_of g.K.Sink.written g.K.Sink.faults c.args.out.now in
    let opened = moment_of g.F.Files.shows g.K.Sink.written g.K.Sink.faults c.open.new.files c.args.out.now in
    let now = moment_of g.F.Files.shows g.K.Sink.written g.K.Sink.faults c.work.new.files c.work.new.out in
    runs_opened parts NoMore StreamRow (texts c.args.words.now) (c.in-Ok.plant, (c.in-Ok.script.items, (c.in-Ok.made.now, tt))) _ _ before now (number_of c.work.result) c.in-Ok.ensures
    (subst (λ (script : List ℕ). RowEnds (StreamEnds c.in-Ok.plant script c.in-Ok.made.now) opened now (number_of c.work.result)) c.deref.ensures.value c.work.ensures)
