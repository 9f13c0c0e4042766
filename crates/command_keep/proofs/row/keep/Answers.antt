use Rattle.command_words.specs.Words.{texts}
use Rattle.command_words.specs.Parts.{NoMore}
use Rattle.command_rows.specs.Moment.{moment_of, output_of}
use Rattle.command_rows.specs.StopInside.{number_of}
use Rattle.command_rows.proofs.RowLemmas.{runs_opened}
use Rattle.command_keep.specs.Keep.{KeepRow, parts}
use Rattle.command_keep.proofs.row.keep.Goals as goal

pub returns-in-Ok : goal.returns-in-Ok
returns-in-Ok g c =
    let before = output_of g.K.Sink.written g.K.Sink.faults c.args.out.now in
    let now = moment_of g.F.Files.shows g.K.Sink.written g.K.Sink.faults c.work.new.files c.work.new.out in
    runs_opened parts NoMore KeepRow (texts c.args.words.now) (c.in-Ok.plant, (c.in-Ok.store.now, (c.in-Ok.script.now, tt))) _ _ before now (number_of c.work.result) c.in-Ok.ensures c.work.ensures
