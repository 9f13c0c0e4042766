use Rattle.command_words.specs.Words.{texts}
use Rattle.command_rows.specs.Moment.{moment_of, output_of}
use Rattle.command_rows.specs.StopInside.{number_of, stopped_of}
use Rattle.command_serve.specs.ServeInside.{word_of}
use Rattle.command_serve.proofs.ServeLemmas.{stops_so, ends_so}
use Rattle.command_serve.proofs.row.serve.Goals as goal

pub returns-in-Ok : goal.returns-in-Ok
returns-in-Ok g c =
    let before = output_of g.K.Sink.written g.K.Sink.faults c.args.out.now in
    let now = moment_of g.F.Files.shows g.K.Sink.written g.K.Sink.faults c.work.new.files c.work.new.out in
    ends_so g.N.P.DisplayPort.was_sent g.N.P.DisplayPort.faults (texts c.args.words.now) c.in-Ok.plant (word_of c.in-Ok.prefix) (g.F.Files.shows c.args.files.now) (g.F.Files.shows c.open.new.files) _ _ before now
    (number_of c.work.result) c.in-Ok.ensures c.work.ensures

pub returns-in-Err : goal.returns-in-Err
returns-in-Err g c =
    let before = output_of g.K.Sink.written g.K.Sink.faults c.args.out.now in
    let now = output_of g.K.Sink.written g.K.Sink.faults c.report.new.out in
    stops_so g.N.P.DisplayPort.was_sent g.N.P.DisplayPort.faults (texts c.args.words.now) (g.F.Files.shows c.args.files.now) (g.F.Files.shows c.open.new.files) _ before now (number_of c.report.result)
    (stopped_of c.in-Err.stop) c.in-Err.ensures c.report.ensures
