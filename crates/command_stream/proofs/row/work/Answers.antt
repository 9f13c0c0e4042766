use Rattle.command_rows.specs.MadeFile.{sink_end}
use Rattle.command_rows.specs.Moment.{output_of}
use Rattle.command_rows.specs.StopInside.{number_of}
use Rattle.command_stream.proofs.StreamLemmas.{unready, unmade, ended_so}
use Rattle.command_stream.proofs.row.work.Goals as goal

pub returns-in_default : goal.returns-in_default
returns-in_default g c =
    let before = output_of g.K.Sink.written g.K.Sink.faults c.args.out.now in
    unready c.args.plant.now c.args.script.now c.args.made.now (g.F.Files.shows c.args.files.now) before _ _ c.report.ensures

pub returns-in-Failed : goal.returns-in-Failed
returns-in-Failed g c =
    let failed = c.in-Failed.ensures in
    let before = output_of g.K.Sink.written g.K.Sink.faults c.args.out.now in
    unmade c.args.plant.now c.args.script.now c.args.made.now (g.F.Files.shows c.args.files.now) _ before _ _ (record { others = failed.others; custody = failed.lent; faults = failed.count }) c.report-in-Failed.ensures

pub returns : goal.returns
returns g c =
    let here = c.in-Here.ensures in
    let back = c.close_sink.ensures in
    let streamed = c.stream_to-ended.ensures in
    let before = output_of g.K.Sink.written g.K.Sink.faults c.args.out.now in
    let mid = output_of g.K.Sink.written g.K.Sink.faults c.stream_to-ended.new.out in
    let now = output_of g.K.Sink.written g.K.Sink.faults c.tell.new.out in
    ended_so c.args.plant.now c.args.script.now c.args.made.now (g.F.Files.shows c.args.files.now) (g.F.Files.shows c.sink.new.self) (g.F.Files.shows c.close_sink.new.self)
    (sink_end g.F.K.Sink.name g.F.K.Sink.written g.F.K.Sink.faults c.stream_to-ended.result.1) before mid
    (record { others = here.others; custody = here.lent; faults = here.count }) (streamed.named c.args.made.now here.named)
    (record { others = back.others; custody = back.returned; faults = back.count }) c.stream_to-ended.result.0 now (number_of c.tell.result) streamed.streams streamed.count c.tell.ensures
