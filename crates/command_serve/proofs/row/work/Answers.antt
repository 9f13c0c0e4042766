use Rattle.std.proofs.Common.{refl}
use Rattle.command_rows.specs.Moment.{output_of}
use Rattle.command_rows.specs.StopInside.{number_of}
use Rattle.command_serve.specs.ServeInside.{word_of}
use Rattle.command_serve.proofs.ServeLemmas.{unready}
use Rattle.command_serve.proofs.row.work.Goals as goal

pub returns-in_default : goal.returns-in_default
returns-in_default g c =
    unready g.N.P.DisplayPort.was_sent g.N.P.DisplayPort.faults c.args.plant.now (word_of c.args.prefix) (g.F.Files.shows c.args.files.now) _ (g.N.Net.shows c.args.net.now) _
    (output_of g.K.Sink.written g.K.Sink.faults c.args.out.now) _ (number_of c.report.result) refl refl c.report.ensures
