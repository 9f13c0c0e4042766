use Rattle.std.proofs.Common.{[], None, refl, ap}
use Rattle.command_words.specs.Words.{texts}
use Rattle.command_rows.specs.Moment.{output_of}
use Rattle.command_rows.specs.StopInside.{number_of}
use Rattle.command_serve.proofs.ServeLemmas.{unready, answered, served-untraced}
use Rattle.command_serve.proofs.row.serve_untraced.Goals as goal

pub returns-in_default : goal.returns-in_default
returns-in_default g c = λ files.
    unready g.N.P.DisplayPort.was_sent g.N.P.DisplayPort.faults c.args.plant.now None files files (g.N.Net.shows c.args.net.now) _ (output_of g.K.Sink.written g.K.Sink.faults c.args.out.now) _ (number_of c.report.result)
    refl refl c.report.ensures

pub returns : goal.returns
returns g c = λ files.
    answered g.N.P.DisplayPort.was_sent g.N.P.DisplayPort.faults c.args.plant.now None files files _ _ (output_of g.K.Sink.written g.K.Sink.faults c.args.out.now) _ (number_of c.tell.result) [] c.serve-answer.result.1
    (served-untraced g.N.P.DisplayPort.was_sent g.N.P.DisplayPort.faults (λ sink. None) (λ sink. 0) c.args.plant.now [] c.in-Ok.traces.items c.serve-answer.result.0.items files _ _
    c.serve-answer.result.1 c.panels.ensures.plant (λ sink. record { unwritten = tt; no_faults = refl }) refl c.serve-answer.ensures.served) c.tell.ensures
