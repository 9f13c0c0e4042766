use Rattle.command_words.specs.Words.{texts}
use Rattle.command_rows.specs.Moment.{output_of}
use Rattle.command_rows.specs.StopInside.{number_of}
use Rattle.command_drive.proofs.RowLemmas.{runs}
use Rattle.command_drive.proofs.row.drive.Goals as goal

pub returns : goal.returns
returns g c = λ files.
    runs (texts c.args.words.now) c.asked_by-asked.result files (output_of g.K.Sink.written g.K.Sink.faults c.args.out.now) (output_of g.K.Sink.written g.K.Sink.faults c.work.new.out) (number_of c.work.result)
    c.asked_by-asked.ensures.drive c.work.ensures
