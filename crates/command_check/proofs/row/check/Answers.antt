use Rattle.command_words.specs.Words.{texts}
use Rattle.command_words.specs.Parts.{NoMore}
use Rattle.command_rows.specs.Moment.{output_of}
use Rattle.command_rows.specs.StopInside.{number_of}
use Rattle.command_rows.proofs.RowLemmas.{runs_alone}
use Rattle.command_check.specs.Check.{CheckEnds, parts}
use Rattle.command_check.proofs.row.check.Goals as goal

pub returns-in-Ok : goal.returns-in-Ok
returns-in-Ok g c =
    let before = output_of g.K.Sink.written g.K.Sink.faults c.args.out.now in
    let now = output_of g.K.Sink.written g.K.Sink.faults c.say.new.out in
    runs_alone parts NoMore (λ given. CheckEnds given.0) (texts c.args.words.now) (c.in-Ok.plant, tt) _ _ before now (number_of c.say.result) c.in-Ok.ensures c.say.ensures
