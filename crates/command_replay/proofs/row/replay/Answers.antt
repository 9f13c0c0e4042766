use Rattle.std.proofs.Common.{List, ℕ, subst}
use Rattle.command_words.specs.Words.{texts}
use Rattle.command_words.specs.Parts.{NoMore}
use Rattle.command_rows.specs.Moment.{output_of}
use Rattle.command_rows.specs.Row.{EndsAlone}
use Rattle.command_rows.specs.StopInside.{number_of}
use Rattle.command_rows.proofs.RowLemmas.{runs_alone}
use Rattle.command_replay.specs.Replay.{ReplayEnds, parts}
use Rattle.command_replay.proofs.row.replay.Goals as goal

pub returns-in-Ok : goal.returns-in-Ok
returns-in-Ok g c =
    let before = output_of g.K.Sink.written g.K.Sink.faults c.args.out.now in
    let now = output_of g.K.Sink.written g.K.Sink.faults c.work.new.out in
    runs_alone parts NoMore (λ given. ReplayEnds given.0 given.1.0) (texts c.args.words.now) (c.in-Ok.plant, (c.in-Ok.script.items, tt)) _ _ before now (number_of c.work.result) c.in-Ok.ensures
    (subst (λ (script : List ℕ). EndsAlone (ReplayEnds c.in-Ok.plant script) before now (number_of c.work.result)) c.deref.ensures.value c.work.ensures)
