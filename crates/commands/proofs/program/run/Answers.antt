use Rattle.std.proofs.Common.{inl, inr, false, refl}
use Rattle.command_words.specs.Words.{texts}
use Rattle.command_rows.specs.Moment.{moment_of}
use Rattle.command_rows.specs.StopInside.{number_of}
use Rattle.commands.specs.declared.rows.Verb.TheVariants as verbs
use Rattle.commands.proofs.DispatchLemmas.{by_drill, by_service, say_this}
use Rattle.commands.proofs.program.run.Goals as goal

pub returns-in_default : goal.returns-in_default
returns-in_default g c = inr (record { none = c.in_default.ensures; ends = c.run_quiet.ensures; untouched = refl })

pub drill-requires-after_bounds : goal.drill-requires-after_bounds
drill-requires-after_bounds g c κs within = say_this false (texts c.args.words.now) c.in-Some.asked.verb verbs.Drill (texts c.in-Some.asked.behind.now) c.in-Drill.is c.in-Some.ensures

pub serve-requires-after_bounds : goal.serve-requires-after_bounds
serve-requires-after_bounds g c κs within = say_this false (texts c.args.words.now) c.in-Some.asked.verb verbs.Serve (texts c.in-Some.asked.behind.now) c.in-Serve.is c.in-Some.ensures

pub returns-in-Drill : goal.returns-in-Drill
returns-in-Drill g c =
    let shown = moment_of g.F.Files.shows g.K.Sink.written g.K.Sink.faults in
    rw c.number.ensures
    (inl (by_drill g.N.P.DisplayPort.was_sent g.N.P.DisplayPort.faults (texts c.args.words.now) (texts c.in-Some.asked.behind.now) c.in-Some.asked.verb
    (shown c.args.files.now c.args.out.now) (shown c.args.files.now c.drill.new.out) (g.N.Net.shows c.args.net.now) (number_of c.drill.result) c.in-Some.ensures c.in-Drill.is
    (c.drill.ensures (g.F.Files.shows c.args.files.now))))

pub returns-in-Serve : goal.returns-in-Serve
returns-in-Serve g c =
    let shown = moment_of g.F.Files.shows g.K.Sink.written g.K.Sink.faults in
    rw c.number-in-Serve.ensures
    (inl (by_service g.N.P.DisplayPort.was_sent g.N.P.DisplayPort.faults (texts c.args.words.now) (texts c.in-Some.asked.behind.now) c.in-Some.asked.verb
    (shown c.args.files.now c.args.out.now) (shown c.serve.new.files c.serve.new.out) (g.N.Net.shows c.args.net.now) (g.N.Net.shows c.serve.new.net) (number_of c.serve.result)
    c.in-Some.ensures c.in-Serve.is c.serve.ensures))
