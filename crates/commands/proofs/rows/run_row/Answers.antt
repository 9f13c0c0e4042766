use Rattle.command_words.specs.Words.{texts}
use Rattle.command_rows.specs.StopInside.{number_of}
use Rattle.commands.specs.declared.rows.Verb.TheVariants as verbs
use Rattle.commands.proofs.DispatchLemmas.{at_verb}
use Rattle.commands.proofs.rows.run_row.Goals as goal

pub returns-in-Check : goal.returns-in-Check
returns-in-Check g c = at_verb c.args.verb verbs.Check (texts c.args.behind.now) _ _ (number_of c.check.result) c.in-Check.is c.check.ensures

pub returns-in-Replay : goal.returns-in-Replay
returns-in-Replay g c = at_verb c.args.verb verbs.Replay (texts c.args.behind.now) _ _ (number_of c.replay.result) c.in-Replay.is c.replay.ensures

pub returns-in-Audit : goal.returns-in-Audit
returns-in-Audit g c = at_verb c.args.verb verbs.Audit (texts c.args.behind.now) _ _ (number_of c.audit.result) c.in-Audit.is c.audit.ensures

pub returns-in-Stream : goal.returns-in-Stream
returns-in-Stream g c = at_verb c.args.verb verbs.Stream (texts c.args.behind.now) _ _ (number_of c.stream.result) c.in-Stream.is c.stream.ensures

pub returns-in-Monitor : goal.returns-in-Monitor
returns-in-Monitor g c = at_verb c.args.verb verbs.Monitor (texts c.args.behind.now) _ _ (number_of c.monitor.result) c.in-Monitor.is c.monitor.ensures

pub returns-in-Format : goal.returns-in-Format
returns-in-Format g c = at_verb c.args.verb verbs.Format (texts c.args.behind.now) _ _ (number_of c.format.result) c.in-Format.is c.format.ensures

pub returns-in-Keep : goal.returns-in-Keep
returns-in-Keep g c = at_verb c.args.verb verbs.Keep (texts c.args.behind.now) _ _ (number_of c.keep.result) c.in-Keep.is c.keep.ensures

pub returns-in-Standby : goal.returns-in-Standby
returns-in-Standby g c = at_verb c.args.verb verbs.Standby (texts c.args.behind.now) _ _ (number_of c.standby.result) c.in-Standby.is c.standby.ensures

pub returns-in-Drive : goal.returns-in-Drive
returns-in-Drive g c =
    at_verb c.args.verb verbs.Drive (texts c.args.behind.now) _ _ (number_of c.drive.result) c.in-Drive.is (c.drive.ensures (g.F.Files.shows c.args.files.now))
