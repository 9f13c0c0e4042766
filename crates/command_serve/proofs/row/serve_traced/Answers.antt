use Rattle.std.proofs.Common.{◌≡◌, ◌<◌, Some, ℕ, length, List, get_or, refl, ◌∙◌, ap, subst, arith}
use Rattle.std.specs.Global.{Global}
use Rattle.std.specs.declared.string.String.{String}
use Rattle.std.specs.String.{string_bytes}
use Rattle.std.proofs.lemmas.List.{length-map}
use Rattle.plant_config.specs.declared.records.Panel.{Panel}
use Rattle.command_words.specs.Words.{texts}
use Rattle.command_words.proofs.NamesLemmas.{text-at}
use Rattle.command_rows.specs.End.{ComesTo}
use Rattle.command_rows.specs.MadeFile.{sink_end}
use Rattle.command_rows.specs.Moment.{Snapshot, output_of}
use Rattle.command_rows.specs.StopInside.{number_of}
use Rattle.command_serve.specs.declared.trace_files.Unmade.{Unmade}
use Rattle.command_serve.specs.declared.trace_files.Unmade.TheVariants.{Refused}
use Rattle.command_serve.specs.Serve.{answered_end, serve_end}
use Rattle.command_serve.specs.Traces.{FailsAt, FailsToMakeAll, trace_names}
use Rattle.command_serve.proofs.ServeLemmas.{names-length, unready, at-trace, answered, served-traced}
use Rattle.command_serve.proofs.TraceSinkLemmas.{as_made-length, fails_at-within}
use Rattle.command_serve.proofs.row.serve_traced.Goals as goal

pub returns-in_default : goal.returns-in_default
returns-in_default g c =
    let files = g.F.Files.shows c.args.files.now in
    let net = g.N.Net.shows c.args.net.now in
    let before = output_of g.K.Sink.written g.K.Sink.faults c.args.out.now in
    let after = output_of g.K.Sink.written g.K.Sink.faults c.report.new.out in
    unready g.N.P.DisplayPort.was_sent g.N.P.DisplayPort.faults c.args.plant.now (Some c.args.prefix.now) files files net net before after (number_of c.report.result) refl refl c.report.ensures

pub returns-in-Err-NoMemory : goal.returns-in-Err-NoMemory
returns-in-Err-NoMemory g c =
    let files = g.F.Files.shows c.args.files.now in
    let now = g.F.Files.shows c.make_traces.new.files in
    let net = g.N.Net.shows c.args.net.now in
    let before = output_of g.K.Sink.written g.K.Sink.faults c.args.out.now in
    let after = output_of g.K.Sink.written g.K.Sink.faults c.report-in-Err-NoMemory.new.out in
    unready g.N.P.DisplayPort.was_sent g.N.P.DisplayPort.faults c.args.plant.now (Some c.args.prefix.now) files now net net before after (number_of c.report-in-Err-NoMemory.result)
    (subst (λ (u : Unmade). FailsToMakeAll (texts c.deref.result.now) u files now) c.in-Err-NoMemory.field-0-is c.in-Err-NoMemory.ensures.unmade) refl c.report-in-Err-NoMemory.ensures

-- the place of a name of which no file was made
fails_there : (words items : List (String Global)) (place : ℕ) (unmade : Unmade) (files now : Snapshot) → words ≡ items → unmade ≡ Refused place → FailsToMakeAll (texts words) unmade files now
    → FailsAt (texts items) place files now
fails_there words items place unmade files now are is fails =
    subst (λ (ws : List (String Global)). FailsAt (texts ws) place files now) are (subst (λ (u : Unmade). FailsToMakeAll (texts words) u files now) is fails)

within : (items : List (String Global)) (place : ℕ) (files now : Snapshot) → FailsAt (texts items) place files now → place < length items
within items place files now fails = omega (arith, fails_at-within (texts items) place files now fails, length-map items string_bytes)

-- the name at a place that has two spellings
read_at : (items : List (String Global)) (place value : ℕ) (name : String Global) → value ≡ place → name ≡ get_or items value name → name ≡ get_or items place name
read_at items place value name is read = read ∙ ap (λ (p : ℕ). get_or items p name) is

pub index-requires : goal.index-requires
index-requires g c =
    let items = c.in-Ok.trace_names.items in
    let files = g.F.Files.shows c.args.files.now in
    let now = g.F.Files.shows c.make_traces.new.files in
    let fails = fails_there c.deref.result.now items c.in-Err-Refused.place _ files now c.deref.ensures.value c.in-Err-Refused.field-0-is c.in-Err-Refused.ensures.unmade in
    omega (arith, within items c.in-Err-Refused.place files now fails)

pub returns-in-Err-Refused : goal.returns-in-Err-Refused
returns-in-Err-Refused g c =
    let prefix = c.args.prefix.now in
    let items = c.in-Ok.trace_names.items in
    let place = c.in-Err-Refused.place in
    let files = g.F.Files.shows c.args.files.now in
    let now = g.F.Files.shows c.make_traces.new.files in
    let net = g.N.Net.shows c.args.net.now in
    let before = output_of g.K.Sink.written g.K.Sink.faults c.args.out.now in
    let after = output_of g.K.Sink.written g.K.Sink.faults c.report-in-Err-Refused.new.out in
    let fails = fails_there c.deref.result.now items place _ files now c.deref.ensures.value c.in-Err-Refused.field-0-is c.in-Err-Refused.ensures.unmade in
    let at = text-at items place c.index.result.now c.as_str.result.now (within items place files now fails) (read_at items place _ c.index.result.now c.in-Err-Refused.place-is c.index.ensures) c.as_str.ensures.value in
    at-trace g.N.P.DisplayPort.was_sent g.N.P.DisplayPort.faults c.args.plant.now prefix (texts items) place c.as_str.result.now files now net before after (number_of c.report-in-Err-Refused.result)
    (c.in-Ok.ensures ∙ ap (λ (ps : List Panel). trace_names prefix (length ps)) c.panels.ensures.panels) fails at c.report-in-Err-Refused.ensures

pub serve-traces-requires-clause-traces : goal.serve-traces-requires-clause-traces
serve-traces-requires-clause-traces g c κs within =
    let shows = sink_end g.F.K.Sink.name g.F.K.Sink.written g.F.K.Sink.faults in
    let are = ap texts c.deref.ensures.value ∙ c.in-Ok.ensures ∙ ap (λ (ps : List Panel). trace_names c.args.prefix.now (length ps)) c.panels.ensures.panels in
    omega (
      arith,
      as_made-length (texts c.deref.result.now) _ c.in-Ok-make_traces.ensures.as_made,
      length-map c.in-Ok-make_traces.traces.items shows,
      ap length are,
      names-length c.args.prefix.now (length c.args.plant.now.panels),
    )

pub returns : goal.returns
returns g c =
    let prefix = c.args.prefix.now in
    let names = texts c.in-Ok.trace_names.items in
    let files = g.F.Files.shows c.args.files.now in
    let made = g.F.Files.shows c.make_traces.new.files in
    let now = g.F.Files.shows c.close_traces.new.files in
    let net = g.N.Net.shows c.args.net.now in
    let net_then = g.N.Net.shows c.serve-traces.new.net in
    let answer = c.serve-traces.result.1 in
    let before = output_of g.K.Sink.written g.K.Sink.faults c.args.out.now in
    let after = output_of g.K.Sink.written g.K.Sink.faults c.tell.new.out in
    answered g.N.P.DisplayPort.was_sent g.N.P.DisplayPort.faults c.args.plant.now (Some prefix) files now net net_then before after (number_of c.tell.result) names answer
    (served-traced g.N.P.DisplayPort.was_sent g.N.P.DisplayPort.faults g.F.K.Sink.name g.F.K.Sink.written g.F.K.Sink.faults c.args.plant.now prefix names
    c.in-Ok-make_traces.traces.items c.serve-traces.result.0.items files made now net net_then answer
    c.panels.ensures.plant (c.in-Ok.ensures ∙ ap (λ (ps : List Panel). trace_names prefix (length ps)) c.panels.ensures.panels) (rw (← c.deref.ensures.value) c.in-Ok-make_traces.ensures.made)
    (rw (← c.deref.ensures.value) c.in-Ok-make_traces.ensures.as_made) c.serve-traces.ensures.served c.serve-traces.ensures.names c.close_traces.ensures)
    (subst (λ (ns : List (String Global)). ComesTo (serve_end (answered_end (texts ns) answer)) (number_of c.tell.result) before after) c.deref-2.ensures.value c.tell.ensures)
