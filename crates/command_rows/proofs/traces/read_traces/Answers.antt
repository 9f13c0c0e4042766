use Rattle.std.proofs.Common.{◌+◌, ◌-◌, List, ℕ, sym, ◌∙◌, ap, subst, drop, arith}
use Rattle.std.proofs.lemmas.List.{drop_all}
use Rattle.command_words.specs.Words.{texts}
use Rattle.command_rows.specs.Kinds.{trace}
use Rattle.command_rows.proofs.TracesLemmas.{HasRead, texts-from, read_none, read_next, read_all}
use Rattle.command_rows.proofs.traces.read_traces.Goals as goal

pub loop-name-init : goal.loop-name-init
loop-name-init g c =
    let names = texts c.args.names.now in
    let files = g.F.Files.shows c.args.files.now in
    subst (λ (text : List ℕ). HasRead trace.word trace.longest names files names files trace.longest text) (sym c.new-text.ensures.items) (read_none trace.word trace.longest names files)

pub loop-name-preserved : goal.loop-name-preserved
loop-name-preserved g c =
    let words = c.args.names.now in
    let i = c.loop-name.name-index in
    let rest = texts (drop (i + 1) words) in
    let now = g.F.Files.shows c.loop-name.files in
    let next = g.F.Files.shows c.read_whole_file.new.files in
    let so =
    subst (λ (names : List (List ℕ)). HasRead trace.word trace.longest (texts words) (g.F.Files.shows c.args.files.now) names now c.loop-name.left c.loop-name.text.items)
    (texts-from words i c.name-item.result c.as_str.result.now c.loop-name-test.true c.name-item.is c.as_str.ensures.value) c.loop-name.invariant in
    read_next c.as_str.result.now rest now next c.loop-name.left c.loop-name.text.items so c.in-Ok.more.items c.join_lines.new.text.items (c.loop-name.left - c.len-left.result) c.in-Ok.ensures
    (ap (λ (n : ℕ). c.loop-name.left - n) (c.len-left.ensures ∙ omega (arith, c.in-Ok.more.ok.0))) c.in-Ok-join_lines.ensures.lines

pub returns : goal.returns
returns g c =
    let words = c.args.names.now in
    let now = g.F.Files.shows c.loop-name.files in
    read_all now c.loop-name.left c.loop-name.text.items
    (subst (λ (names : List (List ℕ)). HasRead trace.word trace.longest (texts words) (g.F.Files.shows c.args.files.now) names now c.loop-name.left c.loop-name.text.items)
    (ap texts (drop_all c.loop-name.name-index words c.loop-name-test.false)) c.loop-name.invariant)
