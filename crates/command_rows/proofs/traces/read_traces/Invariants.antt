use Rattle.std.proofs.Common.{drop}
use Rattle.command_words.specs.Words.{texts}
use Rattle.command_rows.specs.Kinds.{trace}
use Rattle.command_rows.proofs.TracesLemmas.{HasRead}
use Rattle.command_rows.proofs.traces.read_traces.Given as goal

abbrev pub invariant-loop-name : goal.invariant-loop-name
invariant-loop-name g l =
    HasRead trace.word trace.longest (texts l.names) (g.F.Files.shows l.fn.files) (texts (drop l.name-index l.names))
    (g.F.Files.shows l.files) l.left l.text.items
