-- How an audit with a verdict ends: its exit status and its line.
use Rattle.std.specs.Prelude.{ℕ, List, ◌++◌, codes}
use Rattle.std.specs.Fmt.{decimal}
use Rattle.trace_audit.specs.declared.verdict.Verdict.{Verdict}
use Rattle.trace_audit.specs.declared.verdict.Verdict.TheVariants.{Confirmed, BadLine, Gap, Repeat, Differs}
use Rattle.command_rows.specs.Lines.{line}
use Rattle.command_rows.specs.End.{End, ended}

abbrev pub confirmed : ℕ → List ℕ
confirmed count = line (codes "confirmed " ++ decimal count)

abbrev pub trace_line_refused : ℕ → List ℕ
trace_line_refused number = line (codes "trace line " ++ decimal number ++ codes " refused")

abbrev pub gap_at : ℕ → List ℕ
gap_at position = line (codes "gap at " ++ decimal position)

abbrev pub repeat_at : ℕ → List ℕ
repeat_at position = line (codes "repeat at " ++ decimal position)

-- the line of a reply that differs, with the text of the one that was kept and of the one that is wanted
abbrev pub differs_at : ℕ → List ℕ → List ℕ → List ℕ
differs_at position kept wanted =
    line (codes "differs at " ++ decimal position ++ codes ": kept " ++ kept ++ codes " wanted "
    ++ wanted)

-- the exit status of an audit with this verdict: the traces are confirmed, a line of theirs is refused, or something was found
abbrev pub verdict_status : Verdict → ℕ
verdict_status (Confirmed count) = 0
verdict_status (BadLine number) = 5
verdict_status (Gap position) = 6
verdict_status (Repeat position) = 6
verdict_status (Differs position kept wanted) = 6

-- the line of a verdict
abbrev pub verdict_line : Verdict → List ℕ
verdict_line (Confirmed count) = confirmed count
verdict_line (BadLine number) = trace_line_refused number
verdict_line (Gap position) = gap_at position
verdict_line (Repeat position) = repeat_at position
verdict_line (Differs position kept wanted) = differs_at position kept wanted

-- the end of an audit with this verdict
abbrev pub audited : Verdict → End
audited verdict = ended (verdict_status verdict) (verdict_line verdict)
