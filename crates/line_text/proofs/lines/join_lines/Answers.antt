use Rattle.std.proofs.Common.{◌≡◌, ◌++◌, List, ℕ, OnOk, Result, if◌then◌else◌, is_ok, Ok, Err, subst}
use Rattle.line_text.specs.Lines.{lines}
use Rattle.line_text.specs.LinesInside.{EndsLine}
use Rattle.line_text.proofs.JoinLemmas.{ended-joined}
use Rattle.line_text.proofs.lines.join_lines.Goals as goal

on_ok : {T E : Type 0} (answer : Result T E) (old mid more new : List ℕ) → EndsLine old mid
    → new ≡ (if is_ok answer then mid ++ more else mid) → OnOk answer (lines new ≡ lines old ++ lines more)
on_ok (Ok value) old mid more new ended is = ended-joined old mid new more ended is
on_ok (Err fault) old mid more new ended is = tt

pub returns-clause-lines : goal.returns-clause-lines
returns-clause-lines c =
    let text = c.args.text.now.items in
    let mid = c.end_line.new.text.items in
    let new = c.extend_from_slice.new.self.items in
    let answer = c.extend_from_slice.result in
    let ended = subst (λ (old : List ℕ). EndsLine old mid) c.in_ok-reserve_exact.ensures.items c.end_line.ensures.ends in
    let joined = subst (λ (more : List ℕ). new ≡ (if is_ok answer then mid ++ more else mid)) c.as_slice.ensures.value c.extend_from_slice.ensures.items in
    on_ok answer text mid c.args.more.items new ended joined
