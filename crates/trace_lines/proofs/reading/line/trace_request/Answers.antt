use Rattle.std.proofs.Common.{ap}
use Rattle.std.specs.Prelude.{Some}
use Rattle.trace_lines.specs.Trace.{TracedEntry}
use Rattle.trace_lines.proofs.reading.line.trace_request.Goals as goal

pub returns-in_default-clause-only : goal.returns-in_default-clause-only
returns-in_default-clause-only c = λ position request is.
    absurd (c.in_default.ensures.only (record { position = position; request = request; reply = is.kept }) is.told)

pub returns-clause-only : goal.returns-clause-only
returns-clause-only c = λ position request is.
    let same = c.in-Some.ensures.only (record { position = position; request = request; reply = is.kept }) is.told in
    ap (λ (entry : TracedEntry). Some (entry.position, entry.request)) same
