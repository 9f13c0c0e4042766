use Rattle.panel_session.proofs.TraceEnds.{lines_end_once}
use Rattle.panel_session.proofs.traces.trace_laws.lines_end_once.Goals as goal

pub returns : goal.returns
returns c = lines_end_once
