use Rattle.record_replay.proofs.TakeLemmas.{no_parts-panel, no_parts-matrix, no_parts-level, no_parts-dest}
use Rattle.record_replay.proofs.take.split_take.Goals as goal

pub returns-in_err-panel : goal.returns-in_err-panel
returns-in_err-panel c = rw c.from_residual.ensures (no_parts-panel c.args.behind.now c.in_err-panel.ensures)

pub returns-in_err-matrix : goal.returns-in_err-matrix
returns-in_err-matrix c = rw c.from_residual-in_err-matrix.ensures (no_parts-matrix c.args.behind.now c.in_ok-panel.panel.now c.in_ok-panel.more.now c.in_ok-panel.ensures c.in_err-matrix.ensures)

pub returns-in_err-level : goal.returns-in_err-level
returns-in_err-level c =
    rw c.from_residual-in_err-level.ensures
    (no_parts-level c.args.behind.now c.in_ok-panel.panel.now c.in_ok-panel.more.now c.in_ok-panel.ensures c.in_ok-matrix.matrix.now c.in_ok-matrix.rest.now c.in_ok-matrix.ensures c.in_err-level.ensures)

pub returns-in_err-dest : goal.returns-in_err-dest
returns-in_err-dest c =
    rw c.from_residual-in_err-dest.ensures
    (no_parts-dest c.args.behind.now c.in_ok-panel.panel.now c.in_ok-panel.more.now c.in_ok-panel.ensures c.in_ok-matrix.matrix.now c.in_ok-matrix.rest.now c.in_ok-matrix.ensures
    c.in_ok-level.level.now c.in_ok-level.names.now c.in_ok-level.ensures c.in_err-dest.ensures)
