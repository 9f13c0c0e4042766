use Rattle.record_replay.proofs.TakeLemmas.{no_take-parts, no_take-panel, no_take-asks}
use Rattle.record_replay.proofs.take.read_take.Goals as goal

pub returns-in_err-parts : goal.returns-in_err-parts
returns-in_err-parts c = rw c.from_residual.ensures (no_take-parts c.args.plant.now c.args.behind.now c.in_err-parts.ensures)

pub returns-in_err-panel : goal.returns-in_err-panel
returns-in_err-panel c =
    let parts = c.in_ok-parts.parts in
    rw c.from_residual-in_err-panel.ensures
    (no_take-panel c.args.plant.now c.args.behind.now parts.panel.now parts.matrix.now parts.level.now parts.dest.now parts.source.now c.in_ok-parts.ensures c.in_err-panel.ensures.panel)

pub returns-in_err-message : goal.returns-in_err-message
returns-in_err-message c =
    let parts = c.in_ok-parts.parts in
    rw c.from_residual-in_err-message.ensures
    (no_take-asks c.args.plant.now c.args.behind.now parts.panel.now parts.matrix.now parts.level.now parts.dest.now parts.source.now c.in_ok-parts.ensures c.in_err-message.ensures.asks)

pub returns : goal.returns
returns c =
    let parts = c.in_ok-parts.parts in
    record {
      digits = parts.panel.now;
      matrix = parts.matrix.now;
      level = parts.level.now;
      dest = parts.dest.now;
      source = parts.source.now;
      parts = c.in_ok-parts.ensures;
      number = c.in_ok-panel.ensures.panel.0;
      has_panel = c.in_ok-panel.ensures.panel.1;
      message = c.in_ok-message.message;
      asks = c.in_ok-message.ensures.asks;
      piece_is = c.put_frame.ensures;
    }
