use Rattle.std.proofs.lemmas.List.{get_or_read}
use Rattle.std.specs.FinSet.{empty}
use Rattle.std.proofs.Common.{◌/◌, ◌==◌, ◌&&◌, not, length, ap, ◌∙◌, arith}
use Rattle.due_displays.specs.Row.{Row, has_at}
use Rattle.due_displays.proofs.RowLemmas.{removed}
use Rattle.due_displays.proofs.row.Row.remove.Goals as goal

pub returns-clause-each : goal.returns-clause-each
returns-clause-each c other =
    removed c.self.inside.sets.items c.args.position c.index_mut-set.result.now c.remove.new.self (omega (arith, c.requires, ap length c.self.view_is)) (get_or_read c.self.inside.sets.items (c.args.position / 1024) c.index_mut-set.result.now (omega (arith, c.requires, ap length c.self.view_is)) c.index_mut-set.ensures.value empty) c.remove.ensures other
    ∙ ap (λ (row : Row). not (other == c.args.position) && has_at row other) c.self.view_is
