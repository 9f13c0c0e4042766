use Rattle.std.proofs.Common.{◌≤◌, length, subst, sym, ap, arith}
use Rattle.change_boards.specs.Screens.{displays_at}
use Rattle.due_displays.specs.Row.{row_room}
use Rattle.due_displays.specs.TablesInside.{AreRowsOf}
use Rattle.due_displays.proofs.TableLemmas.{rows_none, rows_more}
use Rattle.due_displays.proofs.tables.rows_of.Goals as goal

pub loop-screen-init : goal.loop-screen-init
loop-screen-init c = subst (AreRowsOf c.args.screens.now 0) (sym c.in_ok-rows.ensures.items) (rows_none c.args.screens.now)

pub loop-screen-preserved : goal.loop-screen-preserved
loop-screen-preserved c =
    let room : length (displays_at c.args.screens.now c.loop-screen.screen) ≤ row_room c.in_ok-new.field-0 = omega (arith, c.in_ok-new.ensures.room, ap length c.displays-room.ensures) in
    subst (AreRowsOf c.args.screens.now _) (sym c.in_ok-push.ensures.items)
    (rows_more c.args.screens.now c.loop-screen.screen c.loop-screen.rows.items c.in_ok-new.field-0 room c.in_ok-new.ensures.none c.loop-screen.invariant)
