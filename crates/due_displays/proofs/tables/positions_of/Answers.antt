use Rattle.std.proofs.Common.{◌≡◌, ◌+◌, ◌<◌, All, length, subst, sym, ap, ◌∙◌, arith}
use Rattle.std.proofs.lemmas.List.{with_items_is}
use Rattle.change_boards.specs.Screens.{displays_of}
use Rattle.change_boards.proofs.ScreenDisplays.{displays_of-HasItsDisplays}
use Rattle.due_displays.specs.TablesInside.{ArePut, ArePositionsOf}
use Rattle.due_displays.proofs.PositionLemmas.{positions_more}
use Rattle.due_displays.proofs.tables.positions_of.Goals as goal

pub put_positions-requires : goal.put_positions-requires
put_positions-requires c k d below =
    let plant = c.args.plant.now in
    let are : c.displays-in-loop-screen.result.now ≡ displays_of plant c.loop-screen.screen = c.displays-in-loop-screen.ensures ∙ c.requires.screens c.loop-screen.screen in
    let all = subst (All (λ display. display < length plant.displays)) (sym are) (displays_of-HasItsDisplays plant c.loop-screen.screen c.displays.ensures.plant).below in
    omega (arith, all k d below, c.loop-screen.invariant.many, ap length c.deref_mut.ensures.value)

pub loop-screen-preserved : goal.loop-screen-preserved
loop-screen-preserved c =
    let plant = c.args.plant.now in
    let are : c.displays-in-loop-screen.result.now ≡ displays_of plant c.loop-screen.screen = c.displays-in-loop-screen.ensures ∙ c.requires.screens c.loop-screen.screen in
    let new = c.put_positions.new.positions in
    let put : ArePut (displays_of plant c.loop-screen.screen) c.loop-screen.positions.items new =
    subst (λ list. ArePut list c.loop-screen.positions.items new) are (subst (λ old. ArePut c.displays-in-loop-screen.result.now old new) c.deref_mut.ensures.value c.put_positions.ensures) in
    subst (ArePositionsOf plant (c.loop-screen.screen + 1)) (sym (with_items_is c.loop-screen.positions new (omega (arith, put.count, c.loop-screen.positions.ok.0))))
    (positions_more plant c.loop-screen.screen c.loop-screen.positions.items new c.displays.ensures.plant put c.loop-screen.invariant)
