use Rattle.std.proofs.Common.{◌≡◌, length, sym, ap, ◌∙◌, arith}
use Rattle.std.proofs.lemmas.Bool.{eqb-true}
use Rattle.plant_core.proofs.CountLemmas.{room_some}
use Rattle.plant_core.proofs.state.PlantState.poll_display.Goals as goal

pub show_first-requires-clause-places : goal.show_first-requires-clause-places
show_first-requires-clause-places c = omega (arith, c.requires.places, room_some c.args.self.now.plant)

pub put-requires : goal.put-requires
put-requires c =
    let none : length c.items.result.now ≡ 0 = eqb-true _ 0 (sym c.is_empty.ensures ∙ c.if-is_empty.true) in
    omega (arith, none, ap length c.items.ensures, c.show_first.ensures.places, c.requires.places, room_some c.args.self.now.plant)
