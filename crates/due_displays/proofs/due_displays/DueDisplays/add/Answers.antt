use Rattle.std.proofs.Common.{◌≡◌, ◌==◌, ◌||◌, length, get_or, set, subst, sym, ap, refl, ◌∙◌, arith}
use Rattle.std.specs.FinSet.{insert}
use Rattle.due_displays.specs.Row.{Row, has_at}
use Rattle.due_displays.specs.Due.{Due, AreDueOf, row_of, screen_at, position_of}
use Rattle.due_displays.specs.Changed.{BecomeDue}
use Rattle.due_displays.proofs.DueLemmas.{ChangesAt, screen_within, stand_room, added, read_screen, read_position, read_row}
use Rattle.due_displays.proofs.due_displays.DueDisplays.add.Goals as goal

pub index_mut-requires : goal.index_mut-requires
index_mut-requires c =
    let plant = c.args.plant.now in
    let due : Due = record { lasts = c.self.inside.watchers.lasts.items; befores = c.self.inside.watchers.befores.items; positions = c.self.inside.positions.items; rows = c.self.inside.rows.items; screens = c.self.inside.screens } in
    let is : due ≡ c.args.self.now = c.self.view_is in
    let are : AreDueOf plant due = subst (AreDueOf plant) (sym is) c.requires.kept in
    let screen = read_screen plant c.args.display c.get-number.result c.displays.result.now c.index-displays-number.result c.displays.ensures.displays c.get-number.ensures c.requires.display in
    omega (arith, screen, screen_within plant due c.args.display are c.requires.display, c.self.inside.rows.ok.0)

pub insert-requires : goal.insert-requires
insert-requires c =
    let plant = c.args.plant.now in
    let due : Due = record { lasts = c.self.inside.watchers.lasts.items; befores = c.self.inside.watchers.befores.items; positions = c.self.inside.positions.items; rows = c.self.inside.rows.items; screens = c.self.inside.screens } in
    let is : due ≡ c.args.self.now = c.self.view_is in
    let are : AreDueOf plant due = subst (AreDueOf plant) (sym is) c.requires.kept in
    let screen = read_screen plant c.args.display c.get-number.result c.displays.result.now c.index-displays-number.result c.displays.ensures.displays c.get-number.ensures c.requires.display in
    let position : c.index.result.now ≡ position_of due c.args.display = read_position plant due c.args.display c.get-number.result c.index.result.now are c.requires.display c.get-number.ensures c.index.ensures in
    let row : c.index_mut.result.now ≡ row_of due (screen_at plant c.args.display) = read_row plant due c.args.display _ c.index_mut.result.now are c.requires.display screen c.index_mut.ensures.value in
    omega (arith, position, ap length row, stand_room plant due c.args.display are c.requires.display)

pub returns : goal.returns
returns c =
    let plant = c.args.plant.now in
    let due : Due = record { lasts = c.self.inside.watchers.lasts.items; befores = c.self.inside.watchers.befores.items; positions = c.self.inside.positions.items; rows = c.self.inside.rows.items; screens = c.self.inside.screens } in
    let is : due ≡ c.args.self.now = c.self.view_is in
    let are : AreDueOf plant due = subst (AreDueOf plant) (sym is) c.requires.kept in
    let screen = read_screen plant c.args.display c.get-number.result c.displays.result.now c.index-displays-number.result c.displays.ensures.displays c.get-number.ensures c.requires.display in
    let position : c.index.result.now ≡ position_of due c.args.display = read_position plant due c.args.display c.get-number.result c.index.result.now are c.requires.display c.get-number.ensures c.index.ensures in
    let row : c.index_mut.result.now ≡ row_of due (screen_at plant c.args.display) = read_row plant due c.args.display _ c.index_mut.result.now are c.requires.display screen c.index_mut.ensures.value in
    let new : Due = record due { rows = set due.rows (get_or c.displays.result.now c.get-number.result c.index-displays-number.result).screen c.insert.new.self; screens = c.insert-2.new.self } in
    let changes : ChangesAt due new (screen_at plant c.args.display) c.insert.new.self (position_of due c.args.display) (λ a b. a || b) = record {
      lasts = refl;
      befores = refl;
      positions = refl;
      rows = ap (λ n. set due.rows n c.insert.new.self) screen;
      count = c.insert.ensures.count ∙ ap length row;
      each = λ other. c.insert.ensures.each other ∙ ap (λ p. (other == p) || has_at c.index_mut.result.now other) position ∙ ap (λ (r : Row). (other == position_of due c.args.display) || has_at r other) row;
    } in
    subst (λ (old : Due). BecomeDue plant old new (λ other. other == c.args.display)) is
    (added plant due new c.args.display c.insert.new.self are c.requires.display changes (c.insert-2.ensures ∙ ap (insert due.screens) screen))
