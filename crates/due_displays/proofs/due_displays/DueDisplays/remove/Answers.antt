use Rattle.std.proofs.Common.{◌≡◌, ◌==◌, ◌&&◌, not, length, get_or, set, subst, sym, ap, refl, ◌∙◌, arith}
use Rattle.std.specs.FinSet.{remove}
use Rattle.due_displays.specs.Row.{Row, has_at}
use Rattle.due_displays.specs.Due.{Due, AreDueOf, row_of, screen_at, position_of}
use Rattle.due_displays.specs.Changed.{LosesDue}
use Rattle.due_displays.proofs.DueLemmas.{ChangesAt, screen_within, stand_room, lost, read_screen, read_position, read_row}
use Rattle.due_displays.proofs.NotedLemmas.{emptied, still_some, none_from}
use Rattle.due_displays.proofs.due_displays.DueDisplays.remove.Goals as goal

pub index_mut-row-requires : goal.index_mut-row-requires
index_mut-row-requires c =
    let plant = c.args.plant.now in
    let due : Due = record { lasts = c.self.inside.watchers.lasts.items; befores = c.self.inside.watchers.befores.items; positions = c.self.inside.positions.items; rows = c.self.inside.rows.items; screens = c.self.inside.screens } in
    let is : due ≡ c.args.self.now = c.self.view_is in
    let are : AreDueOf plant due = subst (AreDueOf plant) (sym is) c.requires.kept in
    let screen = read_screen plant c.args.display c.get-number.result c.displays.result.now c.index-displays-number.result c.displays.ensures.displays c.get-number.ensures c.requires.display in
    omega (arith, screen, screen_within plant due c.args.display are c.requires.display, c.self.inside.rows.ok.0)

pub remove-requires : goal.remove-requires
remove-requires c =
    let plant = c.args.plant.now in
    let due : Due = record { lasts = c.self.inside.watchers.lasts.items; befores = c.self.inside.watchers.befores.items; positions = c.self.inside.positions.items; rows = c.self.inside.rows.items; screens = c.self.inside.screens } in
    let is : due ≡ c.args.self.now = c.self.view_is in
    let are : AreDueOf plant due = subst (AreDueOf plant) (sym is) c.requires.kept in
    let screen = read_screen plant c.args.display c.get-number.result c.displays.result.now c.index-displays-number.result c.displays.ensures.displays c.get-number.ensures c.requires.display in
    let position : c.index.result.now ≡ position_of due c.args.display = read_position plant due c.args.display c.get-number.result c.index.result.now are c.requires.display c.get-number.ensures c.index.ensures in
    let row : c.index_mut-row.result.now ≡ row_of due (screen_at plant c.args.display) = read_row plant due c.args.display _ c.index_mut-row.result.now are c.requires.display screen c.index_mut-row.ensures.value in
    omega (arith, position, ap length row, stand_room plant due c.args.display are c.requires.display)

pub returns-then-is_none : goal.returns-then-is_none
returns-then-is_none c =
    let plant = c.args.plant.now in
    let due : Due = record { lasts = c.self.inside.watchers.lasts.items; befores = c.self.inside.watchers.befores.items; positions = c.self.inside.positions.items; rows = c.self.inside.rows.items; screens = c.self.inside.screens } in
    let is : due ≡ c.args.self.now = c.self.view_is in
    let are : AreDueOf plant due = subst (AreDueOf plant) (sym is) c.requires.kept in
    let screen = read_screen plant c.args.display c.get-number.result c.displays.result.now c.index-displays-number.result c.displays.ensures.displays c.get-number.ensures c.requires.display in
    let position : c.index.result.now ≡ position_of due c.args.display = read_position plant due c.args.display c.get-number.result c.index.result.now are c.requires.display c.get-number.ensures c.index.ensures in
    let row : c.index_mut-row.result.now ≡ row_of due (screen_at plant c.args.display) = read_row plant due c.args.display _ c.index_mut-row.result.now are c.requires.display screen c.index_mut-row.ensures.value in
    let new : Due = record due { rows = set due.rows (get_or c.displays.result.now c.get-number.result c.index-displays-number.result).screen c.remove.new.self; screens = c.remove-then-is_none.new.self } in
    let changes : ChangesAt due new (screen_at plant c.args.display) c.remove.new.self (position_of due c.args.display) (λ a b. not a && b) = record {
      lasts = refl;
      befores = refl;
      positions = refl;
      rows = ap (λ n. set due.rows n c.remove.new.self) screen;
      count = c.remove.ensures.count ∙ ap length row;
      each = λ other. c.remove.ensures.each other ∙ ap (λ p. not (other == p) && has_at c.index_mut-row.result.now other) position ∙ ap (λ (r : Row). not (other == position_of due c.args.display) && has_at r other) row;
    } in
    subst (λ (old : Due). LosesDue plant old new c.args.display) is
    (lost plant due new c.args.display c.remove.new.self are c.requires.display changes
    (emptied due new (screen_at plant c.args.display) c.remove.new.self (c.remove-then-is_none.ensures ∙ ap (remove due.screens) screen) (λ position holds. c.lowest.ensures.none position (none_from c.lowest.result c.is_none.result c.is_none.ensures c.if-is_none.true) holds)))

pub returns-else-is_none : goal.returns-else-is_none
returns-else-is_none c =
    let plant = c.args.plant.now in
    let due : Due = record { lasts = c.self.inside.watchers.lasts.items; befores = c.self.inside.watchers.befores.items; positions = c.self.inside.positions.items; rows = c.self.inside.rows.items; screens = c.self.inside.screens } in
    let is : due ≡ c.args.self.now = c.self.view_is in
    let are : AreDueOf plant due = subst (AreDueOf plant) (sym is) c.requires.kept in
    let screen = read_screen plant c.args.display c.get-number.result c.displays.result.now c.index-displays-number.result c.displays.ensures.displays c.get-number.ensures c.requires.display in
    let position : c.index.result.now ≡ position_of due c.args.display = read_position plant due c.args.display c.get-number.result c.index.result.now are c.requires.display c.get-number.ensures c.index.ensures in
    let row : c.index_mut-row.result.now ≡ row_of due (screen_at plant c.args.display) = read_row plant due c.args.display _ c.index_mut-row.result.now are c.requires.display screen c.index_mut-row.ensures.value in
    let new : Due = record due { rows = set due.rows (get_or c.displays.result.now c.get-number.result c.index-displays-number.result).screen c.remove.new.self; screens = c.self.inside.screens } in
    let changes : ChangesAt due new (screen_at plant c.args.display) c.remove.new.self (position_of due c.args.display) (λ a b. not a && b) = record {
      lasts = refl;
      befores = refl;
      positions = refl;
      rows = ap (λ n. set due.rows n c.remove.new.self) screen;
      count = c.remove.ensures.count ∙ ap length row;
      each = λ other. c.remove.ensures.each other ∙ ap (λ p. not (other == p) && has_at c.index_mut-row.result.now other) position ∙ ap (λ (r : Row). not (other == position_of due c.args.display) && has_at r other) row;
    } in
    subst (λ (old : Due). LosesDue plant old new c.args.display) is
    (lost plant due new c.args.display c.remove.new.self are c.requires.display changes
    (still_some due new (screen_at plant c.args.display) c.remove.new.self c.lowest.result c.is_none.result refl c.lowest.ensures c.is_none.ensures c.if-is_none.false))
