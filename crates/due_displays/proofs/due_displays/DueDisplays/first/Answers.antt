use Rattle.std.proofs.Common.{◌≡◌, ◌<◌, [], length, get_or, subst, ap, ◌∙◌, arith}
use Rattle.std.proofs.lemmas.List.{get_or_read}
use Rattle.due_displays.specs.Row.{Row, IsLowestOf}
use Rattle.due_displays.specs.Due.{Due, row_of}
use Rattle.due_displays.proofs.DueLemmas.{first_due}
use Rattle.due_displays.proofs.due_displays.DueDisplays.first.Goals as goal

pub returns : goal.returns
returns c plant are =
    let within : c.args.screen < length c.self.inside.rows.items = omega (arith, c.if-screen-len.false, c.len.ensures, c.self.inside.rows.ok.0) in
    let row : c.index.result.now ≡ get_or c.self.inside.rows.items c.args.screen [] = get_or_read c.self.inside.rows.items c.args.screen c.index.result.now within c.index.ensures [] in
    first_due plant c.args.self.now c.args.screen c.lowest.result are
    (subst (λ (row : Row). IsLowestOf row c.lowest.result) (row ∙ ap (λ (due : Due). row_of due c.args.screen) c.self.view_is) c.lowest.ensures)
