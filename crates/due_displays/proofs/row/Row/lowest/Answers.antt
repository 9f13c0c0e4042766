use Rattle.std.proofs.Common.{◌+◌, ◌*◌, ◌<◌, ◌≤◌, Some, None, length, subst, sym, arith}
use Rattle.std.proofs.lemmas.List.{get_or_read}
use Rattle.std.specs.FinSet.{empty}
use Rattle.due_displays.specs.Row.{Row, IsLowestOf}
use Rattle.due_displays.proofs.RowLemmas.{bare_more, lowest_found, lowest_none}
use Rattle.due_displays.proofs.row.Row.lowest.Goals as goal

pub returns-in-Some : goal.returns-in-Some
returns-in-Some c =
    let within : c.loop-number.number < length c.self.inside.sets.items = omega (arith, c.loop-number-test.true, c.len-number-end.ensures, c.self.inside.sets.ok.0) in
    subst (λ (row : Row). IsLowestOf row (Some (1024 * c.loop-number.number + c.in-Some.lowest))) c.self.view_is
    (lowest_found c.self.inside.sets.items c.loop-number.number c.in-Some.lowest c.index.result.now (get_or_read c.self.inside.sets.items c.loop-number.number c.index.result.now within c.index.ensures empty) c.in-Some.ensures.lowest c.in-Some.ensures.below c.loop-number.invariant)

pub loop-number-preserved : goal.loop-number-preserved
loop-number-preserved c =
    let within : c.loop-number.number < length c.self.inside.sets.items = omega (arith, c.loop-number-test.true, c.len-number-end.ensures, c.self.inside.sets.ok.0) in
    bare_more c.self.inside.sets.items c.loop-number.number c.index.result.now (get_or_read c.self.inside.sets.items c.loop-number.number c.index.result.now within c.index.ensures empty) (sym c.in_default.ensures.lowest) c.loop-number.invariant

pub returns : goal.returns
returns c =
    let all : length c.self.inside.sets.items ≤ c.loop-number.number = omega (arith, c.loop-number-test.false, c.len-number-end.ensures, c.self.inside.sets.ok.0) in
    subst (λ (row : Row). IsLowestOf row None) c.self.view_is (lowest_none c.self.inside.sets.items (λ set position below. c.loop-number.invariant set position (omega (arith, below, all))))
