use Rattle.std.proofs.Common.{ℕ, Option, subst}
use Rattle.line_text.specs.Lines.{lines}
use Rattle.command_standby.specs.FollowInside.{Came}
use Rattle.command_standby.proofs.EndLemmas.{refused, differs, stands}
use Rattle.command_standby.proofs.row.work.Goals as goal

pub returns-in-Err : goal.returns-in-Err
returns-in-Err g c = refused c.args.plant.now (lines c.args.text.now) c.in-Err.number _ _ _ c.in-Err.ensures.refused c.refuse_line.ensures

pub returns-in-Ok-Some : goal.returns-in-Ok-Some
returns-in-Ok-Some g c =
    differs c.args.plant.now (lines c.args.text.now) c.in-Ok.standby c.in-Ok-Some.position c.take_lines.new.standby c.take_lines.new.passed _ _ _ c.in-Ok.ensures
    (subst (λ (differing : Option ℕ). Came c.args.plant.now (lines c.args.text.now) c.in-Ok.standby differing c.take_lines.new.standby c.take_lines.new.passed) c.in-Ok-Some.field-0-is c.in-Ok-Some.ensures.came) c.tell_difference.ensures

pub returns : goal.returns
returns g c =
    stands c.args.plant.now (lines c.args.text.now) c.in-Ok.standby c.take_lines.new.standby c.take_lines.new.passed _ _ _ c.in-Ok.ensures
    (subst (λ (differing : Option ℕ). Came c.args.plant.now (lines c.args.text.now) c.in-Ok.standby differing c.take_lines.new.standby c.take_lines.new.passed) c.in-Ok-None.field-0-is c.in-Ok-None.ensures.came) c.tell_standing.ensures
