-- Each position is looked at in the state that the requests below it leave.
use Rattle.std.proofs.Common.{sym, ap, ◌∙◌, subst, arith}
use Rattle.std.specs.Option.{option_copied}
use Rattle.trace_audit.specs.KeptInside.{IsLooked}
use Rattle.trace_audit.proofs.WalkLemmas.{walked-gap, walked-more}
use Rattle.trace_audit.proofs.walk.Walker.walk.Goals as goal

pub returns-in_default : goal.returns-in_default
returns-in_default c = λ entries are.
    walked-gap c.args.plant.now c.args.kept.now c.loop-position.position c.loop-position.self entries c.loop-position.invariant
    (sym c.row.ensures ∙ ap option_copied c.in_default.is) (omega arith) are

pub loop-position-preserved : goal.loop-position-preserved
loop-position-preserved c =
    walked-more c.args.plant.now c.args.kept.now c.loop-position.position c.in-Some.row.now c.loop-position.self c.look.new.self c.loop-position.invariant
    (sym c.row.ensures ∙ ap option_copied c.in-Some.is) c.look.ensures.ready
    (subst (IsLooked c.args.plant.now c.loop-position.position c.in-Some.row.now c.loop-position.self.state c.look.new.self.state) c.in_default-2.is c.in_ok-found.ensures.looked)
