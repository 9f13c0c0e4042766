use Rattle.std.proofs.Common.{sym, subst}
use Rattle.crosspoint_state.specs.TapsInside.{Moves}
use Rattle.crosspoint_state.proofs.TapsLemmas.{moves_nowhere, moves_loosened}
use Rattle.crosspoint_state.proofs.tapped.move_to.Goals as goal

pub returns-in-Some : goal.returns-in-Some
returns-in-Some c =
    subst (Moves c.args.taps.now c.put_under.new.taps c.args.dest) (sym c.in-Some.is)
    (moves_loosened c.args.taps.now c.loosen.new.taps c.put_under.new.taps c.args.dest _ c.loosen.ensures c.put_under.ensures)

pub returns-in_default : goal.returns-in_default
returns-in_default c =
    subst (Moves c.args.taps.now c.loosen.new.taps c.args.dest) (sym c.in_default.is)
    (moves_nowhere c.args.taps.now c.loosen.new.taps c.args.dest c.loosen.ensures)
