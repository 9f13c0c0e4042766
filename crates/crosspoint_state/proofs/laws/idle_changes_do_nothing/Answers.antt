use Rattle.crosspoint_state.proofs.LawLemmas.{IdleOnesStay-applied, IdleOnesDoNothing-applied}
use Rattle.crosspoint_state.proofs.laws.idle_changes_do_nothing.Goals as goal

pub returns : goal.returns
returns c = record { stay = IdleOnesStay-applied; others = IdleOnesDoNothing-applied }
