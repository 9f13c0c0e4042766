use Rattle.panel_session.proofs.TurnOnce.{one_turn_lem}
use Rattle.panel_session.proofs.laws.one_turn.Goals as goal

pub returns : goal.returns
returns g c = one_turn_lem g.M.Machine.step g.M.Machine.Fits
