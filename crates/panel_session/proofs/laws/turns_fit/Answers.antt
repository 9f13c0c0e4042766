use Rattle.panel_session.specs.Session.{StandsFor}
use Rattle.panel_session.proofs.TurnsFit.{turns_fit_lem, turns_text_lem}
use Rattle.panel_session.proofs.laws.turns_fit.Goals as goal

pub returns : goal.returns
unfolding StandsFor
returns c = record {
  fit = λ plant panel session past stands. turns_fit_lem plant panel session past stands.0;
  text = λ plant panel session past stands begins. turns_text_lem plant panel session past stands.0 begins;
}
