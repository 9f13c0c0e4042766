use Rattle.panel_session.specs.Session.{StandsFor, Awaits}
use Rattle.panel_session.proofs.session.Session.panel.Goals as goal

pub returns : goal.returns
unfolding StandsFor Awaits
returns c = record {
  stood = λ plant panel past stands. stands.0.panel_is;
  awaited = λ plant panel past request awaits. awaits.0.panel_is;
}
