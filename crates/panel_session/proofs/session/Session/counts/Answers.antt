use Rattle.panel_session.specs.Session.{StandsFor, Awaits}
use Rattle.panel_session.proofs.session.Session.counts.Goals as goal

pub returns : goal.returns
unfolding StandsFor Awaits
returns c = record {
  stood = λ plant panel past stands. record { goods = stands.0.goods; bads = stands.0.bads; turns = stands.0.keeps.turns_are };
  awaited = λ plant panel past request awaits. record { goods = awaits.0.goods; bads = awaits.0.bads; turns = awaits.0.keeps.turns_are };
}
