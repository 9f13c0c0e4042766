use Rattle.panel_session.specs.Session.{StandsFor, Awaits}
use Rattle.panel_session.proofs.ActsLemmas.{stands_so_far_lem}
use Rattle.panel_session.proofs.laws.stands_so_far.Goals as goal

pub returns : goal.returns
unfolding StandsFor Awaits
returns c = record {
  stands = λ plant panel session past stands. stands_so_far_lem plant panel session past stands.0;
  awaits = λ plant panel session past request awaits. stands_so_far_lem plant panel session past awaits.0;
}
