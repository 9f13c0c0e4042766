use Rattle.panel_session.specs.Session.{StandsFor, Awaits}
use Rattle.panel_session.proofs.FitsOnLemmas.{stands_fit}
use Rattle.panel_session.proofs.laws.so_far_fits.Goals as goal

pub returns : goal.returns
unfolding StandsFor Awaits
returns c = record {
  stands = λ plant panel session past rest stands used. stands_fit plant panel session past rest stands.0 used;
  awaits = λ plant panel session past request rest awaits used. stands_fit plant panel session past rest awaits.0 used;
}
