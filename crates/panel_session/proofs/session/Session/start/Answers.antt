use Rattle.std.proofs.Common.{refl, ap, ◌∙◌}
use Rattle.panel_session.specs.SenderKept.{SenderData}
use Rattle.panel_session.specs.Session.{StandsFor}
use Rattle.panel_session.proofs.KeptItemLemmas.{reading}
use Rattle.panel_session.proofs.ActsLemmas.{stands_new}
use Rattle.panel_session.proofs.session.Session.start.Goals as goal

pub returns-clause-new : goal.returns-clause-new
unfolding StandsFor
returns-clause-new c = (
  stands_new c.args.plant.now c.args.panel _ refl (ap (λ (sends : SenderData). sends.names) c.in_ok-new.ensures) refl c.requires.panel c.new.ensures
      (ap (λ (sends : SenderData). reading c.args.panel 0 0 0 sends.output) c.in_ok-new.ensures) refl refl (c.in_ok-new-2.ensures.places ∙ c.room_of.ensures),
  c.in_ok-new-2.ensures.empty,
  λ poll. cc,
)
