use Rattle.std.proofs.Common.{ℕ, refl, ap, ◌∙◌}
use Rattle.panel_session.specs.Session.{StandsFor, Awaits}
use Rattle.panel_session.specs.SenderKept.{SenderData}
use Rattle.panel_session.specs.Text.{nothing_sent}
use Rattle.panel_session.proofs.KeptItemLemmas.{reading}
use Rattle.panel_session.proofs.ActsLemmas.{stands_new}
use Rattle.panel_session.proofs.session.Session.reset.Goals as goal

pub returns-clause-stood : goal.returns-clause-stood
unfolding StandsFor
returns-clause-stood c = λ plant panel past stands. (
  stands_new plant panel _ stands.0.plant_is (ap (λ (sends : SenderData). sends.names) c.reset-2.ensures ∙ stands.0.names_are) stands.0.panel_is stands.0.has_panel c.reset.ensures
      (ap (λ (sends : SenderData). reading c.args.self.now.panel 0 0 0 sends.output) c.reset-2.ensures ∙ ap (λ (panel : ℕ). reading panel 0 0 0 nothing_sent) stands.0.panel_is)
      refl refl (c.clear.ensures.places ∙ stands.0.places),
  c.clear.ensures.items,
  λ poll. cc,
)

pub returns-clause-awaited : goal.returns-clause-awaited
unfolding StandsFor Awaits
returns-clause-awaited c = λ plant panel past request awaits. (
  stands_new plant panel _ awaits.0.plant_is (ap (λ (sends : SenderData). sends.names) c.reset-2.ensures ∙ awaits.0.names_are) awaits.0.panel_is awaits.0.has_panel c.reset.ensures
      (ap (λ (sends : SenderData). reading c.args.self.now.panel 0 0 0 sends.output) c.reset-2.ensures ∙ ap (λ (panel : ℕ). reading panel 0 0 0 nothing_sent) awaits.0.panel_is)
      refl refl (c.clear.ensures.places ∙ awaits.0.places),
  c.clear.ensures.items,
  λ poll. cc,
)
