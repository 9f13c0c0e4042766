use Rattle.std.proofs.Common.{rules, ℕ, List, sym, subst}
use Rattle.std.specs.Prelude.{slice_index_or}
use Rattle.panel_session.specs.declared.session.Session.{Session}
use Rattle.panel_session.specs.Session.{StandsFor}
use Rattle.panel_session.specs.SoFar.{nothing_yet}
use Rattle.record_replay.proofs.StartLemmas.{each_more}
use Rattle.record_replay.proofs.replayer.start_sessions.Goals as goal

pub loop-panel-preserved : goal.loop-panel-preserved
loop-panel-preserved c =
    let IsNew : ℕ → Session → Type 0 = λ panel session. StandsFor c.args.plant.now panel session nothing_yet in
    let added : IsNew c.loop-panel.panel c.in_ok-start.field-0 = search rules in
    record {
      count = search rules;
      room = search rules;
      each = λ panel other below.
          subst (λ (sessions : List Session). IsNew panel (slice_index_or sessions panel other)) (sym c.push_reserved.ensures.items)
          (each_more IsNew c.loop-panel.sessions.items c.in_ok-start.field-0 c.loop-panel.panel c.loop-panel.invariant.count c.loop-panel.invariant.each added panel other below);
    }
