use Rattle.std.proofs.Common.{rules, ◌≡◌, ◌+◌, List, length, sym, subst, arith}
use Rattle.panel_session.specs.declared.session.Session.{Session}
use Rattle.panel_session.specs.Session.{StandsFor}
use Rattle.panel_session.specs.SoFar.{nothing_yet}
use Rattle.panel_server.specs.ServeInside.{AreSessions}
use Rattle.panel_server.proofs.RoomLemmas.{no_sessions, sessions_more}
use Rattle.panel_server.proofs.room.start_sessions.Goals as goal

pub loop-number-init : goal.loop-number-init
loop-number-init c = record {
  new = no_sessions c.args.plant.now c.in_ok-sessions.sessions.items c.in_ok-sessions.ensures.items;
  count = search rules;
  places = search rules;
}

pub loop-number-preserved : goal.loop-number-preserved
loop-number-preserved c =
    let plant = c.args.plant.now in
    let session = c.in_ok-start.field-0 in
    let stands : StandsFor c.args.plant.now c.loop-number.number c.in_ok-start.field-0 nothing_yet = search rules in
    let at : c.loop-number.number ≡ 0 + length c.loop-number.sessions.items = omega (arith, c.loop-number.invariant.count) in
    record {
      new = subst (λ (sessions : List Session). AreSessions plant 0 sessions) (sym c.push_reserved.ensures.items)
          (sessions_more plant 0 c.loop-number.number c.loop-number.sessions.items session c.loop-number.invariant.new at stands);
      count = search rules;
      places = search rules;
    }
