use Rattle.std.proofs.Common.{◌≡◌, ◌≢◌, ℕ, ◌+◌, ◌^◌, ◌<◌, ◌≤◌, ◌%◌, false, true, [], length, rules, refl, sym, ap, ◌∙◌, arith}
use Rattle.std.proofs.lemmas.List.{nil_from_length}
use Rattle.plant_config.specs.Screens.{screens_of}
use Rattle.panel_server.specs.declared.displays.DriverEnd.TheVariants.{Finished}
use Rattle.panel_server.specs.DrivenInside.{outside, was_last}
use Rattle.panel_server.proofs.DriveLemmas.{driven_ends, driven_last, driving_on, lost_few, polls_few, sent_few}
use Rattle.panel_server.proofs.BeginLemmas.{driven_nothing, driving_begins}
use Rattle.panel_server.proofs.PollLemmas.{poll_is, screen_fits, seat_stays}
use Rattle.panel_server.proofs.displays.drive.Goals as goal

pub returns-then-count-eq0-clause-driven : goal.returns-then-count-eq0-clause-driven
returns-then-count-eq0-clause-driven g c =
    let none : length c.screens-screens.result.now ≡ 0 = search rules in
    let empty : screens_of c.args.plant.now ≡ [] = nil_from_length (screens_of c.args.plant.now) (ap (length {A = ℕ}) (sym c.screens-screens.ensures.screens) ∙ none) in
    driven_nothing g.P.DisplayPort.was_sent g.P.DisplayPort.faults c.args.plant.now (Finished 0 0)
    (outside c.args.seat.now c.args.port.now (g.K.Sink.written c.args.trace.now) (g.K.Sink.faults c.args.trace.now))
    refl refl refl ((λ some. absurd (some empty), λ _. refl), refl, refl)

pub loop-polled-init : goal.loop-polled-init
loop-polled-init g c = record {
  driving = driving_begins g.P.DisplayPort.was_sent g.P.DisplayPort.faults c.args.plant.now
      (outside c.args.seat.now c.args.port.now (g.K.Sink.written c.args.trace.now) (g.K.Sink.faults c.args.trace.now));
  few = omega arith;
  sent_few = omega arith;
  lost_few = omega arith;
  room = c.requires.room;
  opening = refl;
  name = refl;
  seat = c.requires.seat;
}

pub poll_screen-requires-clause-fits : goal.poll_screen-requires-clause-fits
poll_screen-requires-clause-fits g c κs within =
    let screens = c.screens-screens.result.now in
    let below : c.loop-polled.polls % length screens < length screens = search rules in
    screen_fits c.args.plant.now screens (c.loop-polled.polls % length screens) c.screen_at-screen.result c.screens-screens.ensures.plant c.screens-screens.ensures.screens below c.screen_at-screen.ensures

pub returns-in-Err-clause-driven : goal.returns-in-Err-clause-driven
returns-in-Err-clause-driven g c =
    let plant = c.args.plant.now in
    let screens = c.screens-screens.result.now in
    let every : c.from-every.result ≡ plant.server.refresh_every = search rules in
    let some : screens_of plant ≢ [] = λ none. let empty : length screens ≡ 0 = ap (length {A = ℕ}) (c.screens-screens.ensures.screens ∙ none) in search rules in
    let is = poll_is plant screens c.from-every.result c.loop-polled.polls c.screen_at-screen.result c.has_refresh-refresh.result c.screens-screens.ensures.screens c.screen_at-screen.ensures every c.has_refresh-refresh.ensures in
    driven_ends c.in-Err.end _ _ some c.loop-polled.invariant.driving is c.in-Err.ensures.ends c.in-Err.ensures.unsent c.in-Err.ensures.cause

pub returns-then-is_last-clause-driven : goal.returns-then-is_last-clause-driven
returns-then-is_last-clause-driven g c =
    let plant = c.args.plant.now in
    let screens = c.screens-screens.result.now in
    let every : c.from-every.result ≡ plant.server.refresh_every = search rules in
    let some : screens_of plant ≢ [] = λ none. let empty : length screens ≡ 0 = ap (length {A = ℕ}) (c.screens-screens.ensures.screens ∙ none) in search rules in
    let is = poll_is plant screens c.from-every.result c.loop-polled.polls c.screen_at-screen.result c.has_refresh-refresh.result c.screens-screens.ensures.screens c.screen_at-screen.ensures every c.has_refresh-refresh.ensures in
    let last : was_last c.in-Ok.polled ≡ true = search rules in
    driven_last c.in-Ok.polled _ _ some c.loop-polled.invariant.driving is last c.in-Ok.ensures.polled

pub loop-polled-preserved-then-polls-count-eq0 : goal.loop-polled-preserved-then-polls-count-eq0
loop-polled-preserved-then-polls-count-eq0 g c =
    let plant = c.args.plant.now in
    let screens = c.screens-screens.result.now in
    let every : c.from-every.result ≡ plant.server.refresh_every = search rules in
    let is = poll_is plant screens c.from-every.result c.loop-polled.polls c.screen_at-screen.result c.has_refresh-refresh.result c.screens-screens.ensures.screens c.screen_at-screen.ensures every c.has_refresh-refresh.ensures in
    let more : was_last c.in-Ok.polled ≡ false = search rules in
    let has = c.in-Ok.ensures.polled in
    let on = driving_on c.in-Ok.polled _ _ c.sent.result c.lost.result _ c.loop-polled.invariant.driving is more has c.sent.ensures.sent c.lost.ensures.lost c.pause_unless.ensures.packets c.pause_unless.ensures.count in
    record {
      opening = c.pause_unless.ensures.opening ∙ c.poll_screen.ensures.opening ∙ c.loop-polled.invariant.opening;
      driving = on;
      few = polls_few has.number on has.given.numbered;
      sent_few = sent_few on;
      lost_few = lost_few on;
      room = c.poll_screen.ensures.room;
      name = c.poll_screen.ensures.trace_name ∙ c.loop-polled.invariant.name;
      seat = seat_stays plant c.args.lock.now c.loop-polled.seat c.poll_screen.new.seat c.loop-polled.invariant.seat has.given.rest;
    }

pub loop-polled-preserved : goal.loop-polled-preserved
loop-polled-preserved g c =
    let plant = c.args.plant.now in
    let screens = c.screens-screens.result.now in
    let every : c.from-every.result ≡ plant.server.refresh_every = search rules in
    let is = poll_is plant screens c.from-every.result c.loop-polled.polls c.screen_at-screen.result c.has_refresh-refresh.result c.screens-screens.ensures.screens c.screen_at-screen.ensures every c.has_refresh-refresh.ensures in
    let more : was_last c.in-Ok.polled ≡ false = search rules in
    let has = c.in-Ok.ensures.polled in
    let on = driving_on c.in-Ok.polled _ _ c.sent.result c.lost.result _ c.loop-polled.invariant.driving is more has c.sent.ensures.sent c.lost.ensures.lost (λ packets was. was) refl in
    record {
      opening = c.poll_screen.ensures.opening ∙ c.loop-polled.invariant.opening;
      driving = on;
      few = polls_few has.number on has.given.numbered;
      sent_few = sent_few on;
      lost_few = lost_few on;
      room = c.poll_screen.ensures.room;
      name = c.poll_screen.ensures.trace_name ∙ c.loop-polled.invariant.name;
      seat = seat_stays plant c.args.lock.now c.loop-polled.seat c.poll_screen.new.seat c.loop-polled.invariant.seat has.given.rest;
    }

pub loop-polled-smaller-then-polls-count-eq0 : goal.loop-polled-smaller-then-polls-count-eq0
loop-polled-smaller-then-polls-count-eq0 g c =
    let plant = c.args.plant.now in
    let screens = c.screens-screens.result.now in
    let every : c.from-every.result ≡ plant.server.refresh_every = search rules in
    let is = poll_is plant screens c.from-every.result c.loop-polled.polls c.screen_at-screen.result c.has_refresh-refresh.result c.screens-screens.ensures.screens c.screen_at-screen.ensures every c.has_refresh-refresh.ensures in
    let more : was_last c.in-Ok.polled ≡ false = search rules in
    let has = c.in-Ok.ensures.polled in
    let on = driving_on c.in-Ok.polled _ _ c.sent.result c.lost.result _ c.loop-polled.invariant.driving is more has c.sent.ensures.sent c.lost.ensures.lost c.pause_unless.ensures.packets c.pause_unless.ensures.count in
    let few : c.loop-polled.polls + 1 ≤ 2 ^ 62 = polls_few has.number on has.given.numbered in
    omega (arith, few)

pub loop-polled-smaller : goal.loop-polled-smaller
loop-polled-smaller g c =
    let plant = c.args.plant.now in
    let screens = c.screens-screens.result.now in
    let every : c.from-every.result ≡ plant.server.refresh_every = search rules in
    let is = poll_is plant screens c.from-every.result c.loop-polled.polls c.screen_at-screen.result c.has_refresh-refresh.result c.screens-screens.ensures.screens c.screen_at-screen.ensures every c.has_refresh-refresh.ensures in
    let more : was_last c.in-Ok.polled ≡ false = search rules in
    let has = c.in-Ok.ensures.polled in
    let on = driving_on c.in-Ok.polled _ _ c.sent.result c.lost.result _ c.loop-polled.invariant.driving is more has c.sent.ensures.sent c.lost.ensures.lost (λ packets was. was) refl in
    let few : c.loop-polled.polls + 1 ≤ 2 ^ 62 = polls_few has.number on has.given.numbered in
    omega (arith, few)
