use Rattle.std.proofs.Common.{rules, ◌≡◌, ℕ, ◌+◌, ◌≤◌, None, List, [], ◌++◌, length, refl, sym, ap, ◌∙◌, subst, arith}
use Rattle.std.proofs.lemmas.List.{append_assoc}
use Rattle.history_lock.specs.Places.{Placed}
use Rattle.plant_core.specs.Answer.{room_of}
use Rattle.plant_core.specs.State.{FitsPlant}
use Rattle.plant_core.specs.declared.answer.Answer.{Answer}
use Rattle.plant_core.specs.declared.request.Request.{Request}
use Rattle.plant_core.specs.declared.request.Request.TheVariants.{Poll}
use Rattle.plant_core.proofs.CountLemmas.{room_within}
use Rattle.panel_session.specs.declared.session.cut.Cut.TheVariants.{Refused}
use Rattle.panel_session.specs.declared.session.Session.{Session}
use Rattle.panel_session.specs.declared.session.phase.Phase.{Phase}
use Rattle.panel_session.specs.declared.session.phase.Phase.TheVariants.{Poll as PollStage}
use Rattle.panel_session.specs.Answering.{IsOfSession, entry_of}
use Rattle.panel_session.specs.Engine.{HasRun, WasCut}
use Rattle.panel_session.specs.EngineInside.{IsUnderWay}
use Rattle.panel_session.specs.MovesInside.{answered_too, ended_turn, silenced}
use Rattle.panel_session.specs.PolledInside.{HasPolled}
use Rattle.panel_session.specs.RoomsInside.{fitting}
use Rattle.panel_session.specs.SenderKept.{SenderData}
use Rattle.panel_session.specs.Session.{made_by, with_outbox}
use Rattle.trace_lines.specs.TraceLine.{MaySpell}
use Rattle.panel_session.specs.Turns.{entries_in}
use Rattle.panel_session.specs.WorkInside.{polling_at}
use Rattle.panel_session.proofs.CutLemmas.{cut_behind, cut_refused}
use Rattle.panel_session.proofs.RunLemmas.{way_asked}
use Rattle.panel_session.proofs.SentLemmas.{fits_of, polls_again, taken_too}
use Rattle.panel_session.proofs.TellLemmas.{awaits_box}
use Rattle.panel_session.proofs.WayLemmas.{more_none}
use Rattle.panel_session.proofs.WorkLemmas.{asks_again, asks_first, polled_asked, way_ends}
use Rattle.panel_session.proofs.session.Session.work_polls.Goals as goal

pub loop-position-init : goal.loop-position-init
loop-position-init g c = record {
  way = λ on. (
    c.args.self.now,
    record { now = on.now; added = []; gave = g.met.O.Outlet.given_none c.args.out.now; way = more_none on.way },
    asks_first on.way c.requires.reads,
  );
  below = omega arith;
  same = g.met.A.Answerer.same_none c.args.answerer.now;
  same_outlet = g.met.O.Outlet.same_none c.args.out.now;
}

pub ask-requires-clause-serves : goal.ask-requires-clause-serves
ask-requires-clause-serves g c =
    let on = c.requires.way in
    let asking = c.loop-position.self in
    let answerer = c.loop-position.answerer in
    let request = c.polling-request.result in
    let poll = Poll asking.panel asking.items asking.counts.turns in
    let come = c.loop-position.invariant.way on in
    let serves = g.met.A.Answerer.serves_on on.plant on.first answerer (entries_in come.1.now.now) come.1.way.answers on.may.serves in
    let Fits : Request → Type 0 = λ request. FitsPlant on.plant request in (
      on.plant,
      serves,
      subst Fits (sym c.polling-request.ensures) come.2.2,
      omega (arith, ap (λ (box : Placed Answer). box.places) come.2.1),
    )

pub ask-requires-clause-empty : goal.ask-requires-clause-empty
ask-requires-clause-empty g c = ap (λ (box : Placed Answer). box.items) (c.loop-position.invariant.way c.requires.way).2.1

pub returns-in_default-clause-cut : goal.returns-in_default-clause-cut
returns-in_default-clause-cut g c = λ on.
    let asking = c.loop-position.self in
    let answerer = c.loop-position.answerer in
    let request = c.polling-request.result in
    let poll = Poll asking.panel asking.items asking.counts.turns in
    let come = c.loop-position.invariant.way on in
    let serves = g.met.A.Answerer.serves_on on.plant on.first answerer (entries_in come.1.now.now) come.1.way.answers on.may.serves in
    let none : c.ask.result ≡ None = search rules in
    let Was : Session → Type 0 = λ session.
    WasCut g.A.Answerer.Answers g.A.Answerer.TracesPart g.A.Answerer.Refuses g.A.Answerer.sent_first g.O.Outlet.Given g.O.Outlet.Failed Refused
    on.plant on.panel on.seat on.past on.piece on.more on.first c.ask.new.self session c.args.out.now c.loop-position.out in
    subst Was (sym c.stop.ensures)
    (cut_refused poll (polling_at c.loop-position.polls (with_outbox asking c.ask.new.out)) on.more come.1.added come.1.way refl (c.ask.ensures.refuses none) come.1.gave
    (awaits_box on.plant on.panel (polling_at c.loop-position.polls asking) come.1.now poll c.ask.new.out (c.ask.ensures.kept none) come.2.0))

pub returns-in_default-clause-same : goal.returns-in_default-clause-same
returns-in_default-clause-same g c = g.met.A.Answerer.same_more c.args.answerer.now c.loop-position.answerer c.ask.new.self c.loop-position.invariant.same c.ask.ensures.same

pub send_answers-requires-clause-front : goal.send_answers-requires-clause-front
send_answers-requires-clause-front g c = omega (arith, ap (λ (sender : SenderData). length sender.output.bytes) c.clear.ensures)

pub send_answers-requires-clause-spelled : goal.send_answers-requires-clause-spelled
send_answers-requires-clause-spelled g c = subst MaySpell (sym c.polling-request.ensures) tt

pub send_answers-requires-clause-of_session : goal.send_answers-requires-clause-of_session
send_answers-requires-clause-of_session g c = subst IsOfSession (sym c.polling-request.ensures) tt

pub send_answers-requires-clause-alone : goal.send_answers-requires-clause-alone
send_answers-requires-clause-alone g c = λ yes. ap (λ (sender : SenderData). sender.output.bytes) c.clear.ensures

pub send_answers-requires-clause-few : goal.send_answers-requires-clause-few
send_answers-requires-clause-few g c =
    let on = c.requires.way in
    let asking = c.loop-position.self in
    let answerer = c.loop-position.answerer in
    let request = c.polling-request.result in
    let poll = Poll asking.panel asking.items asking.counts.turns in
    let come = c.loop-position.invariant.way on in
    let serves = g.met.A.Answerer.serves_on on.plant on.first answerer (entries_in come.1.now.now) come.1.way.answers on.may.serves in
    omega (arith, c.ask.ensures.few on.plant serves, room_within on.plant (g.met.A.Answerer.serves_plant on.plant answerer serves))

pub returns-in-Err-clause-cut : goal.returns-in-Err-clause-cut
returns-in-Err-clause-cut g c = λ on.
    let asking = c.loop-position.self in
    let answerer = c.loop-position.answerer in
    let request = c.polling-request.result in
    let poll = Poll asking.panel asking.items asking.counts.turns in
    let come = c.loop-position.invariant.way on in
    let serves = g.met.A.Answerer.serves_on on.plant on.first answerer (entries_in come.1.now.now) come.1.way.answers on.may.serves in
    let polls = c.loop-position.polls in
    let phase = c.phase_behind-phase.result in
    let items = c.ask.new.out.items in
    let after = c.send_answers.new.self in
    let seated = g.met.A.Answerer.seated_on on.first answerer (entries_in come.1.now.now) on.seat come.1.way.answers on.may.seated in
    let few : length items ≤ room_of on.plant = c.ask.ensures.few on.plant serves in
    let fits = sym (fits_of on.plant on.panel (polling_at polls asking) come.1.now poll items come.2.0 few) in
    let Polled : List Answer → Type 0 = λ answers. HasPolled answers (polls + 1) phase in
    let polled : Polled items = subst Polled c.items.ensures c.phase_behind-phase.ensures in
    let same : after ≡ answered_too items (silenced asking) =
    c.send_answers.ensures.session
    ∙ ap (λ (sender : SenderData). answered_too items (record asking { outbox = c.ask.new.out; sender = sender })) c.clear.ensures
    ∙ taken_too (silenced asking) c.ask.new.out items refl c.ask.ensures.places in
    let asked = polled_asked {seat = on.seat} {past = on.past} {piece = on.piece} {plant = on.plant} {panel = on.panel} asking after polls phase request items come.1.way.come c.polling-request.ensures come.2 few polled same in
    let entry = entry_of on.seat request items in
    let Own : SenderData → Type 0 = λ sender. items ≡ fitting sender.names items in
    let own : Own c.clear.new.self = subst Own (sym c.clear.ensures) fits in
    let enters = c.in-Some.ensures.enters on.seat seated in
    let Was : Session → Type 0 = λ session.
    WasCut g.A.Answerer.Answers g.A.Answerer.TracesPart g.A.Answerer.Refuses g.A.Answerer.sent_first g.O.Outlet.Given g.O.Outlet.Failed c.in-Err.cut
    on.plant on.panel on.seat on.past on.piece on.more on.first c.send_answers.new.answerer session c.args.out.now c.send_answers.new.out in
    subst Was (sym c.stop-in-Err.ensures)
    (cut_behind c.in-Err.cut c.loop-position.out on.more come.1.added (made_by after) g.met.A.Answerer.answers_more come.1.way asked (append_assoc on.more come.1.added (made_by after)) (λ yes. refl) come.1.gave
    (c.in-Err.ensures.cut answerer entry enters refl own))

pub returns-in-Err-clause-same : goal.returns-in-Err-clause-same
returns-in-Err-clause-same g c =
    g.met.A.Answerer.same_more c.args.answerer.now c.loop-position.answerer c.send_answers.new.answerer c.loop-position.invariant.same
    (g.met.A.Answerer.same_more c.loop-position.answerer c.ask.new.self c.send_answers.new.answerer c.ask.ensures.same c.send_answers.ensures.same)

pub returns-in-Err-clause-same_outlet : goal.returns-in-Err-clause-same_outlet
returns-in-Err-clause-same_outlet g c = g.met.O.Outlet.same_more c.args.out.now c.loop-position.out c.send_answers.new.out c.loop-position.invariant.same_outlet c.send_answers.ensures.same_outlet

pub returns-in-End-clause-ends : goal.returns-in-End-clause-ends
returns-in-End-clause-ends g c = λ on.
    let asking = c.loop-position.self in
    let answerer = c.loop-position.answerer in
    let request = c.polling-request.result in
    let poll = Poll asking.panel asking.items asking.counts.turns in
    let come = c.loop-position.invariant.way on in
    let serves = g.met.A.Answerer.serves_on on.plant on.first answerer (entries_in come.1.now.now) come.1.way.answers on.may.serves in
    let polls = c.loop-position.polls in
    let phase = c.phase_behind-phase.result in
    let items = c.ask.new.out.items in
    let after = c.send_answers.new.self in
    let seated = g.met.A.Answerer.seated_on on.first answerer (entries_in come.1.now.now) on.seat come.1.way.answers on.may.seated in
    let few : length items ≤ room_of on.plant = c.ask.ensures.few on.plant serves in
    let fits = sym (fits_of on.plant on.panel (polling_at polls asking) come.1.now poll items come.2.0 few) in
    let Polled : List Answer → Type 0 = λ answers. HasPolled answers (polls + 1) phase in
    let polled : Polled items = subst Polled c.items.ensures c.phase_behind-phase.ensures in
    let same : after ≡ answered_too items (silenced asking) =
    c.send_answers.ensures.session
    ∙ ap (λ (sender : SenderData). answered_too items (record asking { outbox = c.ask.new.out; sender = sender })) c.clear.ensures
    ∙ taken_too (silenced asking) c.ask.new.out items refl c.ask.ensures.places in
    let asked = polled_asked {seat = on.seat} {past = on.past} {piece = on.piece} {plant = on.plant} {panel = on.panel} asking after polls phase request items come.1.way.come c.polling-request.ensures come.2 few polled same in
    let entry = entry_of on.seat request items in
    let Own : SenderData → Type 0 = λ sender. items ≡ fitting sender.names items in
    let own : Own c.clear.new.self = subst Own (sym c.clear.ensures) fits in
    let enters = c.in-Some.ensures.enters on.seat seated in
    let one = c.in_default-send_answers.ensures.traced answerer entry enters refl own in
    let way = way_asked g.met.A.Answerer.answers_more come.1.way asked one in
    let bytes = made_by after in
    let Way : Phase → Type 0 = λ phase. IsUnderWay g.A.Answerer.Answers g.A.Answerer.sent_first on.plant on.panel on.seat on.past on.piece on.first c.send_answers.new.answerer (record after { phase = phase; polls = polls + 1 }) [] asked.later ((on.more ++ come.1.added) ++ bytes) in
    let run = way_ends after (polls + 1) on.may (subst Way c.in-End.is way) in
    let Run : Session → List ℕ → Type 0 = λ session more. HasRun g.A.Answerer.Answers g.A.Answerer.sent_first on.plant on.panel on.seat on.past on.piece on.first c.send_answers.new.answerer session more in
    let Sent : List ℕ → Type 0 = λ more. Run (ended_turn after) more in
    let At : Session → Type 0 = λ session. Run session (on.more ++ (come.1.added ++ bytes)) in (
      come.1.added ++ bytes,
      g.met.O.Outlet.given_more c.args.out.now c.loop-position.out c.send_answers.new.out come.1.added bytes come.1.gave c.in_default-send_answers.ensures.sent,
      subst At (sym c.end_turn.ensures) (subst Sent (append_assoc on.more come.1.added bytes) run),
    )

pub returns-in-End-clause-same : goal.returns-in-End-clause-same
returns-in-End-clause-same g c =
    g.met.A.Answerer.same_more c.args.answerer.now c.loop-position.answerer c.send_answers.new.answerer c.loop-position.invariant.same
    (g.met.A.Answerer.same_more c.loop-position.answerer c.ask.new.self c.send_answers.new.answerer c.ask.ensures.same c.send_answers.ensures.same)

pub returns-in-End-clause-same_outlet : goal.returns-in-End-clause-same_outlet
returns-in-End-clause-same_outlet g c = g.met.O.Outlet.same_more c.args.out.now c.loop-position.out c.send_answers.new.out c.loop-position.invariant.same_outlet c.send_answers.ensures.same_outlet

pub loop-position-preserved : goal.loop-position-preserved
loop-position-preserved g c =
    let polls_now = c.loop-position.polls in
    let PolledNow : List Answer → Type 0 = λ answers. HasPolled answers (polls_now + 1) c.phase_behind-phase.result in
    let goes_on = polls_again c.ask.new.out.items (polls_now + 1) c.phase_behind-phase.result (subst PolledNow c.items.ensures c.phase_behind-phase.ensures) c.in_default-phase.not-End in
    record {
      way = λ on.
          let asking = c.loop-position.self in
          let answerer = c.loop-position.answerer in
          let request = c.polling-request.result in
          let poll = Poll asking.panel asking.items asking.counts.turns in
          let come = c.loop-position.invariant.way on in
          let serves = g.met.A.Answerer.serves_on on.plant on.first answerer (entries_in come.1.now.now) come.1.way.answers on.may.serves in
          let polls = c.loop-position.polls in
          let phase = c.phase_behind-phase.result in
          let items = c.ask.new.out.items in
          let after = c.send_answers.new.self in
          let seated = g.met.A.Answerer.seated_on on.first answerer (entries_in come.1.now.now) on.seat come.1.way.answers on.may.seated in
          let few : length items ≤ room_of on.plant = c.ask.ensures.few on.plant serves in
          let fits = sym (fits_of on.plant on.panel (polling_at polls asking) come.1.now poll items come.2.0 few) in
          let Polled : List Answer → Type 0 = λ answers. HasPolled answers (polls + 1) phase in
          let polled : Polled items = subst Polled c.items.ensures c.phase_behind-phase.ensures in
          let same : after ≡ answered_too items (silenced asking) =
          c.send_answers.ensures.session
          ∙ ap (λ (sender : SenderData). answered_too items (record asking { outbox = c.ask.new.out; sender = sender })) c.clear.ensures
          ∙ taken_too (silenced asking) c.ask.new.out items refl c.ask.ensures.places in
          let asked = polled_asked {seat = on.seat} {past = on.past} {piece = on.piece} {plant = on.plant} {panel = on.panel} asking after polls phase request items come.1.way.come c.polling-request.ensures come.2 few polled same in
          let entry = entry_of on.seat request items in
          let Own : SenderData → Type 0 = λ sender. items ≡ fitting sender.names items in
          let own : Own c.clear.new.self = subst Own (sym c.clear.ensures) fits in
          let enters = c.in-Some.ensures.enters on.seat seated in
          let one = c.in_default-send_answers.ensures.traced answerer entry enters refl own in
          let way = way_asked g.met.A.Answerer.answers_more come.1.way asked one in
          let bytes = made_by after in
          let Way : Phase → List ℕ → Type 0 = λ phase more. IsUnderWay g.A.Answerer.Answers g.A.Answerer.sent_first on.plant on.panel on.seat on.past on.piece on.first c.send_answers.new.answerer (record after { phase = phase; polls = polls + 1 }) [] asked.later more in
          let At : Phase → Type 0 = λ phase. Way phase ((on.more ++ come.1.added) ++ bytes) in
          let way_then = subst (Way PollStage) (append_assoc on.more come.1.added bytes) (subst At goes_on.0 way) in (
            polling_at (polls + 1) after,
            record {
              now = asked.later;
              added = come.1.added ++ bytes;
              gave = g.met.O.Outlet.given_more c.args.out.now c.loop-position.out c.send_answers.new.out come.1.added bytes come.1.gave c.in_default-send_answers.ensures.sent;
              way = way_then;
            },
            asks_again after (polls + 1) way_then,
          );
      below = omega (arith, c.loop-position.invariant.below, goes_on.1);
      same = g.met.A.Answerer.same_more c.args.answerer.now c.loop-position.answerer c.send_answers.new.answerer c.loop-position.invariant.same
          (g.met.A.Answerer.same_more c.loop-position.answerer c.ask.new.self c.send_answers.new.answerer c.ask.ensures.same c.send_answers.ensures.same);
      same_outlet = g.met.O.Outlet.same_more c.args.out.now c.loop-position.out c.send_answers.new.out c.loop-position.invariant.same_outlet c.send_answers.ensures.same_outlet;
    }
