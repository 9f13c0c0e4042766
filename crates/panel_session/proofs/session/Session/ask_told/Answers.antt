use Rattle.std.proofs.Common.{rules, ◌≡◌, ℕ, ◌≤◌, Err, None, List, [], ◌++◌, length, refl, sym, ap, ◌∙◌, subst, arith}
use Rattle.history_lock.specs.Places.{Placed}
use Rattle.plant_core.specs.declared.answer.Answer.{Answer}
use Rattle.plant_core.proofs.CountLemmas.{room_within}
use Rattle.panel_session.specs.declared.session.cut.Cut.TheVariants.{Refused, Unsent}
use Rattle.panel_session.specs.declared.session.Session.{Session}
use Rattle.panel_session.specs.declared.session.phase.Phase.TheVariants.{Tell}
use Rattle.panel_session.specs.Answering.{entry_of}
use Rattle.panel_session.specs.Engine.{WasCut}
use Rattle.panel_session.specs.EngineInside.{IsUnderWay, bytes_ahead}
use Rattle.panel_session.specs.Session.{made_by, with_outbox}
use Rattle.panel_session.specs.Turns.{entries_in}
use Rattle.panel_session.proofs.CutLemmas.{cut_behind, cut_refused, cut_sent, fails_at}
use Rattle.panel_session.proofs.RunLemmas.{way_asked}
use Rattle.panel_session.proofs.TellLemmas.{ahead_acts, ahead_way, awaits_box, has_told, may_spell}
use Rattle.panel_session.proofs.AheadLemmas.{all_ahead, few_ahead, none_ahead, of_session}
use Rattle.panel_session.proofs.session.Session.ask_told.Goals as goal

pub returns-then-not-give_first-clause-cut : goal.returns-then-not-give_first-clause-cut
returns-then-not-give_first-clause-cut g c = λ rest on before is holds.
    let self = c.args.self.now in
    let Was : Session → Type 0 = λ session.
    WasCut g.A.Answerer.Answers g.A.Answerer.TracesPart g.A.Answerer.Refuses g.A.Answerer.sent_first g.O.Outlet.Given g.O.Outlet.Failed Unsent
    on.plant on.panel on.seat on.past on.piece before on.first c.args.answerer.now session c.args.out.now c.give_first.new.out in
    let way = ahead_way self c.give_first.new.self c.args.message on c.give_first.ensures.session in
    subst Was (sym c.stop.ensures)
    (cut_sent (record c.give_first.new.self { phase = Tell c.args.message }) before [] on.way is holds way.stands
    (fails_at c.args.out.now [] (made_by self) (g.met.O.Outlet.given_none c.args.out.now) c.if-not-give_first.ensures.failed))

pub ask-requires-clause-serves : goal.ask-requires-clause-serves
ask-requires-clause-serves g c =
    let on = c.requires.way.1 in
    let request = c.telling-request.result in
    let acts = ahead_acts c.args.self.now c.give_first.new.self c.args.message request on c.give_first.ensures.session c.telling-request.ensures in (
      on.plant,
      g.met.A.Answerer.serves_on on.plant on.first c.args.answerer.now (entries_in on.now.now) on.way.answers on.may.serves,
      acts.2,
      omega (arith, ap (λ (box : Placed Answer). box.places) acts.1),
    )

pub ask-requires-clause-empty : goal.ask-requires-clause-empty
ask-requires-clause-empty g c =
    let on = c.requires.way.1 in
    let request = c.telling-request.result in
    let acts = ahead_acts c.args.self.now c.give_first.new.self c.args.message request on c.give_first.ensures.session c.telling-request.ensures in
    ap (λ (box : Placed Answer). box.items) acts.1

pub returns-in_default-clause-cut : goal.returns-in_default-clause-cut
returns-in_default-clause-cut g c = λ rest on before is holds.
    let self = c.args.self.now in
    let one = c.give_first.new.self in
    let request = c.telling-request.result in
    let sf = g.A.Answerer.sent_first in
    let Was : Session → Type 0 = λ session.
    WasCut g.A.Answerer.Answers g.A.Answerer.TracesPart g.A.Answerer.Refuses sf g.O.Outlet.Given g.O.Outlet.Failed Refused
    on.plant on.panel on.seat on.past on.piece before on.first c.ask.new.self session c.args.out.now c.give_first.new.out in
    let none : c.ask.result ≡ None = search rules in
    let refuses = c.ask.ensures.refuses none in
    let yes = g.met.A.Answerer.refuses_last c.args.answerer.now c.ask.new.self refuses in
    let way = ahead_way self one c.args.message on c.give_first.ensures.session in
    let acts = ahead_acts self one c.args.message request on c.give_first.ensures.session c.telling-request.ensures in
    let Given : List ℕ → Type 0 = λ bytes. g.O.Outlet.Given c.args.out.now bytes c.give_first.new.out in
    subst Was (sym c.stop-in_default.ensures)
    (cut_refused request (record (with_outbox one c.ask.new.out) { phase = Tell c.args.message }) before (made_by self) way is refuses
    (subst Given (all_ahead sf (made_by self) yes) c.if-not-give_first.ensures.given)
    (awaits_box on.plant on.panel (record one { phase = Tell c.args.message }) on.now request c.ask.new.out (c.ask.ensures.kept none) acts.0))

pub send_answers-requires-clause-front : goal.send_answers-requires-clause-front
send_answers-requires-clause-front g c =
    let Few : Session → Type 0 = λ session. length (made_by session) ≤ 2 in
    subst Few (sym c.give_first.ensures.session) (few_ahead g.A.Answerer.sent_first c.args.self.now c.requires.few)

pub send_answers-requires-clause-spelled : goal.send_answers-requires-clause-spelled
send_answers-requires-clause-spelled g c =
    let on = c.requires.way.1 in
    let request = c.telling-request.result in
    may_spell on.plant request (ahead_acts c.args.self.now c.give_first.new.self c.args.message request on c.give_first.ensures.session c.telling-request.ensures).2

pub send_answers-requires-clause-of_session : goal.send_answers-requires-clause-of_session
send_answers-requires-clause-of_session g c =
    let on = c.requires.way.1 in
    let request = c.telling-request.result in
    of_session request on.now c.requires.way.0 (ahead_acts c.args.self.now c.give_first.new.self c.args.message request on c.give_first.ensures.session c.telling-request.ensures).3

pub send_answers-requires-clause-alone : goal.send_answers-requires-clause-alone
send_answers-requires-clause-alone g c = λ yes. ap made_by c.give_first.ensures.session ∙ none_ahead g.A.Answerer.sent_first c.args.self.now yes

pub send_answers-requires-clause-few : goal.send_answers-requires-clause-few
send_answers-requires-clause-few g c =
    let on = c.requires.way.1 in
    let serves = g.met.A.Answerer.serves_on on.plant on.first c.args.answerer.now (entries_in on.now.now) on.way.answers on.may.serves in
    omega (arith, c.ask.ensures.few on.plant serves, room_within on.plant (g.met.A.Answerer.serves_plant on.plant c.args.answerer.now serves))

pub returns-in_err-send_answers-clause-cut : goal.returns-in_err-send_answers-clause-cut
returns-in_err-send_answers-clause-cut g c =
    let is : c.from_residual.result ≡ Err c.in_err-send_answers.field-0.0 = search rules in
    rw is (λ rest on before more holds.
    let answerer = c.args.answerer.now in
    let request = c.telling-request.result in
    let serves = g.met.A.Answerer.serves_on on.plant on.first answerer (entries_in on.now.now) on.way.answers on.may.serves in
    let seated = g.met.A.Answerer.seated_on on.first answerer (entries_in on.now.now) on.seat on.way.answers on.may.seated in
    let told = has_told c.args.self.now c.give_first.new.self c.send_answers.new.self c.args.message request c.ask.new.out on before
    c.requires.reads c.give_first.ensures.session c.telling-request.ensures c.ask.ensures.places (c.ask.ensures.few on.plant serves) c.send_answers.ensures.session more in
    cut_behind c.in_err-send_answers.field-0.0 c.give_first.new.out before (bytes_ahead g.A.Answerer.sent_first (made_by c.args.self.now)) (made_by c.send_answers.new.self) g.met.A.Answerer.answers_more told.way told.asked told.bytes told.alone c.if-not-give_first.ensures.given
    (c.in_err-send_answers.ensures.cut answerer (entry_of on.seat request c.ask.new.out.items) (c.in-Some.ensures.enters on.seat seated) refl told.fits))

pub returns-clause-goes_on : goal.returns-clause-goes_on
returns-clause-goes_on g c = λ rest on before more holds.
    let answerer = c.args.answerer.now in
    let request = c.telling-request.result in
    let ahead = bytes_ahead g.A.Answerer.sent_first (made_by c.args.self.now) in
    let after = c.send_answers.new.self in
    let serves = g.met.A.Answerer.serves_on on.plant on.first answerer (entries_in on.now.now) on.way.answers on.may.serves in
    let seated = g.met.A.Answerer.seated_on on.first answerer (entries_in on.now.now) on.seat on.way.answers on.may.seated in
    let told = has_told c.args.self.now c.give_first.new.self after c.args.message request c.ask.new.out on before
    c.requires.reads c.give_first.ensures.session c.telling-request.ensures c.ask.ensures.places (c.ask.ensures.few on.plant serves) c.send_answers.ensures.session more in
    let one = c.in_ok-send_answers.ensures.traced answerer (entry_of on.seat request c.ask.new.out.items) (c.in-Some.ensures.enters on.seat seated) refl told.fits in
    let way = way_asked g.met.A.Answerer.answers_more told.way told.asked one in
    let More : List ℕ → Type 0 = λ more. IsUnderWay g.A.Answerer.Answers g.A.Answerer.sent_first on.plant on.panel on.seat on.past on.piece on.first c.send_answers.new.answerer after rest told.asked.later more in
    record {
      now = told.asked.later;
      added = ahead ++ made_by after;
      gave = g.met.O.Outlet.given_more c.args.out.now c.give_first.new.out c.send_answers.new.out ahead (made_by after) c.if-not-give_first.ensures.given c.in_ok-send_answers.ensures.sent;
      way = subst More told.bytes way;
    }
