use Rattle.std.proofs.Common.{◌≡◌, ℕ, sym, ap, ◌∙◌, subst, arith}
use Rattle.history_lock.specs.Places.{Placed}
use Rattle.plant_core.specs.Answer.{room_of}
use Rattle.plant_core.specs.State.{State, start, FitsPlant, Fits as Takes}
use Rattle.plant_core.specs.declared.answer.Answer.{Answer}
use Rattle.plant_core.specs.declared.request.Request.TheVariants.{Leave}
use Rattle.panel_session.specs.SoFar.{nothing_yet}
use Rattle.panel_server.proofs.LeaveLemmas.{Gave, begins_anew, gave_leave, gave_nothing, leave_fits, one_plant, stands_box, stands_empty, stands_places}
use Rattle.panel_server.proofs.leave.make_leave.Goals as goal

pub call-requires-clause-fits : goal.call-requires-clause-fits
call-requires-clause-fits g c =
    let m = c.requires.may in
    let stands = begins_anew m.plant m.panel c.args.session.now c.reset.new.self m.begins c.reset.ensures.stood c.reset.ensures.awaited in
    let Fit : ℕ → Type 0 = λ panel. FitsPlant m.plant (Leave panel) in
    let fit : Fit c.panel.result = subst Fit (sym (c.panel.ensures.stood m.plant m.panel nothing_yet stands)) (leave_fits m.plant m.panel c.reset.new.self nothing_yet stands) in
    let At : State → Type 0 = λ first. Takes first (Leave c.panel.result) in
    subst At (sym m.first) fit

pub call-requires-clause-empty : goal.call-requires-clause-empty
call-requires-clause-empty g c =
    let m = c.requires.may in
    let stands = begins_anew m.plant m.panel c.args.session.now c.reset.new.self m.begins c.reset.ensures.stood c.reset.ensures.awaited in
    ap (λ (box : Placed Answer). box.items) c.outbox.ensures.now ∙ stands_empty m.plant m.panel c.reset.new.self nothing_yet stands

pub call-requires-clause-places : goal.call-requires-clause-places
call-requires-clause-places g c =
    let m = c.requires.may in
    let stands = begins_anew m.plant m.panel c.args.session.now c.reset.new.self m.begins c.reset.ensures.stood c.reset.ensures.awaited in
    let places = ap (λ (box : Placed Answer). box.places) c.outbox.ensures.now ∙ stands_places m.plant m.panel c.reset.new.self nothing_yet stands in
    omega (arith, places, ap (λ (state : State). room_of state.plant) m.first)

pub returns-clause-made : goal.returns-clause-made
returns-clause-made g c = λ plant panel begins.
    let m = c.requires.may in
    let mine = begins_anew m.plant m.panel c.args.session.now c.reset.new.self m.begins c.reset.ensures.stood c.reset.ensures.awaited in
    let stands = begins_anew plant panel c.args.session.now c.reset.new.self begins c.reset.ensures.stood c.reset.ensures.awaited in
    let first : c.args.seat.now.first ≡ start plant = m.first ∙ ap start (one_plant m.plant plant m.panel panel c.reset.new.self mine stands) in
    let empty = ap (λ (box : Placed Answer). box.items) c.outbox.ensures.now ∙ stands_empty plant panel c.reset.new.self nothing_yet stands in
    let Gives : ℕ → Type 0 = λ panel. Gave c.call.result panel c.args.seat.now c.call.new.seat c.outbox.result.now c.call.new.out in
    let e = c.call.ensures in
    let gave : Gives panel = subst Gives (c.panel.ensures.stood plant panel nothing_yet stands) (record { legal = e.legal; number = e.number; seen = e.seen; own = e.own; rest = e.rest; kept = e.kept }) in
    let nothing = gave_nothing c.call.result plant panel c.args.seat.now c.call.new.seat c.outbox.result.now c.call.new.out first gave empty in
    gave_leave c.call.result plant panel c.args.seat.now c.call.new.seat c.outbox.result.now c.call.new.out first gave nothing

pub returns-clause-stands : goal.returns-clause-stands
returns-clause-stands g c = λ plant panel begins.
    let m = c.requires.may in
    let mine = begins_anew m.plant m.panel c.args.session.now c.reset.new.self m.begins c.reset.ensures.stood c.reset.ensures.awaited in
    let stands = begins_anew plant panel c.args.session.now c.reset.new.self begins c.reset.ensures.stood c.reset.ensures.awaited in
    let first : c.args.seat.now.first ≡ start plant = m.first ∙ ap start (one_plant m.plant plant m.panel panel c.reset.new.self mine stands) in
    let empty = ap (λ (box : Placed Answer). box.items) c.outbox.ensures.now ∙ stands_empty plant panel c.reset.new.self nothing_yet stands in
    let Gives : ℕ → Type 0 = λ panel. Gave c.call.result panel c.args.seat.now c.call.new.seat c.outbox.result.now c.call.new.out in
    let e = c.call.ensures in
    let gave : Gives panel = subst Gives (c.panel.ensures.stood plant panel nothing_yet stands) (record { legal = e.legal; number = e.number; seen = e.seen; own = e.own; rest = e.rest; kept = e.kept }) in
    let nothing = gave_nothing c.call.result plant panel c.args.seat.now c.call.new.seat c.outbox.result.now c.call.new.out first gave empty in
    stands_box plant panel c.reset.new.self nothing_yet c.call.new.out stands nothing (e.places ∙ ap (λ (box : Placed Answer). box.places) c.outbox.ensures.now)
