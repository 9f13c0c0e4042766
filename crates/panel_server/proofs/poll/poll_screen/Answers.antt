use Rattle.std.proofs.Common.{◌≡◌, ℕ, ◌<◌, List, length, rules, sym, ap, ◌∙◌, subst, refl}
use Rattle.ctl_io.specs.Sink.{AppendsPart, appended}
use Rattle.history_lock.specs.History.{IsLegal}
use Rattle.plant_core.specs.State.{State, Fits as Takes}
use Rattle.plant_core.specs.Step.{step}
use Rattle.plant_core.specs.declared.answer.Answer.{Answer}
use Rattle.plant_core.specs.declared.request.Request.TheVariants.{DisplayPoll}
use Rattle.panel_session.specs.Reply.{trace_line}
use Rattle.panel_server.specs.DrivenInside.{TellsLamps, packet_bytes, polled_by}
use Rattle.panel_server.proofs.AnswerLemmas.{answer_few, answer_lamps, answer_sayable, packet_bytes_some, told_is}
use Rattle.panel_server.proofs.poll.poll_screen.Goals as goal

pub trace_poll-requires-clause-sayable : goal.trace_poll-requires-clause-sayable
trace_poll-requires-clause-sayable g c κs within =
    let is = told_is c.args.plant.now c.args.seat.now c.call.new.seat c.args.screen c.args.refresh c.call.new.out.items c.items-told.result.now c.items-told.ensures c.requires.plant c.requires.seat.first c.in-Ok.ensures.legal c.in-Ok.ensures.seen in
    answer_sayable c.args.plant.now c.args.screen c.args.refresh c.items-told.result.now is

pub trace_poll-requires-clause-few : goal.trace_poll-requires-clause-few
trace_poll-requires-clause-few g c κs within =
    let is = told_is c.args.plant.now c.args.seat.now c.call.new.seat c.args.screen c.args.refresh c.call.new.out.items c.items-told.result.now c.items-told.ensures c.requires.plant c.requires.seat.first c.in-Ok.ensures.legal c.in-Ok.ensures.seen in
    answer_few c.args.plant.now c.args.screen c.args.refresh c.items-told.result.now is

pub trace_poll-requires-clause-lamps : goal.trace_poll-requires-clause-lamps
trace_poll-requires-clause-lamps g c κs within =
    let is = told_is c.args.plant.now c.args.seat.now c.call.new.seat c.args.screen c.args.refresh c.call.new.out.items c.items-told.result.now c.items-told.ensures c.requires.plant c.requires.seat.first c.in-Ok.ensures.legal c.in-Ok.ensures.seen in
    answer_lamps c.args.plant.now c.args.screen c.args.refresh c.items-told.result.now is

pub spell-requires-clause-lamps : goal.spell-requires-clause-lamps
spell-requires-clause-lamps g c =
    let is = told_is c.args.plant.now c.args.seat.now c.call.new.seat c.args.screen c.args.refresh c.call.new.out.items c.items-told.result.now c.items-told.ensures c.requires.plant c.requires.seat.first c.in-Ok.ensures.legal c.in-Ok.ensures.seen in
    answer_lamps c.args.plant.now c.args.screen c.args.refresh c.items-told.result.now is

pub spell-requires-clause-few : goal.spell-requires-clause-few
spell-requires-clause-few g c =
    let is = told_is c.args.plant.now c.args.seat.now c.call.new.seat c.args.screen c.args.refresh c.call.new.out.items c.items-told.result.now c.items-told.ensures c.requires.plant c.requires.seat.first c.in-Ok.ensures.legal c.in-Ok.ensures.seen in
    answer_few c.args.plant.now c.args.screen c.args.refresh c.items-told.result.now is

pub tell-requires-clause-some : goal.tell-requires-clause-some
tell-requires-clause-some g c κs within = λ lit.
    let Some : List ℕ → Type 0 = λ bytes. 0 < length bytes in
    let same : c.deref-2.result.now ≡ packet_bytes c.args.plant.now c.args.screen c.items-told.result.now = search rules in
    subst Some (sym same) (packet_bytes_some c.args.plant.now c.args.screen c.items-told.result.now lit)

pub returns-then-not-trace_poll-clause-ends : goal.returns-then-not-trace_poll-clause-ends
returns-then-not-trace_poll-clause-ends g c =
    let Legal : State → Type 0 = λ first. IsLegal step Takes first c.call.new.seat.seen in
    let Part : List Answer → Type 0 = λ answers. AppendsPart (trace_line c.args.plant.now c.in-Ok.position (DisplayPoll c.args.screen c.args.refresh) answers) (g.K.Sink.written c.args.trace.now)
    (g.K.Sink.written c.trace_poll.new.trace) in
    record {
      answers = c.call.new.out.items;
      number = c.in-Ok.position;
      given = record {
        numbered = c.in-Ok.ensures.number;
        legal = subst Legal c.requires.seat.first c.in-Ok.ensures.legal;
        sees = c.in-Ok.ensures.seen;
        own = c.in-Ok.ensures.own;
        rest = c.in-Ok.ensures.rest;
      };
      part = subst Part c.items-told.ensures c.if-not-trace_poll.ensures.part;
    }

pub returns-in_default-clause-ends : goal.returns-in_default-clause-ends
returns-in_default-clause-ends g c = (c.in_default.ensures.full, refl)

pub returns-clause-polled : goal.returns-clause-polled
returns-clause-polled g c =
    let seat = c.args.seat.now in
    let Legal : State → Type 0 = λ first. IsLegal step Takes first c.call.new.seat.seen in
    let Tells : List Answer → Type 0 = λ answers. TellsLamps g.P.DisplayPort.was_sent g.P.DisplayPort.faults c.args.plant.now (polled_by seat.number c.args.screen c.args.refresh answers) c.tell.result
    c.args.port.now c.tell.new.port in
    record {
      answers = c.call.new.out.items;
      number = c.in-Ok.position;
      given = record {
        numbered = c.in-Ok.ensures.number;
        legal = subst Legal c.requires.seat.first c.in-Ok.ensures.legal;
        sees = c.in-Ok.ensures.seen;
        own = c.in-Ok.ensures.own;
        rest = c.in-Ok.ensures.rest;
      };
      line = c.if-not-trace_poll.ensures.all
          ∙ ap (λ (answers : List Answer). appended (g.K.Sink.written c.args.trace.now) (trace_line c.args.plant.now c.in-Ok.position (DisplayPoll c.args.screen c.args.refresh) answers)) c.items-told.ensures;
      trace_count = c.if-not-trace_poll.ensures.count;
      told = subst Tells c.items-told.ensures (c.tell.ensures.told c.args.plant.now seat.number c.args.screen c.args.refresh (search rules));
    }
