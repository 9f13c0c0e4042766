use Rattle.std.proofs.Common.{rules, ◌≡◌, refl, sym, ap, ◌∙◌, subst}
use Rattle.panel_session.specs.ServedInside.{HasServed, Outside, WasStopped, ended_by, outside}
use Rattle.panel_session.proofs.ServingLemmas.{begun_at, counts_of, may_turn, same_outside, served_of, stopped_of}
use Rattle.panel_session.proofs.serve.serve_turn.Goals as goal

pub work_turn-requires : goal.work_turn-requires
work_turn-requires g c =
    let m = c.requires.may in
    record {
      plant = m.plant;
      panel = m.panel;
      seat = c.args.seat.now.number;
      past = m.past;
      may = may_turn m.plant m.panel c.args.session.now m.past c.args.piece.now _ m refl refl m.stands m.begins m.may;
    }

pub returns-in-Ok-clause-served : goal.returns-in-Ok-clause-served
returns-in-Ok-clause-served g c = λ plant panel past stands begins may keeps.
    let m = c.requires.may in
    let seat : c.seat-1.given.0 ≡ c.work_turn.new.answerer.seat.now = search rules in
    let link : c.link-1.given.0 ≡ c.work_turn.new.out.link.now = search rules in
    let trace : c.trace-1.given.0 ≡ c.work_turn.new.answerer.trace.now = search rules in
    let ran = c.in-Ok.ensures.turned plant panel c.args.seat.now.number past (may_turn plant panel c.args.session.now past c.args.piece.now _ m refl refl stands begins may) in
    let Served : Outside → Type 0 = λ after. HasServed plant panel past c.args.piece.now c.work_turn.new.self (outside c.args.seat.now (g.L.Sink.written c.args.link.now) (g.K.Sink.written c.args.trace.now)) after in
    subst Served (sym (same_outside seat (ap g.L.Sink.written link) (ap g.K.Sink.written trace)))
    (served_of (begun_at plant panel c.args.session.now past c.args.piece.now m stands) begins keeps ran.1 ran.2)

pub returns-in-Err-clause-stops : goal.returns-in-Err-clause-stops
returns-in-Err-clause-stops g c = λ plant panel past stands begins may keeps.
    let m = c.requires.may in
    let seat : c.seat-1.given.0 ≡ c.work_turn.new.answerer.seat.now = search rules in
    let link : c.link-1.given.0 ≡ c.work_turn.new.out.link.now = search rules in
    let trace : c.trace-1.given.0 ≡ c.work_turn.new.answerer.trace.now = search rules in
    let cut = c.in-Err.ensures.cut plant panel c.args.seat.now.number past (may_turn plant panel c.args.session.now past c.args.piece.now _ m refl refl stands begins may) in
    let Stopped : Outside → Type 0 = λ after. WasStopped plant panel (ended_by c.in-Err.cut) past c.args.piece.now c.work_turn.new.self (outside c.args.seat.now (g.L.Sink.written c.args.link.now) (g.K.Sink.written c.args.trace.now)) after in
    rw c.ended_by.ensures (subst Stopped (sym (same_outside seat (ap g.L.Sink.written link) (ap g.K.Sink.written trace)))
    (stopped_of c.in-Err.cut (begun_at plant panel c.args.session.now past c.args.piece.now m stands) begins keeps cut))

pub returns-in-Ok-clause-link_count : goal.returns-in-Ok-clause-link_count
returns-in-Ok-clause-link_count g c =
    let m = c.requires.may in
    let link : c.link-1.given.0 ≡ c.work_turn.new.out.link.now = search rules in
    let ran = c.in-Ok.ensures.turned m.plant m.panel c.args.seat.now.number m.past (may_turn m.plant m.panel c.args.session.now m.past c.args.piece.now _ m refl refl m.stands m.begins m.may) in
    ap g.L.Sink.faults link ∙ ran.1.count

pub returns-in-Ok-clause-trace_count : goal.returns-in-Ok-clause-trace_count
returns-in-Ok-clause-trace_count g c =
    let m = c.requires.may in
    let trace : c.trace-1.given.0 ≡ c.work_turn.new.answerer.trace.now = search rules in
    let ran = c.in-Ok.ensures.turned m.plant m.panel c.args.seat.now.number m.past (may_turn m.plant m.panel c.args.session.now m.past c.args.piece.now _ m refl refl m.stands m.begins m.may) in
    ap g.K.Sink.faults trace ∙ ran.2.answers.same.count

pub returns-in-Ok-clause-read_half : goal.returns-in-Ok-clause-read_half
returns-in-Ok-clause-read_half g c =
    let m = c.requires.may in
    let link : c.link-1.given.0 ≡ c.work_turn.new.out.link.now = search rules in
    let ran = c.in-Ok.ensures.turned m.plant m.panel c.args.seat.now.number m.past (may_turn m.plant m.panel c.args.session.now m.past c.args.piece.now _ m refl refl m.stands m.begins m.may) in
    ap g.L.Sink.read_half link ∙ ran.1.half_is

pub returns-in-Ok-clause-link_name : goal.returns-in-Ok-clause-link_name
returns-in-Ok-clause-link_name g c =
    let m = c.requires.may in
    let link : c.link-1.given.0 ≡ c.work_turn.new.out.link.now = search rules in
    let ran = c.in-Ok.ensures.turned m.plant m.panel c.args.seat.now.number m.past (may_turn m.plant m.panel c.args.session.now m.past c.args.piece.now _ m refl refl m.stands m.begins m.may) in
    ap g.L.Sink.name link ∙ ran.1.name_is

pub returns-in-Ok-clause-trace_name : goal.returns-in-Ok-clause-trace_name
returns-in-Ok-clause-trace_name g c =
    let m = c.requires.may in
    let trace : c.trace-1.given.0 ≡ c.work_turn.new.answerer.trace.now = search rules in
    let ran = c.in-Ok.ensures.turned m.plant m.panel c.args.seat.now.number m.past (may_turn m.plant m.panel c.args.session.now m.past c.args.piece.now _ m refl refl m.stands m.begins m.may) in
    ap g.K.Sink.name trace ∙ ran.2.answers.same.trace_name

pub returns-in-Err-clause-link_cause : goal.returns-in-Err-clause-link_cause
returns-in-Err-clause-link_cause g c =
    let m = c.requires.may in
    let link : c.link-1.given.0 ≡ c.work_turn.new.out.link.now = search rules in
    let counts = counts_of c.in-Err.cut (c.in-Err.ensures.cut m.plant m.panel c.args.seat.now.number m.past (may_turn m.plant m.panel c.args.session.now m.past c.args.piece.now _ m refl refl m.stands m.begins m.may)) in
    rw c.ended_by.ensures (ap g.L.Sink.faults link ∙ counts.link_count)

pub returns-in-Err-clause-trace_cause : goal.returns-in-Err-clause-trace_cause
returns-in-Err-clause-trace_cause g c =
    let m = c.requires.may in
    let trace : c.trace-1.given.0 ≡ c.work_turn.new.answerer.trace.now = search rules in
    let counts = counts_of c.in-Err.cut (c.in-Err.ensures.cut m.plant m.panel c.args.seat.now.number m.past (may_turn m.plant m.panel c.args.session.now m.past c.args.piece.now _ m refl refl m.stands m.begins m.may)) in
    rw c.ended_by.ensures (ap g.K.Sink.faults trace ∙ counts.trace_count)

pub returns-in-Err-clause-read_half : goal.returns-in-Err-clause-read_half
returns-in-Err-clause-read_half g c =
    let m = c.requires.may in
    let link : c.link-1.given.0 ≡ c.work_turn.new.out.link.now = search rules in
    let counts = counts_of c.in-Err.cut (c.in-Err.ensures.cut m.plant m.panel c.args.seat.now.number m.past (may_turn m.plant m.panel c.args.session.now m.past c.args.piece.now _ m refl refl m.stands m.begins m.may)) in
    ap g.L.Sink.read_half link ∙ counts.read_half

pub returns-in-Err-clause-link_name : goal.returns-in-Err-clause-link_name
returns-in-Err-clause-link_name g c =
    let m = c.requires.may in
    let link : c.link-1.given.0 ≡ c.work_turn.new.out.link.now = search rules in
    let counts = counts_of c.in-Err.cut (c.in-Err.ensures.cut m.plant m.panel c.args.seat.now.number m.past (may_turn m.plant m.panel c.args.session.now m.past c.args.piece.now _ m refl refl m.stands m.begins m.may)) in
    ap g.L.Sink.name link ∙ counts.link_name

pub returns-in-Err-clause-trace_name : goal.returns-in-Err-clause-trace_name
returns-in-Err-clause-trace_name g c =
    let m = c.requires.may in
    let trace : c.trace-1.given.0 ≡ c.work_turn.new.answerer.trace.now = search rules in
    let counts = counts_of c.in-Err.cut (c.in-Err.ensures.cut m.plant m.panel c.args.seat.now.number m.past (may_turn m.plant m.panel c.args.session.now m.past c.args.piece.now _ m refl refl m.stands m.begins m.may)) in
    ap g.K.Sink.name trace ∙ counts.trace_name
