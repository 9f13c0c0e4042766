use Rattle.std.proofs.Common.{rules, ◌≡◌, Err, [], ◌++◌}
use Rattle.panel_session.proofs.CutLemmas.{cut_later}
use Rattle.panel_session.proofs.WayLemmas.{begins_reading, further, on_its_way}
use Rattle.panel_session.proofs.session.Session.work_turn.Goals as goal

pub work_items-requires-clause-way : goal.work_items-requires-clause-way
work_items-requires-clause-way g c = on_its_way {Answers = g.A.Answerer.Answers} {sf = g.A.Answerer.sent_first} g.met.A.Answerer.answers_none c.requires.may

pub work_items-requires-clause-reads : goal.work_items-requires-clause-reads
work_items-requires-clause-reads g c = begins_reading c.requires.may

pub work_polls-requires-clause-way : goal.work_polls-requires-clause-way
work_polls-requires-clause-way g c =
    let on = on_its_way {Answers = g.A.Answerer.Answers} {sf = g.A.Answerer.sent_first} g.met.A.Answerer.answers_none c.requires.may in
    further on (c.in_ok-work_items.ensures.goes_on on)

pub returns-in_err-work_items-clause-cut : goal.returns-in_err-work_items-clause-cut
returns-in_err-work_items-clause-cut g c =
    let is : c.from_residual.result ≡ Err c.in_err-work_items.field-0.0 = search rules in
    rw is (λ plant panel seat past may.
    c.in_err-work_items.ensures.cut (on_its_way {Answers = g.A.Answerer.Answers} {sf = g.A.Answerer.sent_first} g.met.A.Answerer.answers_none may))

pub returns-in_err-work_polls-clause-cut : goal.returns-in_err-work_polls-clause-cut
returns-in_err-work_polls-clause-cut g c =
    let is : c.from_residual-in_err-work_polls.result ≡ Err c.in_err-work_polls.field-0.0 = search rules in
    rw is (λ plant panel seat past may.
    let on = on_its_way {Answers = g.A.Answerer.Answers} {sf = g.A.Answerer.sent_first} g.met.A.Answerer.answers_none may in
    let come = c.in_ok-work_items.ensures.goes_on on in
    cut_later c.in_err-work_polls.field-0.0 [] come.added g.met.O.Outlet.given_more come.gave (c.in_err-work_polls.ensures.cut (further on come)))

pub returns-in_err-work_polls-clause-same : goal.returns-in_err-work_polls-clause-same
returns-in_err-work_polls-clause-same g c = g.met.A.Answerer.same_more c.args.answerer.now c.work_items.new.answerer c.work_polls.new.answerer c.work_items.ensures.same c.work_polls.ensures.same

pub returns-in_err-work_polls-clause-same_outlet : goal.returns-in_err-work_polls-clause-same_outlet
returns-in_err-work_polls-clause-same_outlet g c = g.met.O.Outlet.same_more c.args.out.now c.work_items.new.out c.work_polls.new.out c.work_items.ensures.same_outlet c.work_polls.ensures.same_outlet

pub returns-clause-same : goal.returns-clause-same
returns-clause-same g c = g.met.A.Answerer.same_more c.args.answerer.now c.work_items.new.answerer c.work_polls.new.answerer c.work_items.ensures.same c.work_polls.ensures.same

pub returns-clause-same_outlet : goal.returns-clause-same_outlet
returns-clause-same_outlet g c = g.met.O.Outlet.same_more c.args.out.now c.work_items.new.out c.work_polls.new.out c.work_items.ensures.same_outlet c.work_polls.ensures.same_outlet

pub returns-clause-turned : goal.returns-clause-turned
returns-clause-turned g c = λ plant panel seat past may.
    let on = on_its_way {Answers = g.A.Answerer.Answers} {sf = g.A.Answerer.sent_first} g.met.A.Answerer.answers_none may in
    let come = c.in_ok-work_items.ensures.goes_on on in
    let ended = c.in_ok-work_polls.ensures.ends (further on come) in (
      come.added ++ ended.0,
      g.met.O.Outlet.given_more c.args.out.now c.work_items.new.out c.work_polls.new.out come.added ended.0 come.gave ended.1,
      ended.2,
    )
