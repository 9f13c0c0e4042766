use Rattle.std.proofs.Common.{rules, ◌≡◌, ℕ, Err, List, [], length, eqb-true, sym, ◌∙◌, subst}
use Rattle.std.proofs.lemmas.List.{nil_from_length, take_rest}
use Rattle.panel_session.specs.EngineInside.{GoesTo}
use Rattle.panel_session.proofs.CutLemmas.{cut_later}
use Rattle.panel_session.proofs.WayLemmas.{further, goes_both, more_none}
use Rattle.panel_session.proofs.session.Session.work_items.Goals as goal

pub loop-rest-init : goal.loop-rest-init
loop-rest-init g c = record {
  way = λ on. record { now = on.now; added = []; gave = g.met.O.Outlet.given_none c.args.out.now; way = more_none on.way };
  reads = c.requires.reads;
  same = g.met.A.Answerer.same_none c.args.answerer.now;
  same_outlet = g.met.O.Outlet.same_none c.args.out.now;
}

pub work_item-requires-clause-way : goal.work_item-requires-clause-way
work_item-requires-clause-way g c = further c.requires.way (c.loop-rest.invariant.way c.requires.way)

pub loop-rest-preserved : goal.loop-rest-preserved
loop-rest-preserved g c = record {
  way = λ on.
      let come = c.loop-rest.invariant.way on in
      let used = c.in_ok-used.used in
      let Rest : List ℕ → Type 0 = λ rest.
      GoesTo g.A.Answerer.Answers g.A.Answerer.sent_first g.O.Outlet.Given on.plant on.panel on.seat on.past on.piece on.more on.first c.work_item.new.answerer c.work_item.new.self rest c.args.out.now c.work_item.new.out in
      subst Rest (sym (take_rest c.loop-rest.rest.now used))
      (goes_both on.more g.met.O.Outlet.given_more come (c.in_ok-used.ensures.goes_on (further on come)));
  reads = c.in_ok-used.ensures.reads;
  same = g.met.A.Answerer.same_more c.args.answerer.now c.loop-rest.answerer c.work_item.new.answerer c.loop-rest.invariant.same c.work_item.ensures.same;
  same_outlet = g.met.O.Outlet.same_more c.args.out.now c.loop-rest.out c.work_item.new.out c.loop-rest.invariant.same_outlet c.work_item.ensures.same_outlet;
}

pub returns-in_err-used-clause-cut : goal.returns-in_err-used-clause-cut
returns-in_err-used-clause-cut g c =
    let is : c.from_residual.result ≡ Err c.in_err-used.field-0.0 = search rules in
    rw is (λ on.
    let come = c.loop-rest.invariant.way on in
    cut_later c.in_err-used.field-0.0 on.more come.added g.met.O.Outlet.given_more come.gave (c.in_err-used.ensures.cut (further on come)))

pub returns-in_err-used-clause-same : goal.returns-in_err-used-clause-same
returns-in_err-used-clause-same g c = g.met.A.Answerer.same_more c.args.answerer.now c.loop-rest.answerer c.work_item.new.answerer c.loop-rest.invariant.same c.work_item.ensures.same

pub returns-in_err-used-clause-same_outlet : goal.returns-in_err-used-clause-same_outlet
returns-in_err-used-clause-same_outlet g c = g.met.O.Outlet.same_more c.args.out.now c.loop-rest.out c.work_item.new.out c.loop-rest.invariant.same_outlet c.work_item.ensures.same_outlet

pub returns-clause-goes_on : goal.returns-clause-goes_on
returns-clause-goes_on g c = λ on.
    let come = c.loop-rest.invariant.way on in
    let none = nil_from_length c.loop-rest.rest.now (eqb-true (length c.loop-rest.rest.now) 0 (sym c.is_empty.ensures ∙ c.loop-rest-test.false)) in
    let Left : List ℕ → Type 0 = λ rest.
    GoesTo g.A.Answerer.Answers g.A.Answerer.sent_first g.O.Outlet.Given on.plant on.panel on.seat on.past on.piece on.more on.first c.loop-rest.answerer c.loop-rest.self rest c.args.out.now c.loop-rest.out in
    subst Left none come
