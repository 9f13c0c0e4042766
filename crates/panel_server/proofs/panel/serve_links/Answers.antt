use Rattle.std.proofs.Common.{◌≡◌, ◌+◌, true, false, inl, inr, refl, sym, ap, ◌∙◌, arith}
use Rattle.ctl_net.specs.Acceptor.{link_end}
use Rattle.ctl_net.specs.Net.{acceptor_end}
use Rattle.panel_session.specs.Served.{trace_shows}
use Rattle.panel_server.specs.declared.panel.PanelDone.{PanelDone}
use Rattle.panel_server.specs.PanelServed.{is_full, is_last_end}
use Rattle.panel_server.proofs.OverLemmas.{end_same, goes_on, over_none, over_refused, served_last, served_on, sound_on}
use Rattle.panel_server.proofs.PanelLemmas.{serves_none}
use Rattle.panel_server.proofs.panel.serve_links.Goals as goal

pub loop-link-init : goal.loop-link-init
loop-link-init g c = record {
  served = λ plant panel begins. serves_none plant panel c.args.turns c.args.seat.now
      (acceptor_end panel (g.A.Acceptor.shows c.args.acceptor.now))
      (trace_shows g.K.Sink.written g.K.Sink.faults c.args.trace.now);
  begins = λ plant panel begins. begins;
  may = c.requires.may;
  asked = refl;
  good = refl;
  counted = omega arith;
  few = inl refl;
  link_faults = omega arith;
  limits = omega arith;
  opening = refl;
  trace_name = refl;
}

pub returns-in-NoMore-clause-served : goal.returns-in-NoMore-clause-served
returns-in-NoMore-clause-served g c = λ plant panel begins.
    let i = c.loop-link.invariant in
    let on = i.served plant panel begins in
    let e = c.in-NoMore.ensures in
    over_none on.served on.none_last i.good i.asked _ (end_same panel e.opening (e.sessions.1 ∙ sym e.sessions.0) e.lent e.count e.done_count) e.sessions.1

pub returns-in-Failed-clause-served : goal.returns-in-Failed-clause-served
returns-in-Failed-clause-served g c = λ plant panel begins.
    let i = c.loop-link.invariant in
    let on = i.served plant panel begins in
    let e = c.in-Failed.ensures in
    over_refused on.served on.none_last i.good i.asked _ (end_same panel e.opening e.sessions e.lent e.count e.done_count)

pub returns-in-TraceFault-clause-served : goal.returns-in-TraceFault-clause-served
returns-in-TraceFault-clause-served g c = λ plant panel begins.
    let i = c.loop-link.invariant in
    let e = c.in-One.ensures in
    let gives = c.serve_link-end.ensures.gives_back plant panel (i.begins plant panel begins) in
    let link = link_end (g.A.L.Sink.written c.in-One.link) (g.A.L.Sink.faults c.in-One.link) (g.A.L.Sink.read_half c.in-One.link) in
    let at = λ (acceptor : g.row.A.Denot). acceptor_end panel (g.A.Acceptor.shows acceptor) in
    served_last (i.served plant panel begins) i.good i.asked c.serve_link-end.result c.serve_link-end.new.session c.serve_link-end.new.seat link (at c.next.new.self) (at c.serve_link-end.new.acceptor) (trace_shows g.K.Sink.written g.K.Sink.faults c.serve_link-end.new.trace) e.new gives refl e.opening e.sessions e.lent e.count e.done_count
    (ap is_last_end c.in-TraceFault.is) false (sym (ap is_full c.in-TraceFault.is)) c.count.new.self c.count.ensures.counted

pub returns-in-Full-clause-served : goal.returns-in-Full-clause-served
returns-in-Full-clause-served g c = λ plant panel begins.
    let i = c.loop-link.invariant in
    let e = c.in-One.ensures in
    let gives = c.serve_link-end.ensures.gives_back plant panel (i.begins plant panel begins) in
    let link = link_end (g.A.L.Sink.written c.in-One.link) (g.A.L.Sink.faults c.in-One.link) (g.A.L.Sink.read_half c.in-One.link) in
    let at = λ (acceptor : g.row.A.Denot). acceptor_end panel (g.A.Acceptor.shows acceptor) in
    served_last (i.served plant panel begins) i.good i.asked c.serve_link-end.result c.serve_link-end.new.session c.serve_link-end.new.seat link (at c.next.new.self) (at c.serve_link-end.new.acceptor) (trace_shows g.K.Sink.written g.K.Sink.faults c.serve_link-end.new.trace) e.new gives refl e.opening e.sessions e.lent e.count e.done_count
    (ap is_last_end c.in-Full.is) true (sym (ap is_full c.in-Full.is)) c.count.new.self c.count.ensures.counted

pub loop-link-preserved : goal.loop-link-preserved
loop-link-preserved g c =
    let i = c.loop-link.invariant in
    let e = c.in-One.ensures in
    let end = c.serve_link-end.result in
    let is = c.count.ensures.counted in
    let more : is_last_end end ≡ false = goes_on end c.in-Ended.is in
    let sessions : c.count.new.self.sessions ≡ c.loop-link.done.sessions + 1 = ap (λ (done : PanelDone). done.sessions) is in
    record {
      served = λ plant panel begins.
          let gives = c.serve_link-end.ensures.gives_back plant panel (i.begins plant panel begins) in
          let link = link_end (g.A.L.Sink.written c.in-One.link) (g.A.L.Sink.faults c.in-One.link) (g.A.L.Sink.read_half c.in-One.link) in
          let at = λ (acceptor : g.row.A.Denot). acceptor_end panel (g.A.Acceptor.shows acceptor) in
          served_on (i.served plant panel begins) i.good i.asked end c.serve_link-end.new.session c.serve_link-end.new.seat link (at c.next.new.self) (at c.serve_link-end.new.acceptor) (trace_shows g.K.Sink.written g.K.Sink.faults c.serve_link-end.new.trace) e.new gives refl e.opening e.sessions e.lent e.count e.done_count more c.count.new.self is;
      begins = λ plant panel begins. c.serve_link-end.ensures.begins plant panel (i.begins plant panel begins);
      may = c.serve_link-end.ensures.may;
      asked = ap (λ (done : PanelDone). done.refused) is ∙ i.asked;
      good = sound_on c.loop-link.done c.count.new.self end is i.good more;
      counted = omega (arith, sessions, i.counted, e.sessions, c.serve_link-end.ensures.sessions);
      few = elim i.few [
        | (inl none) ↦ inr (omega (arith, none, i.counted, e.bound))
        | (inr few) ↦ inr few
      ];
      link_faults = c.count.ensures.link_faults;
      limits = c.count.ensures.limits;
      opening = c.serve_link-end.ensures.opening ∙ e.opening ∙ i.opening;
      trace_name = c.serve_link-end.ensures.trace_name ∙ i.trace_name;
    }
