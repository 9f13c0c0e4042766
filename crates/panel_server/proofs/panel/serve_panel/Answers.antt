use Rattle.std.proofs.Common.{inl, rules, sym, subst}
use Rattle.panel_session.specs.declared.session.Session.{Session}
use Rattle.panel_session.specs.SoFar.{nothing_yet}
use Rattle.panel_server.specs.PanelServedInside.{MayBegin}
use Rattle.panel_server.proofs.PartLemmas.{left_full, left_line, left_silent, served_full, served_left}
use Rattle.panel_server.proofs.panel.serve_panel.Goals as goal

pub returns-then-full-clause-served : goal.returns-then-full-clause-served
returns-then-full-clause-served g c = λ plant panel stands.
    let e = c.serve_links-full.ensures in
    let begins = e.begins plant panel (nothing_yet, inl stands) in
    served_full (e.served plant panel (nothing_yet, inl stands)) c.if-full.true begins

pub returns-in_default-clause-served : goal.returns-in_default-clause-served
returns-in_default-clause-served g c = λ plant panel stands.
    let e = c.serve_links-full.ensures in
    let begins = e.begins plant panel (nothing_yet, inl stands) in
    served_left (e.served plant panel (nothing_yet, inl stands)) c.if-full.false (left_full c.serve_links-full.result.0.trace_failed c.in_default.ensures.full) (nothing_yet, inl (c.make_leave.ensures.stands plant panel begins))

pub returns-then-not-done-clause-served : goal.returns-then-not-done-clause-served
returns-then-not-done-clause-served g c = λ plant panel stands.
    let e = c.serve_links-full.ensures in
    let begins = e.begins plant panel (nothing_yet, inl stands) in
    let left = c.make_leave.ensures.stands plant panel begins in
    let Begins : Session → Type 0 = λ session. MayBegin plant panel session in
    served_left (e.served plant panel (nothing_yet, inl stands)) c.if-full.false
    (left_line c.in-Ok.position c.serve_links-full.result.0.trace_failed c.trace_leave.result _ (search rules) (c.in-Ok.ensures.made plant panel begins) (c.trace_leave.ensures.all plant panel left) (c.trace_leave.ensures.part plant panel left) c.trace_leave.ensures.count)
    (subst Begins (sym c.trace_leave.ensures.same) (nothing_yet, inl left))

pub returns-else-not-done-clause-served : goal.returns-else-not-done-clause-served
returns-else-not-done-clause-served g c = λ plant panel stands.
    let e = c.serve_links-full.ensures in
    let begins = e.begins plant panel (nothing_yet, inl stands) in
    served_left (e.served plant panel (nothing_yet, inl stands)) c.if-full.false
    (left_silent c.in-Ok.position c.serve_links-full.result.0.trace_failed (search rules) (c.in-Ok.ensures.made plant panel begins))
    (nothing_yet, inl (c.make_leave.ensures.stands plant panel begins))
