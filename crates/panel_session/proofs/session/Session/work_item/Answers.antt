use Rattle.std.proofs.Common.{rules, ◌≡◌, ℕ, Err, List, [], length, drop, Option, Some, refl, sym, ap, ◌∙◌, subst, arith}
use Rattle.panel_session.specs.AskedInside.{FoundAsks}
use Rattle.panel_session.specs.declared.session.asked.Asked.{Asked}
use Rattle.panel_session.specs.declared.session.asked.Asked.TheVariants.{Sent}
use Rattle.panel_session.specs.declared.session.Session.{Session}
use Rattle.panel_session.specs.declared.session.cut.Cut.{Cut}
use Rattle.panel_session.specs.declared.session.phase.Phase.TheVariants.{Tell}
use Rattle.panel_session.specs.Engine.{WasCut}
use Rattle.panel_session.specs.EngineInside.{HasSent, IsOnItsWay, done_bytes}
use Rattle.panel_session.specs.MovesInside.{took}
use Rattle.panel_session.specs.Session.{made_by}
use Rattle.panel_session.proofs.CutLemmas.{cut_sent}
use Rattle.panel_session.proofs.ReadLemmas.{has_passed, has_told, told_by}
use Rattle.panel_session.proofs.RunLemmas.{way_for}
use Rattle.panel_session.proofs.SpelledLemmas.{done_stands}
use Rattle.panel_session.proofs.WorkLemmas.{telling, way_read, way_read_sent, way_taken}
use Rattle.panel_session.proofs.session.Session.work_item.Goals as goal

pub returns-in_default-clause-goes_on : goal.returns-in_default-clause-goes_on
returns-in_default-clause-goes_on g c = λ on.
    let Found : List ℕ → Option Asked → Type 0 = λ text asked. FoundAsks text c.args.piece.now c.next_asked-used.result.0 asked in
    let after : Session = record c.args.self.now { framer = c.next_asked-used.new.framer } in
    let sent = way_read after c.next_asked-used.result.0 on.may on.way c.requires.reads
    (has_passed c.args.self.now c.next_asked-used.new.framer c.args.piece.now c.next_asked-used.result.0 c.next_asked-used.ensures.stands
    (λ text stands. subst (Found text) c.in_default.is (c.next_asked-used.ensures.finds text stands))) in
    record { now = sent.now; added = []; gave = g.met.O.Outlet.given_none c.args.out.now; way = sent.way }

pub do_item-requires-clause-other : goal.do_item-requires-clause-other
do_item-requires-clause-other g c = c.in_default-asked.not-Sent

pub returns-in_err-do_item-clause-cut : goal.returns-in_err-do_item-clause-cut
returns-in_err-do_item-clause-cut g c =
    let is : c.from_residual.result ≡ Err c.in_err-do_item.field-0.0 = search rules in
    rw is (λ on.
    let self = c.args.self.now in
    let framer_then = c.next_asked-used.new.framer in
    let used = c.next_asked-used.result.0 in
    let asked = c.in-Some.asked in
    let Found : List ℕ → Option Asked → Type 0 = λ text asked. FoundAsks text c.args.piece.now used asked in
    let sent = way_taken framer_then used asked on.may on.way c.requires.reads c.in_default-asked.not-Sent c.next_asked-used.ensures.stands
    (λ text stands. subst (Found text) c.in-Some.is (c.next_asked-used.ensures.finds text stands)) in
    let cut = c.in_err-do_item.ensures.cut in
    let stands = done_stands on.plant on.panel sent.now (took self.sender.names asked (record self { framer = framer_then })) c.do_item.new.self c.do_item.ensures.session sent.way.stands in
    let Was : Cut → Type 0 = λ cut.
    WasCut g.A.Answerer.Answers g.A.Answerer.TracesPart g.A.Answerer.Refuses g.A.Answerer.sent_first g.O.Outlet.Given g.O.Outlet.Failed cut
    on.plant on.panel on.seat on.past on.piece on.more on.first c.args.answerer.now c.do_item.new.self c.args.out.now c.do_item.new.out in
    subst Was (sym cut.0) (cut_sent c.do_item.new.self on.more cut.1.0 sent.way refl sent.earlier stands cut.1.1))

pub returns-in_default-asked-clause-goes_on : goal.returns-in_default-asked-clause-goes_on
returns-in_default-asked-clause-goes_on g c = λ on.
    let self = c.args.self.now in
    let framer_then = c.next_asked-used.new.framer in
    let used = c.next_asked-used.result.0 in
    let asked = c.in-Some.asked in
    let Found : List ℕ → Option Asked → Type 0 = λ text asked. FoundAsks text c.args.piece.now used asked in
    let sent = way_taken framer_then used asked on.may on.way c.requires.reads c.in_default-asked.not-Sent c.next_asked-used.ensures.stands
    (λ text stands. subst (Found text) c.in-Some.is (c.next_asked-used.ensures.finds text stands)) in
    let stands = done_stands on.plant on.panel sent.now (took self.sender.names asked (record self { framer = framer_then })) c.do_item.new.self c.do_item.ensures.session sent.way.stands in
    record { now = sent.now; added = done_bytes asked self; gave = c.in_ok-do_item.ensures.sent; way = way_for c.do_item.new.self sent.way stands }

pub ask_told-requires-clause-way : goal.ask_told-requires-clause-way
ask_told-requires-clause-way g c =
    let on = c.requires.way in
    let framer_then = c.next_asked-used.new.framer in
    let used = c.next_asked-used.result.0 in
    let message = c.in-Sent.message in
    let told = told_by framer_then message c.args.self.now in
    let Found : List ℕ → Option Asked → Type 0 = λ text asked. FoundAsks text c.args.piece.now used asked in
    let is : c.next_asked-used.result.1 ≡ Some (Sent message) = c.in-Some.is ∙ ap (λ (asked : Asked). Some asked) c.in-Sent.is in
    let reads = has_told c.args.self.now framer_then c.args.piece.now used message c.next_asked-used.ensures.stands
    (λ text stands. subst (Found text) is (c.next_asked-used.ensures.finds text stands)) in
    let same : record c.acknowledge.new.self { phase = Tell message } ≡ told = ap (λ (session : Session). record session { phase = Tell message }) c.acknowledge.ensures in
    let Way : Session → Type 0 = λ session. IsOnItsWay g.A.Answerer.IsSeat g.A.Answerer.Serves g.A.Answerer.Answers g.A.Answerer.sent_first session c.args.answerer.now (drop used c.args.piece.now) in
    (drop used c.args.piece.now, subst Way (sym same) (telling told on (way_read_sent told used on.may on.way c.requires.reads reads)))

pub ask_told-requires-clause-reads : goal.ask_told-requires-clause-reads
ask_told-requires-clause-reads g c = ap (λ (session : Session). session.phase) c.acknowledge.ensures ∙ c.requires.reads

pub ask_told-requires-clause-few : goal.ask_told-requires-clause-few
ask_told-requires-clause-few g c = omega (arith, ap (λ (session : Session). length (made_by session)) c.acknowledge.ensures)

pub returns-in_err-ask_told-clause-cut : goal.returns-in_err-ask_told-clause-cut
returns-in_err-ask_told-clause-cut g c =
    let is : c.from_residual-in_err-ask_told.result ≡ Err c.in_err-ask_told.field-0.0 = search rules in
    rw is (λ on.
    let framer_then = c.next_asked-used.new.framer in
    let used = c.next_asked-used.result.0 in
    let message = c.in-Sent.message in
    let told = told_by framer_then message c.args.self.now in
    let Found : List ℕ → Option Asked → Type 0 = λ text asked. FoundAsks text c.args.piece.now used asked in
    let is : c.next_asked-used.result.1 ≡ Some (Sent message) = c.in-Some.is ∙ ap (λ (asked : Asked). Some asked) c.in-Sent.is in
    let reads = has_told c.args.self.now framer_then c.args.piece.now used message c.next_asked-used.ensures.stands
    (λ text stands. subst (Found text) is (c.next_asked-used.ensures.finds text stands)) in
    let same : record c.acknowledge.new.self { phase = Tell message } ≡ told = ap (λ (session : Session). record session { phase = Tell message }) c.acknowledge.ensures in
    let Sent : Session → Type 0 = λ session. HasSent g.A.Answerer.Answers g.A.Answerer.sent_first on.plant on.panel on.seat on.past on.piece on.first c.args.answerer.now session (drop used c.args.piece.now) on.more (made_by session) in
    let sent = subst Sent (sym same) (way_read_sent told used on.may on.way c.requires.reads reads) in
    c.in_err-ask_told.ensures.cut (drop used c.args.piece.now) (telling (record c.acknowledge.new.self { phase = Tell message }) on sent) on.more refl sent.earlier)

pub returns-clause-goes_on : goal.returns-clause-goes_on
returns-clause-goes_on g c = λ on.
    let framer_then = c.next_asked-used.new.framer in
    let used = c.next_asked-used.result.0 in
    let message = c.in-Sent.message in
    let told = told_by framer_then message c.args.self.now in
    let Found : List ℕ → Option Asked → Type 0 = λ text asked. FoundAsks text c.args.piece.now used asked in
    let is : c.next_asked-used.result.1 ≡ Some (Sent message) = c.in-Some.is ∙ ap (λ (asked : Asked). Some asked) c.in-Sent.is in
    let reads = has_told c.args.self.now framer_then c.args.piece.now used message c.next_asked-used.ensures.stands
    (λ text stands. subst (Found text) is (c.next_asked-used.ensures.finds text stands)) in
    let same : record c.acknowledge.new.self { phase = Tell message } ≡ told = ap (λ (session : Session). record session { phase = Tell message }) c.acknowledge.ensures in
    let Sent : Session → Type 0 = λ session. HasSent g.A.Answerer.Answers g.A.Answerer.sent_first on.plant on.panel on.seat on.past on.piece on.first c.args.answerer.now session (drop used c.args.piece.now) on.more (made_by session) in
    let sent = subst Sent (sym same) (way_read_sent told used on.may on.way c.requires.reads reads) in
    c.in_ok-ask_told.ensures.goes_on (drop used c.args.piece.now) (telling (record c.acknowledge.new.self { phase = Tell message }) on sent) on.more refl sent.earlier
