use Rattle.std.proofs.Common.{◌≡◌, [], ◌++◌, List, ℕ, Err, sym, ap, ◌∙◌, subst, rules}
use Rattle.panel_session.specs.EngineInside.{done_bytes}
use Rattle.panel_session.specs.Engine.{FailsIn}
use Rattle.panel_session.specs.MovesInside.{took}
use Rattle.panel_session.specs.NamesLeftInside.{NamesNone}
use Rattle.panel_session.specs.Session.{made_by}
use Rattle.panel_session.specs.WorkInside.{left_bytes, spelled_all}
use Rattle.panel_session.proofs.ReadLemmas.{left_is_page, output_is, reads_or_left, spelled_is, spelled_plain}
use Rattle.panel_session.proofs.SpelledLemmas.{done_spelled, is_done, spelled_bytes}
use Rattle.panel_session.proofs.session.Session.do_item.Goals as goal

pub returns-then-not-take-clause-session : goal.returns-then-not-take-clause-session
returns-then-not-take-clause-session g c =
    let self = c.args.self.now in
    let after = c.take.new.self in
    let phase : after.phase ≡ self.phase = c.take.ensures.quiet (search rules) in
    let plain = spelled_plain after (subst NamesNone (sym (phase ∙ c.requires.reads)) tt) in
    is_done (took self.sender.names c.args.asked self) after
    (sym plain ∙ ap spelled_all c.take.ensures.session ∙ spelled_is c.args.asked self after.sender after.phase c.requires.reads c.take.ensures.to)

pub returns-then-not-take-clause-reads : goal.returns-then-not-take-clause-reads
returns-then-not-take-clause-reads g c = c.take.ensures.quiet (search rules) ∙ c.requires.reads

pub returns-then-not-take-clause-sent : goal.returns-then-not-take-clause-sent
returns-then-not-take-clause-sent g c =
    let Given : List ℕ → Type 0 = λ bytes. g.O.Outlet.Given c.args.out.now bytes c.args.out.now in
    let none : done_bytes c.args.asked c.args.self.now ≡ [] = c.take.ensures.none (search rules) in
    subst Given (sym none) (g.met.O.Outlet.given_none c.args.out.now)

pub send_all-requires-clause-left : goal.send_all-requires-clause-left
send_all-requires-clause-left g c =
    reads_or_left c.args.asked c.args.self.now c.take.new.self.sender c.take.new.self.phase c.requires.reads c.requires.other c.take.ensures.to

pub send_all-requires-clause-pages : goal.send_all-requires-clause-pages
send_all-requires-clause-pages g c =
    left_is_page c.args.asked c.args.self.now c.take.new.self.sender c.take.new.self.phase c.requires.reads c.requires.other c.take.ensures.to

pub returns-clause-session : goal.returns-clause-session
returns-clause-session g c =
    let self = c.args.self.now in
    let taken = c.take.new.self in
    let spelled = ap spelled_all c.take.ensures.session ∙ spelled_is c.args.asked self taken.sender taken.phase c.requires.reads c.take.ensures.to in
    done_spelled taken (took self.sender.names c.args.asked self) c.send_all.new.self spelled c.send_all.ensures.session

pub returns-clause-sent : goal.returns-clause-sent
returns-clause-sent g c =
    let self = c.args.self.now in
    let taken = c.take.new.self in
    let left = reads_or_left c.args.asked self taken.sender taken.phase c.requires.reads c.requires.other c.take.ensures.to in
    let spelled = ap spelled_all c.take.ensures.session ∙ spelled_is c.args.asked self taken.sender taken.phase c.requires.reads c.take.ensures.to in
    let bytes : made_by taken ++ left_bytes taken ≡ done_bytes c.args.asked self =
    sym (spelled_bytes taken left) ∙ ap made_by spelled ∙ output_is self.sender.names c.args.asked self.sender.output (c.take.ensures.some (search rules)) in
    let Given : List ℕ → Type 0 = λ bytes. g.O.Outlet.Given c.args.out.now bytes c.send_all.new.out in
    subst Given bytes c.in_ok-send_all.ensures.sent

pub returns-in_err-send_all-clause-session : goal.returns-in_err-send_all-clause-session
returns-in_err-send_all-clause-session g c =
    let self = c.args.self.now in
    let taken = c.take.new.self in
    let spelled = ap spelled_all c.take.ensures.session ∙ spelled_is c.args.asked self taken.sender taken.phase c.requires.reads c.take.ensures.to in
    done_spelled taken (took self.sender.names c.args.asked self) c.send_all.new.self spelled c.send_all.ensures.session

pub returns-in_err-send_all-clause-cut : goal.returns-in_err-send_all-clause-cut
returns-in_err-send_all-clause-cut g c =
    let is : c.from_residual.result ≡ Err c.in_err-send_all.field-0.0 = search rules in
    let self = c.args.self.now in
    let taken = c.take.new.self in
    let left = reads_or_left c.args.asked self taken.sender taken.phase c.requires.reads c.requires.other c.take.ensures.to in
    let spelled = ap spelled_all c.take.ensures.session ∙ spelled_is c.args.asked self taken.sender taken.phase c.requires.reads c.take.ensures.to in
    let bytes : made_by taken ++ left_bytes taken ≡ done_bytes c.args.asked self =
    sym (spelled_bytes taken left) ∙ ap made_by spelled ∙ output_is self.sender.names c.args.asked self.sender.output (c.take.ensures.some (search rules)) in
    let cut = c.in_err-send_all.ensures.cut in
    let Fails : List ℕ → Type 0 = λ bytes. FailsIn g.O.Outlet.Given g.O.Outlet.Failed bytes cut.1.0 c.args.out.now c.send_all.new.out in
    rw is (cut.0, (cut.1.0, subst Fails bytes cut.1.1))
