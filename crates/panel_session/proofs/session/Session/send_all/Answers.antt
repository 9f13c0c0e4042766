use Rattle.std.proofs.Common.{◌≡◌, true, false, Bool, [], ◌++◌, IfSome, List, ℕ, refl, sym, ap, ◌∙◌, subst}
use Rattle.std.proofs.lemmas.List.{append-nil, append_assoc}
use Rattle.std.specs.Bool.{OnFalse, OnTrue}
use Rattle.panel_session.specs.Engine.{FailsIn}
use Rattle.panel_session.specs.NamePagesInside.{IsNamePage, frames_left}
use Rattle.panel_session.specs.NamesLeftInside.{left_at}
use Rattle.panel_session.specs.Text.{bytes_in}
use Rattle.panel_session.specs.Session.{made_by}
use Rattle.panel_session.specs.WorkInside.{left_bytes}
use Rattle.panel_session.specs.declared.session.phase.Phase.{Phase}
use Rattle.panel_session.proofs.CutLemmas.{fails_first, part_given}
use Rattle.panel_session.proofs.SpelledLemmas.{left_split, names_spelled, next_is_page, numbers_fewer, reads_then, spelled_first, spelled_last, spelled_on}
use Rattle.panel_session.proofs.session.Session.send_all.Goals as goal

pub loop-self-init : goal.loop-self-init
loop-self-init g c =
    let made = made_by c.args.self.now in
    let same : c.as_slice.result.now ≡ made ++ [] = c.as_slice.ensures ∙ sym (append-nil made) in
    let Given : List ℕ → Type 0 = λ bytes. OnTrue c.give-whole.result (g.O.Outlet.Given c.args.out.now bytes c.give-whole.new.self) in
    let Failed : List ℕ → Type 0 = λ bytes. OnFalse c.give-whole.result (g.O.Outlet.Failed c.args.out.now bytes c.give-whole.new.self) in
    record {
      left = c.requires.left;
      pages = c.requires.pages;
      spelled = spelled_first c.args.self.now;
      same = c.give-whole.ensures.same;
      given = (
        [],
        refl,
        subst Given same c.give-whole.ensures.given,
        fails_first g.O.Outlet.Given g.O.Outlet.Failed c.args.out.now c.give-whole.new.self c.give-whole.result (made ++ []) (g.met.O.Outlet.given_none c.args.out.now) (subst Failed same c.give-whole.ensures.failed),
      );
    }

pub loop-self-preserved : goal.loop-self-preserved
loop-self-preserved g c =
    let session = c.loop-self.self in
    let after = c.name_on.new.self in
    let page = c.in-Name.page in
    let IsPage : Phase → Type 0 = λ phase. IfSome (left_at phase) IsNamePage in
    let size = (subst IsPage c.in-Name.is c.loop-self.invariant.pages).size in
    let on = c.name_on.ensures in
    let done = c.loop-self.invariant.given in
    let made = made_by c.args.self.now in
    let give = c.give_if-whole.ensures in
    let Given : List ℕ → Type 0 = λ bytes. c.loop-self.whole ≡ true → c.give_if-whole.result ≡ true → g.O.Outlet.Given c.loop-self.out bytes c.give_if-whole.new.out in
    let Failed : List ℕ → Type 0 = λ bytes. c.loop-self.whole ≡ true → c.give_if-whole.result ≡ false → g.O.Outlet.Failed c.loop-self.out bytes c.give_if-whole.new.out in
    let then = part_given g.O.Outlet.Given g.O.Outlet.Failed c.args.out.now c.loop-self.out c.give_if-whole.new.out c.loop-self.whole c.give_if-whole.result (made ++ done.0) (made_by after) g.met.O.Outlet.given_more done.2 done.3
    (subst Given c.as_slice-in-Name.ensures give.given) (subst Failed c.as_slice-in-Name.ensures give.failed) give.behind give.untouched in
    let bytes = append_assoc made done.0 (made_by after) in
    let GivenThen : List ℕ → Type 0 = λ bytes. OnTrue c.give_if-whole.result (g.O.Outlet.Given c.args.out.now bytes c.give_if-whole.new.out) in
    let FailedThen : List ℕ → Type 0 = λ bytes. OnFalse c.give_if-whole.result ((given : List ℕ) × FailsIn g.O.Outlet.Given g.O.Outlet.Failed bytes given c.args.out.now c.give_if-whole.new.out) in
    record {
      left = on.left;
      pages = next_is_page session after page c.in-Name.is size on;
      spelled = spelled_on c.args.self.now session after c.loop-self.invariant.spelled (names_spelled session after page c.in-Name.is size on);
      same = g.met.O.Outlet.same_more c.args.out.now c.loop-self.out c.give_if-whole.new.out c.loop-self.invariant.same give.same;
      given = (
        done.0 ++ made_by after,
        done.1 ∙ ap (λ (bytes : List ℕ). done.0 ++ bytes) (left_split session after page c.in-Name.is size on) ∙ sym (append_assoc done.0 (made_by after) (left_bytes after)),
        subst GivenThen bytes then.0,
        subst FailedThen bytes then.1,
      );
    }

pub loop-self-smaller : goal.loop-self-smaller
loop-self-smaller g c =
    let IsPage : Phase → Type 0 = λ phase. IfSome (left_at phase) IsNamePage in
    let is_page = subst IsPage c.in-Name.is c.loop-self.invariant.pages in
    numbers_fewer c.loop-self.self c.name_on.new.self c.in-Name.page c.in-Name.is is_page.size c.name_on.ensures is_page.first

pub returns-then-whole : goal.returns-then-whole
returns-then-whole g c =
    let session = c.loop-self.self in
    let reads = reads_then session.phase c.loop-self.invariant.left c.in_default.not-Name in
    let done = c.loop-self.invariant.given in
    let made = made_by c.args.self.now in
    let left : left_bytes c.args.self.now ≡ done.0 = done.1 ∙ ap (λ (phase : Phase). done.0 ++ bytes_in (frames_left session.sender.names (left_at phase))) reads ∙ append-nil done.0 in
    let Given : List ℕ → Type 0 = λ bytes. g.O.Outlet.Given c.args.out.now (made ++ bytes) c.loop-self.out in
    let Whole : Bool → Type 0 = λ whole. OnTrue whole (Given done.0) in
    record {
      same = c.loop-self.invariant.same;
      session = spelled_last c.args.self.now session reads c.loop-self.invariant.spelled;
      reads = reads;
      sent = subst Given (sym left) (subst Whole c.if-whole.true done.2);
      cut = tt;
    }

pub returns-else-whole : goal.returns-else-whole
returns-else-whole g c =
    let session = c.loop-self.self in
    let reads = reads_then session.phase c.loop-self.invariant.left c.in_default.not-Name in
    let done = c.loop-self.invariant.given in
    let made = made_by c.args.self.now in
    let left : left_bytes c.args.self.now ≡ done.0 = done.1 ∙ ap (λ (phase : Phase). done.0 ++ bytes_in (frames_left session.sender.names (left_at phase))) reads ∙ append-nil done.0 in
    let Fails : List ℕ → Type 0 = λ bytes. (given : List ℕ) × FailsIn g.O.Outlet.Given g.O.Outlet.Failed (made ++ bytes) given c.args.out.now c.loop-self.out in
    let Part : Bool → Type 0 = λ whole. OnFalse whole (Fails done.0) in
    record {
      same = c.loop-self.invariant.same;
      session = spelled_last c.args.self.now session reads c.loop-self.invariant.spelled;
      reads = reads;
      sent = tt;
      cut = (refl, subst Fails (sym left) (subst Part c.if-whole.false done.3));
    }
