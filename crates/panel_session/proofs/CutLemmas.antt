-- A turn that is cut short.
use Rattle.std.proofs.Common.{◌≡◌, ℕ, true, false, Bool, List, [], ◌∷◌, ◌++◌, refl, sym, ap, ◌∙◌, subst}
use Rattle.std.specs.Bool.{OnFalse, OnTrue}
use Rattle.std.proofs.lemmas.Bool.{false≢true}
use Rattle.std.proofs.lemmas.List.{append_assoc, append-nil}
use mathlib.Core.List.{IsPrefix}
use Rattle.plant_config.specs.Plant.{PlantData}
use Rattle.plant_core.specs.declared.request.Request.{Request}
use Rattle.panel_session.specs.declared.session.cut.Cut.{Cut}
use Rattle.panel_session.specs.declared.session.cut.Cut.TheVariants.{Refused, Untraced, Unsent}
use Rattle.panel_session.specs.declared.session.Session.{Session}
use Rattle.panel_session.specs.Engine.{FailsIn, HoldsAnswered, WasCut}
use Rattle.panel_session.specs.EngineInside.{CutBehind, HasAsked, IsUnderWay}
use Rattle.panel_session.specs.Entry.{PlantEntry}
use Rattle.panel_session.specs.Served.{AnsweredButLast}
use Rattle.panel_session.specs.Session.{Awaits, StandsFor}
use Rattle.panel_session.specs.SoFar.{Progress, entries_so_far, read_so_far}
use Rattle.panel_session.specs.Turns.{entries_in}
use Rattle.panel_session.proofs.RunLemmas.{holds_more}

-- An outlet fails at the bytes behind those that it was given,
pub fails_at : {Outlet : Type 0} {Given Failed : Outlet → List ℕ → Outlet → Type 0} {out out_then : Outlet} (between : Outlet) (given bytes : List ℕ) → Given out given between → Failed between bytes out_then → FailsIn Given Failed (given ++ bytes) given out out_then
fails_at between given bytes gave failed = record {
  part = bytes;
  later = [];
  bytes_are = ap (λ (bytes : List ℕ). given ++ bytes) (sym (append-nil bytes));
  between = between;
  gave = gave;
  failed = failed;
}

-- and so it failed if more was to come,
pub fails_more : {Outlet : Type 0} {Given Failed : Outlet → List ℕ → Outlet → Type 0} {out out_then : Outlet} {bytes given : List ℕ} (more : List ℕ) → FailsIn Given Failed bytes given out out_then → FailsIn Given Failed (bytes ++ more) given out out_then
fails_more {given = given} more fails = record {
  part = fails.part;
  later = fails.later ++ more;
  bytes_are = ap (λ (bytes : List ℕ). bytes ++ more) fails.bytes_are
      ∙ append_assoc given (fails.part ++ fails.later) more
      ∙ ap (λ (bytes : List ℕ). given ++ bytes) (append_assoc fails.part fails.later more);
  between = fails.between;
  gave = fails.gave;
  failed = fails.failed;
}

-- or had come before.
pub fails_behind : {Outlet : Type 0} {Given Failed : Outlet → List ℕ → Outlet → Type 0} {out next out_then : Outlet} {bytes given : List ℕ} (one : List ℕ)
    → ((one next last : Outlet) (bytes more : List ℕ) → Given one bytes next → Given next more last → Given one (bytes ++ more) last)
    → Given out one next → FailsIn Given Failed bytes given next out_then → FailsIn Given Failed (one ++ bytes) (one ++ given) out out_then
fails_behind {out = out} {next = next} {given = given} one both gave fails = record {
  part = fails.part;
  later = fails.later;
  bytes_are = ap (λ (bytes : List ℕ). one ++ bytes) fails.bytes_are ∙ sym (append_assoc one given (fails.part ++ fails.later));
  between = fails.between;
  gave = both out next fails.between one given gave fails.gave;
  failed = fails.failed;
}

-- One that was given bytes first failed at them,
pub fails_first : {Outlet : Type 0} (Given Failed : Outlet → List ℕ → Outlet → Type 0) (out out_then : Outlet) (whole : Bool) (bytes : List ℕ) → Given out [] out → OnFalse whole (Failed out bytes out_then)
    → OnFalse whole ((given : List ℕ) × FailsIn Given Failed bytes given out out_then)
fails_first Given Failed out out_then true bytes none failed = tt
fails_first Given Failed out out_then false bytes none failed = ([], fails_at out [] bytes none failed)

-- and of parts, one behind the other, it was given all, or it failed at one and was given none behind that.
pub part_given : {Outlet : Type 0} (Given Failed : Outlet → List ℕ → Outlet → Type 0) (first out out_then : Outlet) (whole result : Bool) (before bytes : List ℕ)
    → ((one next last : Outlet) (bytes more : List ℕ) → Given one bytes next → Given next more last → Given one (bytes ++ more) last)
    → OnTrue whole (Given first before out) → OnFalse whole ((given : List ℕ) × FailsIn Given Failed before given first out)
    → (whole ≡ true → result ≡ true → Given out bytes out_then) → (whole ≡ true → result ≡ false → Failed out bytes out_then) → (whole ≡ false → result ≡ false) → (whole ≡ false → out_then ≡ out)
    → OnTrue result (Given first (before ++ bytes) out_then) × OnFalse result ((given : List ℕ) × FailsIn Given Failed (before ++ bytes) given first out_then)
part_given Given Failed first out out_then true true before bytes both gave failed gives fails behind untouched = (both first out out_then before bytes gave (gives refl refl), tt)
part_given Given Failed first out out_then true false before bytes both gave failed gives fails behind untouched = (tt, (before, fails_at out before bytes gave (fails refl refl)))
part_given Given Failed first out out_then false true before bytes both gave failed gives fails behind untouched = absurd (false≢true (sym (behind refl)))
part_given {Outlet} Given Failed first out out_then false false before bytes both gave failed gives fails behind untouched =
    let To : Outlet → Type 0 = λ out. FailsIn Given Failed (before ++ bytes) failed.0 first out in
    (tt, (failed.0, subst To (sym (untouched refl)) (fails_more bytes failed.1)))

module _ {Answerer Outlet : Type 0} {Answers : Answerer → List PlantEntry → Answerer → Type 0} {TracesPart : Answerer → PlantEntry → Answerer → Type 0} {Refuses : Answerer → Answerer → Type 0} {sf : Bool} {Given Failed : Outlet → List ℕ → Outlet → Type 0}
    {plant : PlantData} {panel seat : ℕ} {past : Progress} {piece : List ℕ} {first : Answerer} where
  -- Bytes that count as sent behind others weren't given as a whole.
  pub cut_sent : {answerer : Answerer} {session : Session} {now : Progress} {rest more bytes : List ℕ} {out out_then : Outlet} (after : Session) (before given : List ℕ)
      → IsUnderWay Answers sf plant panel seat past piece first answerer session rest now more → more ≡ before ++ bytes → HoldsAnswered sf plant past now before
      → StandsFor plant panel after now → FailsIn Given Failed bytes given out out_then
      → WasCut Answers TracesPart Refuses sf Given Failed Unsent plant panel seat past piece before first answerer after out out_then
  cut_sent {now = now} {rest = rest} {bytes = bytes} after before given way is holds stands fails = record {
    now = now;
    rest = rest;
    given = given;
    come = way.come;
    ends = record {
      answers = way.answers;
      bytes = bytes;
      fails = fails;
      sent = way.sent ∙ ap (λ (more : List ℕ). past.sent ++ more) is;
      stands = stands;
    };
    answered = holds_more sf plant past now before given holds;
  }

  -- A request was refused.
  pub cut_refused : {between last : Answerer} {session : Session} {now : Progress} {rest more : List ℕ} {out out_then : Outlet} (request : Request) (after : Session) (before given : List ℕ)
      → IsUnderWay Answers sf plant panel seat past piece first between session rest now more → more ≡ before ++ given
      → Refuses between last → Given out given out_then → Awaits plant panel after now request
      → WasCut Answers TracesPart Refuses sf Given Failed Refused plant panel seat past piece before first last after out out_then
  cut_refused {between = between} {now = now} {rest = rest} request after before given way is refuses gave awaits =
      let Holds : List ℕ → Type 0 = λ more. HoldsAnswered sf plant past now more in
      record {
        now = now;
        rest = rest;
        given = given;
        come = way.come;
        ends = record {
          between = between;
          answers = way.answers;
          refuses = refuses;
          gave = gave;
          sent = way.sent ∙ ap (λ (more : List ℕ). past.sent ++ more) is;
          request = request;
          awaits = awaits;
        };
        answered = subst Holds is way.answered;
      }

  -- A request was answered, but its line not traced, or its frames not given.
  pub cut_behind : (cut : Cut) {answerer last : Answerer} {session after : Session} {now : Progress} {rest more added : List ℕ} {entry : PlantEntry} {out out_then : Outlet} (next : Outlet) (before ahead bytes : List ℕ)
      → ((one next last : Answerer) (entries others : List PlantEntry) → Answers one entries next → Answers next others last → Answers one (entries ++ others) last)
      → IsUnderWay Answers sf plant panel seat past piece first answerer session rest now more
      → HasAsked plant panel seat past piece now rest entry added after
      → more ++ added ≡ before ++ (ahead ++ bytes) → (sf ≡ true → more ≡ before ++ ahead) → Given out ahead next
      → CutBehind Answers TracesPart Failed cut entry bytes answerer last next out_then
      → WasCut Answers TracesPart Refuses sf Given Failed cut plant panel seat past piece before first last after out out_then
  cut_behind Refused next before ahead bytes both way asked is all gave cut = absurd cut
  cut_behind Untraced {answerer = answerer} {now = now} {rest = rest} {more = more} {added = added} {entry = entry} {out = out} next before ahead bytes both way asked is all gave cut =
      let GivenTo : Outlet → Type 0 = λ next. Given out ahead next in
      let Front : List ℕ → Type 0 = λ sent. AnsweredButLast plant (read_so_far asked.later) (entries_so_far asked.later) sent in
      let sent : asked.later.sent ≡ past.sent ++ (before ++ (ahead ++ bytes)) =
      asked.sent ∙ ap (λ (bytes : List ℕ). bytes ++ added) way.sent ∙ append_assoc past.sent more added ∙ ap (λ (more : List ℕ). past.sent ++ more) is in
      record {
        now = asked.later;
        rest = rest;
        given = ahead;
        come = asked.come;
        ends = record {
          front = entries_in now.now;
          entry = entry;
          entries_are = asked.entries;
          between = answerer;
          answers = way.answers;
          traces = cut.0;
          gave = subst GivenTo (sym cut.1) gave;
          sent = (bytes, append_assoc past.sent (before ++ ahead) bytes ∙ ap (λ (more : List ℕ). past.sent ++ more) (append_assoc before ahead bytes) ∙ sym sent);
          stands = asked.stands;
        };
        answered = λ yes keeps. subst Front (way.sent ∙ ap (λ (more : List ℕ). past.sent ++ more) (all yes)) asked.answered;
      }
  cut_behind Unsent {answerer = answerer} {last = last} {now = now} {rest = rest} {more = more} {added = added} {entry = entry} next before ahead bytes both way asked is all gave cut =
      let AnswersAll : List PlantEntry → Type 0 = λ entries. Answers first entries last in
      let Front : List ℕ → Type 0 = λ sent. AnsweredButLast plant (read_so_far asked.later) (entries_so_far asked.later) sent in
      record {
        now = asked.later;
        rest = rest;
        given = ahead;
        come = asked.come;
        ends = record {
          answers = subst AnswersAll (sym asked.entries) (both first answerer last (entries_in now.now) (entry ∷ []) way.answers cut.0);
          bytes = ahead ++ bytes;
          fails = fails_at next ahead bytes gave cut.1;
          sent = asked.sent ∙ ap (λ (bytes : List ℕ). bytes ++ added) way.sent ∙ append_assoc past.sent more added ∙ ap (λ (more : List ℕ). past.sent ++ more) is;
          stands = asked.stands;
        };
        answered = λ yes keeps. subst Front (way.sent ∙ ap (λ (more : List ℕ). past.sent ++ more) (all yes)) asked.answered;
      }

  -- It was cut short behind bytes that were given before.
  pub cut_later : (cut : Cut) {last : Answerer} {session : Session} {out between out_then : Outlet} (before added : List ℕ)
      → ((one next last : Outlet) (bytes more : List ℕ) → Given one bytes next → Given next more last → Given one (bytes ++ more) last)
      → Given out added between
      → WasCut Answers TracesPart Refuses sf Given Failed cut plant panel seat past piece (before ++ added) first last session between out_then
      → WasCut Answers TracesPart Refuses sf Given Failed cut plant panel seat past piece before first last session out out_then
  cut_later Refused {out = out} {between = between} {out_then = out_then} before added both gave was =
      let Holds : List ℕ → Type 0 = λ more. HoldsAnswered sf plant past was.now more in
      let ends = was.ends in
      record {
        now = was.now;
        rest = was.rest;
        given = added ++ was.given;
        come = was.come;
        ends = record {
          between = ends.between;
          answers = ends.answers;
          refuses = ends.refuses;
          gave = both out between out_then added was.given gave ends.gave;
          sent = ends.sent ∙ ap (λ (more : List ℕ). past.sent ++ more) (append_assoc before added was.given);
          request = ends.request;
          awaits = ends.awaits;
        };
        answered = subst Holds (append_assoc before added was.given) was.answered;
      }
  cut_later Untraced {out = out} {between = between} {out_then = out_then} before added both gave was =
      let Holds : List ℕ → Type 0 = λ more. HoldsAnswered sf plant past was.now more in
      let Front : List ℕ → Type 0 = λ more. IsPrefix (past.sent ++ more) was.now.sent in
      let ends = was.ends in
      record {
        now = was.now;
        rest = was.rest;
        given = added ++ was.given;
        come = was.come;
        ends = record {
          front = ends.front;
          entry = ends.entry;
          entries_are = ends.entries_are;
          between = ends.between;
          answers = ends.answers;
          traces = ends.traces;
          gave = both out between out_then added was.given gave ends.gave;
          sent = subst Front (append_assoc before added was.given) ends.sent;
          stands = ends.stands;
        };
        answered = subst Holds (append_assoc before added was.given) was.answered;
      }
  cut_later Unsent before added both gave was =
      let Holds : List ℕ → Type 0 = λ more. HoldsAnswered sf plant past was.now more in
      let ends = was.ends in
      record {
        now = was.now;
        rest = was.rest;
        given = added ++ was.given;
        come = was.come;
        ends = record {
          answers = ends.answers;
          bytes = added ++ ends.bytes;
          fails = fails_behind added both gave ends.fails;
          sent = ends.sent ∙ ap (λ (more : List ℕ). past.sent ++ more) (append_assoc before added ends.bytes);
          stands = ends.stands;
        };
        answered = subst Holds (append_assoc before added was.given) was.answered;
      }
