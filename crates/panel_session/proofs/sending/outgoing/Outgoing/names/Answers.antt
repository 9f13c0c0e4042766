use Rattle.std.proofs.Common.{◌≡◌, IfSome, [], Option, length, sym, ap, ◌∙◌, subst, arith}
use Rattle.std.specs.Prelude.{map}
use Rattle.dle_framing.specs.Frame.{frame}
use Rattle.panel_session.specs.NamePages.{name_pages}
use Rattle.panel_session.specs.NamePagesInside.{IsNamePage, pages_left}
use Rattle.panel_session.specs.Text.{Output, with_frames}
use Rattle.panel_session.specs.declared.sending.name_page.NamePage.{NamePage}
use Rattle.panel_session.proofs.NamesAddedLemmas.{next_page}
use Rattle.panel_session.proofs.sending.outgoing.Outgoing.names.Goals as goal

pub add_part-requires-clause-size : goal.add_part-requires-clause-size
add_part-requires-clause-size c =
    let Is : Option NamePage → Type 0 = λ first. IfSome first IsNamePage in
    let is = subst Is c.in-Some.is c.asked_by.ensures.page in is.size

pub add_part-requires-clause-front : goal.add_part-requires-clause-front
add_part-requires-clause-front c = omega (arith, ap (λ (output : Output). length output.bytes) c.ack.ensures.output)

pub returns-in-Some-clause-begins : goal.returns-in-Some-clause-begins
returns-in-Some-clause-begins c =
    let plant = c.args.names.now in
    let adds = c.add_part.ensures.adds in
    let Pages : Option NamePage → Type 0 = λ left. pages_left plant left ≡ name_pages plant c.args.message in
    let pages = subst Pages c.in-Some.is (c.asked_by.ensures.pages plant) in
    record {
      frames = adds.frames;
      frames_are = sym (ap (map frame) pages) ∙ adds.frames_are;
      adds = adds.adds ∙ ap (with_frames adds.frames) c.ack.ensures.output;
      is_page = next_page plant c.in-Some.first c.add_part.result adds.next;
    }

pub returns-in-None-clause-begins : goal.returns-in-None-clause-begins
returns-in-None-clause-begins c =
    let plant = c.args.names.now in
    let Pages : Option NamePage → Type 0 = λ left. pages_left plant left ≡ name_pages plant c.args.message in
    let pages = subst Pages c.in-None.is (c.asked_by.ensures.pages plant) in
    record { frames = []; frames_are = sym (ap (map frame) pages); adds = c.ack.ensures.output; is_page = tt }
