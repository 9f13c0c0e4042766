use Rattle.std.proofs.Common.{◌≤◌, IfSome, Option, refl, sym, subst}
use Rattle.panel_session.specs.declared.sending.name_page.NamePage.{NamePage}
use Rattle.panel_session.specs.declared.session.Session.{Session}
use Rattle.panel_session.specs.declared.session.phase.Phase.TheVariants.{Read}
use Rattle.panel_session.specs.MovesInside.{NamesOn, phase_then}
use Rattle.panel_session.specs.NamePagesInside.{AddsNames, IsFarBehind}
use Rattle.panel_session.specs.OutgoingInside.{emptied}
use Rattle.panel_session.proofs.NamesLeftLemmas.{left_then, reads_then_left}
use Rattle.panel_session.proofs.session.Session.name_on.Goals as goal

pub returns : goal.returns
returns c =
    let session = c.args.self.now in
    let left = c.more_names-left.result in
    let sender = c.more_names-left.new.self in
    let after : Session = record session { phase = phase_then left Read; sender = sender } in
    let On : Session → Type 0 = λ after. NamesOn c.args.page session after in
    let there = sym (left_then left Read refl) in
    let Far : Option NamePage → Type 0 = λ left. IfSome left (IsFarBehind c.args.page.first) in
    let Adds : Option NamePage → Type 0 = λ left. c.args.page.size ≤ 2 → AddsNames session.sender.names c.args.page (emptied session.sender.output) left sender.output in
    let on : On after = record {
      same = refl;
      names = c.more_names-left.ensures.names;
      left = reads_then_left left Read refl;
      far = subst Far there c.more_names-left.ensures.far;
      adds = subst Adds there c.more_names-left.ensures.adds;
    } in
    subst On (sym c.leave.ensures) on
