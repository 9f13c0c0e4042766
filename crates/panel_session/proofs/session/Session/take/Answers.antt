use Rattle.std.proofs.Common.{◌≢◌, [], Option, refl, sym, ap, subst}
use Rattle.dle_framing.specs.Numbers.{ack}
use Rattle.panel_session.specs.declared.sending.name_page.NamePage.{NamePage}
use Rattle.panel_session.specs.declared.session.asked.Asked.{Asked}
use Rattle.panel_session.specs.declared.session.asked.Asked.TheVariants.{Named}
use Rattle.panel_session.specs.declared.session.phase.Phase.TheVariants.{Tell}
use Rattle.panel_session.specs.declared.session.phase.Phase.{Phase}
use Rattle.panel_session.specs.declared.session.Session.{Session}
use Rattle.panel_session.specs.MovesInside.{TakesTo, phase_then}
use Rattle.panel_session.specs.NamePages.{name_frames}
use Rattle.panel_session.specs.NamePagesInside.{BeginsNames}
use Rattle.panel_session.specs.OutgoingInside.{emptied}
use Rattle.panel_session.specs.SenderKept.{SenderData}
use Rattle.panel_session.specs.TakenInside.{sent_by}
use Rattle.panel_session.specs.Text.{with_control}
use Rattle.panel_session.proofs.NamesAddedLemmas.{with_frames-some}
use Rattle.panel_session.proofs.NamesLeftLemmas.{left_then, reads_then_left}
use Rattle.panel_session.proofs.session.Session.take.Goals as goal

pub returns-in-Named-clause-some : goal.returns-in-Named-clause-some
returns-in-Named-clause-some c = λ sending.
    let SomeIsSent : Asked → Type 0 = λ asked. sent_by c.args.self.now.sender.names asked c.args.self.now.sender.output ≢ [] in
    subst SomeIsSent (sym c.in-Named.is)
    (with_frames-some (name_frames c.args.self.now.sender.names c.in-Named.message) (with_control ack (emptied c.args.self.now.sender.output)) (λ is. cc))

pub returns-in-Nothing-clause-to : goal.returns-in-Nothing-clause-to
returns-in-Nothing-clause-to c =
    let To : Asked → Type 0 = λ asked. TakesTo asked c.args.self.now c.args.self.now.sender c.args.self.now.phase in
    subst To (sym c.in-Nothing.is) (refl, refl)

pub returns-in-Repeat-clause-to : goal.returns-in-Repeat-clause-to
returns-in-Repeat-clause-to c =
    let To : Asked → Type 0 = λ asked. TakesTo asked c.args.self.now c.repeat.new.self c.args.self.now.phase in
    subst To (sym c.in-Repeat.is) (c.repeat.ensures.output, refl)

pub returns-in-Refused-clause-to : goal.returns-in-Refused-clause-to
returns-in-Refused-clause-to c =
    let To : Asked → Type 0 = λ asked. TakesTo asked c.args.self.now c.nak.new.self c.args.self.now.phase in
    subst To (sym c.in-Refused.is) (c.nak.ensures, refl)

pub returns-in-Noted-clause-to : goal.returns-in-Noted-clause-to
returns-in-Noted-clause-to c =
    let To : Asked → Type 0 = λ asked. TakesTo asked c.args.self.now c.acknowledge.new.self.sender c.acknowledge.new.self.phase in
    subst To (sym c.in-Noted.is) (ap (λ (session : Session). session.sender) c.acknowledge.ensures, ap (λ (session : Session). session.phase) c.acknowledge.ensures)

pub returns-in-Named-clause-to : goal.returns-in-Named-clause-to
returns-in-Named-clause-to c =
    let To : Asked → Type 0 = λ asked. TakesTo asked c.args.self.now c.leave.new.self.sender c.leave.new.self.phase in
    let To_by : SenderData → Phase → Type 0 = λ sender phase. TakesTo (Named c.in-Named.message) c.args.self.now sender phase in
    let left = c.names-left.result in
    let to : To_by c.names-left.new.self (phase_then left c.args.self.now.phase) = λ read. (
      c.names-left.ensures.names,
      reads_then_left left c.args.self.now.phase read,
      (let Begins : Option NamePage → Type 0 = λ left. BeginsNames c.args.self.now.sender.names c.in-Named.message (with_control ack (emptied c.args.self.now.sender.output)) left c.names-left.new.self.output in
          subst Begins (sym (left_then left c.args.self.now.phase read)) c.names-left.ensures.begins),
    ) in
    let Staged : SenderData → Type 0 = λ sender. To_by sender c.leave.new.self.phase in
    subst To (sym c.in-Named.is)
    (subst Staged (sym (ap (λ (session : Session). session.sender) c.leave.ensures))
    (subst (To_by c.names-left.new.self) (sym (ap (λ (session : Session). session.phase) c.leave.ensures)) to))

pub returns-in-Sent-clause-to : goal.returns-in-Sent-clause-to
returns-in-Sent-clause-to c =
    let To : Asked → Type 0 = λ asked. TakesTo asked c.args.self.now c.acknowledge-in-Sent.new.self.sender (Tell c.in-Sent.message) in
    subst To (sym c.in-Sent.is) (ap (λ (session : Session). session.sender) c.acknowledge-in-Sent.ensures, refl)
