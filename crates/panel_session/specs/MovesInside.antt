-- What a session becomes, step by step.
use Rattle.std.specs.Prelude.{◌≡◌, ℕ, ◌+◌, ◌%◌, ◌^◌, ◌≤◌, List, [], Option, None, Some, IfSome}
use Rattle.dle_framing.specs.Numbers.{ack}
use Rattle.plant_config.specs.Plant.{PlantData}
use Rattle.plant_core.specs.declared.answer.Answer.{Answer}
use Rattle.panel_session.specs.declared.session.asked.Asked.{Asked}
use Rattle.panel_session.specs.declared.session.asked.Asked.TheVariants.{Nothing, Repeat, Refused, Noted, Named, Sent}
use Rattle.panel_session.specs.declared.session.counts.Counts.{Counts}
use Rattle.panel_session.specs.declared.session.Session.{Session}
use Rattle.panel_session.specs.declared.session.phase.Phase.{Phase}
use Rattle.panel_session.specs.declared.session.phase.Phase.TheVariants.{Read, Name, Tell, Poll, End}
use Rattle.panel_session.specs.TakenInside.{taken_output}
use Rattle.panel_session.specs.Text.{with_control, with_frames, frames_of}
use Rattle.panel_session.specs.OutgoingInside.{emptied}
use Rattle.panel_session.specs.RoomsInside.{fitting}
use Rattle.panel_session.specs.NamePagesInside.{AddsNames, BeginsNames, IsFarBehind}
use Rattle.panel_session.specs.declared.sending.name_page.NamePage.{NamePage}
use Rattle.panel_session.specs.NamesLeftInside.{left_at}
use Rattle.panel_session.specs.SenderKept.{SenderData, sending}

-- one more, as the code counts
abbrev pub next : ℕ → ℕ
next number = (number + 1) % 2 ^ 64

-- An item is taken: it is counted, and what it asks is done.
abbrev pub counts_with : Asked → Counts → Counts
counts_with Nothing counts = counts
counts_with Repeat counts = counts
counts_with Refused counts = record counts { bads = next counts.bads }
counts_with Noted counts = record counts { goods = next counts.goods }
counts_with (Named message) counts = record counts { goods = next counts.goods }
counts_with (Sent message) counts = record counts { goods = next counts.goods }

abbrev pub phase_with : Asked → Phase → Phase
phase_with Nothing phase = phase
phase_with Repeat phase = phase
phase_with Refused phase = phase
phase_with Noted phase = phase
phase_with (Named message) phase = phase
phase_with (Sent message) phase = Tell message

abbrev pub took_to : SenderData → Phase → Asked → Session → Session
took_to sender phase asked session = record session {
  phase = phase;
  items = next session.items;
  sender = sender;
  counts = counts_with asked session.counts;
}

abbrev pub took : PlantData → Asked → Session → Session
took plant asked session =
    took_to (sending (taken_output plant asked session.sender.output) session.sender)
    (phase_with asked session.phase) asked session

-- All that is sent for an item is to be sent.
abbrev pub IsTakenTo : Asked → Session → SenderData → Phase → Type 0
IsTakenTo asked session sender phase =
    (sender
    ≡ sending (taken_output session.sender.names asked session.sender.output) session.sender)
    × (phase ≡ phase_with asked session.phase)

-- what comes next where these pages of names are left, or none
abbrev pub phase_then : Option NamePage → Phase → Phase
phase_then None phase = phase
phase_then (Some page) phase = Name page

-- The session reads on, or pages of names are left.
abbrev pub IsReadOrLeft : Phase → Type 0
IsReadOrLeft Read = Unit {0}
IsReadOrLeft (Name page) = Unit {0}
IsReadOrLeft (Tell message) = ⊥
IsReadOrLeft Poll = ⊥
IsReadOrLeft End = ⊥

-- What is to be sent for an item, and what comes next. Of pages of names that it asks for, the first are to be sent.
abbrev pub TakesTo : Asked → Session → SenderData → Phase → Type 0
TakesTo Nothing session sender phase = IsTakenTo Nothing session sender phase
TakesTo Repeat session sender phase = IsTakenTo Repeat session sender phase
TakesTo Refused session sender phase = IsTakenTo Refused session sender phase
TakesTo Noted session sender phase = IsTakenTo Noted session sender phase
TakesTo (Named message) session sender phase = session.phase ≡ Read
    → (sender.names ≡ session.sender.names)
    × IsReadOrLeft phase
    × BeginsNames session.sender.names message (with_control ack (emptied session.sender.output))
    (left_at phase) sender.output
TakesTo (Sent message) session sender phase = IsTakenTo (Sent message) session sender phase

-- The pages of names from this one on are what is to be sent, as many as go at once.
pub record NamesOn (page : NamePage) (session after : Session) : Type 0 where
  pub same : after ≡ record session {
    phase = after.phase;
    sender = after.sender;
  }
  pub names : after.sender.names ≡ session.sender.names
  pub left : IsReadOrLeft after.phase
  pub far : IfSome (left_at after.phase) (IsFarBehind page.first)
  pub adds : page.size ≤ 2
      → AddsNames session.sender.names page (emptied session.sender.output)
      (left_at after.phase) after.sender.output

-- A good frame is counted, and its ACK is to be sent.
abbrev pub acknowledged : Session → Session
acknowledged session = record session {
  sender = sending (with_control ack (emptied session.sender.output)) session.sender;
  counts = record session.counts { goods = next session.counts.goods };
}

-- These answers are what is to be sent.
abbrev pub took_answers : List Answer → Session → Session
took_answers answers session = record session {
  sender = sending (with_frames (frames_of answers) (emptied session.sender.output)) session.sender;
  outbox = record session.outbox { items = [] };
}

-- The answers to a request were taken, so far as there is room for them: their frames are to be sent behind what is.
abbrev pub answered_too : List Answer → Session → Session
answered_too answers session = record session {
  sender = sending
      (with_frames (frames_of (fitting session.sender.names answers)) session.sender.output)
      session.sender;
  outbox = record session.outbox { items = [] };
}

-- nothing is to be sent
abbrev pub silenced : Session → Session
silenced session = record session {
  sender = sending (emptied session.sender.output) session.sender;
}

-- The turn is over.
abbrev pub ended_turn : Session → Session
ended_turn session = record session {
  phase = Read;
  polls = 0;
  counts = record session.counts { turns = next session.counts.turns };
}
