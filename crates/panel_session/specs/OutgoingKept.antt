-- How what is sent next is kept.
use Rattle.std.specs.Prelude.{ℕ, ◌*◌, ◌≤◌, List, [], ◌∷◌, length, drop, Option, None, Some, vec_capacity}
use Rattle.dle_framing.specs.Numbers.{ack, nak}
use Rattle.plant_names.specs.Pages.{max_page_len}
use Rattle.panel_session.specs.Text.{Output}
use Rattle.panel_session.specs.declared.sending.Sending.{Sending}
use Rattle.panel_session.specs.declared.sending.Sending.TheVariants.{Nothing, Ack, Nak, Bytes}
use Rattle.panel_session.specs.declared.sending.outgoing.Outgoing.TheInside.{Inside}

-- the most bytes of a message's frame, and of that of a message or a page
abbrev pub most_message_frame : ℕ
most_message_frame = 24

abbrev pub most_answer_frame : ℕ
most_answer_frame = 276

-- the bytes that so many answers may take
abbrev pub answer_bytes : ℕ → ℕ
answer_bytes answers = most_message_frame * answers

-- What is sent next, and for how many bytes there is room.
pub record Buffer : Type 0 where
  pub output : Output
  pub room : ℕ

-- a frame is never empty: no bytes stand for none
abbrev pub some_frame : List ℕ → Option (List ℕ)
some_frame [] = None
some_frame (byte ∷ bytes) = Some (byte ∷ bytes)

-- what is to be sent: a control alone, or these bytes
abbrev pub sent_as : Sending → List ℕ → List ℕ
sent_as Nothing bytes = []
sent_as Ack bytes = ack
sent_as Nak bytes = nak
sent_as Bytes bytes = bytes

abbrev pub kept_output : Inside → Output
kept_output outgoing =
    record {
      bytes = sent_as outgoing.sending outgoing.bytes.items;
      last = some_frame (drop outgoing.last_from outgoing.bytes.items);
      repeats = outgoing.repeats;
    }

abbrev pub buffer_of : Inside → Buffer
buffer_of outgoing =
    record { output = kept_output outgoing; room = vec_capacity outgoing.bytes }

-- There is room for an ACK or a NAK, and for the DATA of a page.
pub record IsKept (outgoing : Inside) : Type 0 where
  pub bytes : 2 ≤ vec_capacity outgoing.bytes
  pub last : outgoing.last_from ≤ length outgoing.bytes.items
  pub repeats : outgoing.repeats ≤ 5
  pub spelled : max_page_len ≤ vec_capacity outgoing.spelled
