-- The displays are driven, poll by poll.
use Rattle.std.specs.Prelude.{◌≡◌, ℕ, ◌≤◌, Bool, true, false, List, [], ◌∷◌, length, map, filter, vec_capacity, Option}
use Rattle.ctl_io.specs.Sink.{appended, AppendsPart}
use Rattle.ctl_net.specs.declared.port.Sent.TheVariants.{Done, Failed}
use Rattle.history_lock.specs.Calls.{AddsOwn, FoundFull, IsNumbered, OnlyCalled, SeesAnswers, asked_by}
use Rattle.history_lock.specs.History.{entries_of, IsLegal}
use Rattle.plant_config.specs.Plant.{PlantData}
use Rattle.plant_core.specs.Answer.{room_of}
use Rattle.plant_core.specs.State.{start, Fits as Takes}
use Rattle.plant_core.specs.Step.{step}
use Rattle.plant_core.specs.declared.answer.Answer.{Answer}
use Rattle.plant_core.specs.declared.answer.Answer.TheVariants.{Finished}
use Rattle.plant_core.specs.declared.request.Request.{Request}
use Rattle.plant_core.specs.declared.request.Request.TheVariants.{DisplayPoll}
use Rattle.display_packets.specs.DisplayPacket.{longest_packet, packet_of}
use Rattle.panel_session.specs.Entry.{PlantEntry}
use Rattle.panel_session.specs.Served.{PlantSeat, mark_after, own_lines}
use Rattle.panel_session.specs.ServedInside.{SeesMore}
use Rattle.panel_session.specs.Reply.{trace_line}
use Rattle.trace_lines.specs.TraceLine.{longest_trace_line}
use Rattle.panel_server.specs.declared.displays.DriverEnd.{DriverEnd}
use Rattle.panel_server.specs.declared.displays.DriverEnd.TheVariants.{TraceFault, Full}
use Rattle.panel_server.specs.declared.poll_room.PollRoom.{PollRoom}
use Rattle.panel_server.specs.declared.poll.Polled.{Polled}
use Rattle.panel_server.specs.declared.poll.Polled.TheVariants.{Quiet, Lit, Last}
use Rattle.ctl_net.specs.Port.{SendsOn}
use Rattle.panel_server.specs.Driven.{AreInRounds, LampSend, NoneIsLast, faults_after, shows_lamps, packets_given, says_finished, was_lost, was_done}

-- There is room for the answers of a step, for a line and for a packet.
pub record HasRoomFor (plant : PlantData) (room : PollRoom) : Type 0 where
  pub answers : room.answers.places ≡ room_of plant
  pub line : longest_trace_line ≤ vec_capacity room.line
  pub packet : longest_packet ≤ vec_capacity room.packet

-- the bytes of the packet by which the displays of a screen are told these answers, none if these aren't lamps
abbrev pub packet_bytes : PlantData → ℕ → List Answer → List ℕ
packet_bytes plant screen [] = []
packet_bytes plant screen (Finished ∷ others) = []
packet_bytes plant screen (answer ∷ others) = packet_of plant screen (answer ∷ others)

-- what is outside of the worker: its seat, its port, and what its trace shows
pub record Outside (P : Type 0) : Type 0 where
  pub seat : PlantSeat
  pub port : P
  pub traced : Option (List ℕ)
  pub trace_faults : ℕ

abbrev pub outside : {P : Type 0} → PlantSeat → P → Option (List ℕ) → ℕ → Outside P
outside seat port traced trace_faults =
    record { seat = seat; port = port; traced = traced; trace_faults = trace_faults }

-- the entry of a poll of a screen by a seat
abbrev pub polled_by : ℕ → ℕ → Bool → List Answer → PlantEntry
polled_by seat screen refresh answers =
    record { seat = seat; request = DisplayPoll screen refresh; answers = answers }

-- the send of a poll that ended so
abbrev pub send_of : PlantEntry → Polled → List LampSend
send_of entry Quiet = []
send_of entry (Lit answer) = record { entry = entry; answer = answer } ∷ []
send_of entry Last = []

-- how many packets a poll that ended so sent, and how many it lost
abbrev pub sent_by : Polled → ℕ
sent_by (Lit Done) = 1
sent_by (Lit Failed) = 0
sent_by other = 0

abbrev pub lost_by : Polled → ℕ
lost_by (Lit Done) = 0
lost_by (Lit Failed) = 1
lost_by other = 0

-- whether a poll was answered that all is finished
abbrev pub was_last : Polled → Bool
was_last Quiet = false
was_last (Lit answer) = false
was_last Last = true

-- What became of the answers of a poll: their packet was sent, where they are lamps, and no other.
pub record TellsLamps {P : Type 0} (WasSent : P → List (List ℕ) → Type 0) (faults : P → ℕ)
    (plant : PlantData) (entry : PlantEntry) (polled : Polled) (port port_then : P) : Type 0 where
  pub sent : map (λ (send : LampSend). send.entry) (send_of entry polled)
      ≡ filter shows_lamps (entry ∷ [])
  pub last : says_finished entry.answers ≡ was_last polled
  pub packets : SendsOn WasSent port port_then (packets_given plant (send_of entry polled))
  pub count : faults port_then ≡ faults_after (send_of entry polled) (faults port)

-- The lock answered this request by an entry at this position, the last of a legal history.
pub record IsGiven (plant : PlantData) (request : Request) (answers : List Answer)
    (number : ℕ) (seat seat_then : PlantSeat) : Type 0 where
  pub numbered : IsNumbered number seat_then.seen
  pub legal : IsLegal step Takes (start plant) seat_then.seen
  pub sees : SeesAnswers seat request answers seat_then
  pub own : AddsOwn seat request answers seat_then
  pub rest : OnlyCalled seat seat_then

-- A screen was polled: the lock answered, the line was traced, and the lamps were sent.
pub record HasPolled {P : Type 0} (WasSent : P → List (List ℕ) → Type 0) (faults : P → ℕ)
    (plant : PlantData) (request : Request) (polled : Polled) (before after : Outside P)
    : Type 0 where
  pub answers : List Answer
  pub number : ℕ
  pub given : IsGiven plant request answers number before.seat after.seat
  pub line : after.traced
      ≡ appended before.traced (trace_line plant number request answers)
  pub trace_count : after.trace_faults ≡ before.trace_faults
  pub told : TellsLamps WasSent faults plant (asked_by before.seat request answers) polled
      before.port after.port

-- The lock answered, but the line wasn't traced as a whole.
pub record IsUntraced (plant : PlantData) (request : Request) (seat seat_then : PlantSeat)
    (traced traced_then : Option (List ℕ)) : Type 0 where
  pub answers : List Answer
  pub number : ℕ
  pub given : IsGiven plant request answers number seat seat_then
  pub part : AppendsPart (trace_line plant number request answers) traced traced_then

-- How the worker ends at a poll.
abbrev pub EndsPolling : DriverEnd → PlantData → Request → PlantSeat → PlantSeat
    → Option (List ℕ) → Option (List ℕ) → Type 0
EndsPolling TraceFault plant request seat seat_then traced traced_then =
    IsUntraced plant request seat seat_then traced traced_then
EndsPolling Full plant request seat seat_then traced traced_then =
    FoundFull seat seat_then × (traced_then ≡ traced)
EndsPolling other plant request seat seat_then traced traced_then = ⊥

-- So many polls were made, so many packets were sent and so many lost, from one moment to another.
pub record IsDriving {P : Type 0} (WasSent : P → List (List ℕ) → Type 0) (faults : P → ℕ)
    (plant : PlantData) (polls sent lost : ℕ) (before after : Outside P) : Type 0 where
  pub new : List PlantEntry
  pub sends : List LampSend
  pub sees : SeesMore plant before.seat after.seat new
  pub mark : after.seat.ticket_full ≡ mark_after new before.seat.ticket_full
  pub polls_are : AreInRounds plant (entries_of before.seat.number new)
  pub counted : length (entries_of before.seat.number new) ≡ polls
  pub none_last : NoneIsLast (entries_of before.seat.number new)
  pub sent_are : map (λ send. send.entry) sends
      ≡ filter shows_lamps (entries_of before.seat.number new)
  pub sent_count : sent ≡ length (filter was_done sends)
  pub lost_count : lost ≡ length (filter was_lost sends)
  pub packets : SendsOn WasSent before.port after.port (packets_given plant sends)
  pub port_count : faults after.port ≡ faults_after sends (faults before.port)
  pub traced : after.traced
      ≡ appended before.traced (own_lines plant before.seat.number (length before.seat.seen) new)
  pub trace_count : after.trace_faults ≡ before.trace_faults
