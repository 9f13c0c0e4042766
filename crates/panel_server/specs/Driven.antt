-- What the worker of the displays has done: which screens it polled, what it traced, and which packets it sent.
use Rattle.std.specs.Prelude.{◌≡◌, ◌≢◌, ℕ, ◌-◌, ◌/◌, ◌%◌, ◌==◌, Bool, true, false, not, ◌&&◌, ◌||◌, List, [], ◌∷◌, ◌++◌, length, map, filter, take, slice_get, slice_index, All, Some}
use Rattle.ctl_io.specs.Faults.{count_after}
use Rattle.ctl_io.specs.Sink.{appended}
use Rattle.ctl_net.specs.declared.port.Sent.{Sent}
use Rattle.ctl_net.specs.Port.{SendsOn, send_failed}
use Rattle.history_lock.specs.History.{entries_of, IsLegal}
use Rattle.plant_config.specs.Plant.{PlantData}
use Rattle.plant_config.specs.Screens.{screens_of}
use Rattle.plant_core.specs.State.{start, Fits as Takes}
use Rattle.plant_core.specs.Step.{step}
use Rattle.plant_core.specs.declared.answer.Answer.{Answer}
use Rattle.plant_core.specs.declared.answer.Answer.TheVariants as answers
use Rattle.plant_core.specs.declared.request.Request.{Request}
use Rattle.plant_core.specs.declared.request.Request.TheVariants.{DisplayPoll}
use Rattle.display_packets.specs.DisplayPacket.{packet_of}
use Rattle.panel_session.specs.Entry.{PlantEntry}
use Rattle.panel_session.specs.Served.{PlantSeat, TraceData, mark_after, own_lines, TracesUnless}
use Rattle.panel_server.specs.declared.displays.DriverEnd.{DriverEnd}
use Rattle.panel_server.specs.declared.displays.DriverEnd.TheVariants.{Finished, TraceFault, Full, NoMemory}

-- whether the polls of a round, counted from 0, have a refresh: those of the first have, and where `every` isn't 0, those of
-- each round whose number is a multiple of it
abbrev pub has_refresh : ℕ → ℕ → Bool
has_refresh every round = (round == 0) || (not (every == 0) && (round % every == 0))

-- Poll k, counted from 0: in each round each screen is polled once, in their order.
abbrev pub poll_at : PlantData → ℕ → Request
poll_at plant k = DisplayPoll
    (slice_index (screens_of plant) (k % length (screens_of plant)))
    (has_refresh plant.server.refresh_every (k / length (screens_of plant)))

-- These entries are the polls of rounds, in order.
abbrev pub AreInRounds : PlantData → List PlantEntry → Type 0
AreInRounds plant entries = (k : ℕ) (entry : PlantEntry)
    → slice_get entries k ≡ Some entry → entry.request ≡ poll_at plant k

-- whether a poll was answered that all is finished, and whether it was answered with lamps
abbrev pub says_finished : List Answer → Bool
says_finished [] = false
says_finished (answers.Finished ∷ others) = true
says_finished (answer ∷ others) = false

abbrev pub has_lamps : List Answer → Bool
has_lamps [] = false
has_lamps (answers.Finished ∷ others) = false
has_lamps (answer ∷ others) = true

-- the same of an entry
abbrev pub shows_lamps : PlantEntry → Bool
shows_lamps entry = has_lamps entry.answers

abbrev pub is_last : PlantEntry → Bool
is_last entry = says_finished entry.answers

-- the screen that a request polls
abbrev pub polled_screen : Request → ℕ
polled_screen (DisplayPoll screen refresh) = screen
polled_screen other = 0

-- the packet of an entry's lamps
abbrev pub lamp_packet : PlantData → PlantEntry → List ℕ
lamp_packet plant entry = packet_of plant (polled_screen entry.request) entry.answers

-- a send of the packet of an entry's lamps, and what the port answered
pub record LampSend : Type 0 where
  pub entry : PlantEntry
  pub answer : Sent

-- whether it was done, and whether it failed
abbrev pub was_lost : LampSend → Bool
was_lost send = send_failed send.answer

abbrev pub was_done : LampSend → Bool
was_done send = not (was_lost send)

-- the packets that a port was given by sends: those of the sends that were done, in order
abbrev pub packets_given : PlantData → List LampSend → List (List ℕ)
packets_given plant sends =
    map (λ send. lamp_packet plant send.entry) (filter was_done sends)

-- a port's count of faults after sends
abbrev pub faults_after : List LampSend → ℕ → ℕ
faults_after [] count = count
faults_after (send ∷ later) count = faults_after later (count_after (was_lost send) count)

-- whether the worker ended so
abbrev pub ends_by_trace : DriverEnd → Bool
ends_by_trace TraceFault = true
ends_by_trace other = false

-- the entries whose lines were traced as a whole: all, or, where the trace failed, all but the last
abbrev pub whole_traced : DriverEnd → List PlantEntry → List PlantEntry
whole_traced TraceFault entries = take (length entries - 1) entries
whole_traced other entries = entries

-- whether the seat of a worker that ended so last found that the history has no place: exactly at `Full` it found it now
abbrev pub mark_at_end : DriverEnd → List PlantEntry → Bool → Bool
mark_at_end Full new before = true
mark_at_end other new before = mark_after new before

-- No entry was answered that all is finished.
abbrev pub NoneIsLast : List PlantEntry → Type 0
NoneIsLast entries = All (λ entry. is_last entry ≡ false) entries

-- The last entry was answered that all is finished, and no other.
pub record EndsAtLast (entries : List PlantEntry) : Type 0 where
  pub front : List PlantEntry
  pub last : PlantEntry
  pub entries_are : entries ≡ front ++ last ∷ []
  pub is : is_last last ≡ true
  pub others : NoneIsLast front

-- Of a plant with screens the last entry alone says that all is finished, and of one without nothing is seen.
abbrev pub HasFinished : PlantData → List PlantEntry → List PlantEntry → Type 0
HasFinished plant new own =
    (screens_of plant ≢ [] → EndsAtLast own) × (screens_of plant ≡ [] → new ≡ [])

-- Why the worker ended so, by what the history has more, its own entries and its sends.
abbrev pub EndsSo : DriverEnd → PlantData → List PlantEntry → List PlantEntry → List LampSend
    → Type 0
EndsSo (Finished sent failed) plant new own sends =
    HasFinished plant new own × (sent ≡ length (filter was_done sends))
    × (failed ≡ length (filter was_lost sends))
EndsSo TraceFault plant new own sends =
    (screens_of plant ≢ []) × (own ≢ []) × NoneIsLast (whole_traced TraceFault own)
EndsSo Full plant new own sends = (screens_of plant ≢ []) × NoneIsLast own
EndsSo NoMemory plant new own sends = new ≡ []

-- What the worker of the displays of a plant did from one seat, port and trace to others, until it ended so: the entries that
-- the history has more, its sends, and the lines that it traced. Of a port it is said which packets it was sent and how often a
-- send failed.
pub record Driven {P : Type 0} (WasSent : P → List (List ℕ) → Type 0) (faults : P → ℕ)
    (plant : PlantData) (end : DriverEnd) (seat seat_then : PlantSeat) (port port_then : P)
    (trace trace_then : TraceData) : Type 0 where
  pub new : List PlantEntry
  pub sends : List LampSend
  pub lines : List ℕ
  -- The seat has seen a legal history that begins with the one that it had seen. Its own entries are its former ones and then
  -- those of this call, each at a position of its own behind all that had been seen.
  pub legal : new ≢ [] → IsLegal step Takes (start plant) seat_then.seen
  pub seen : seat_then.seen ≡ seat.seen ++ new
  pub own : entries_of seat.number seat_then.seen
      ≡ entries_of seat.number seat.seen ++ entries_of seat.number new
  pub full : seat_then.ticket_full ≡ mark_at_end end new seat.ticket_full
  pub seat_same : seat_then
      ≡ record seat { seen = seat_then.seen; ticket_full = seat_then.ticket_full }
  -- They are the polls, in order.
  pub polls : AreInRounds plant (entries_of seat.number new)
  -- Of each that was traced as a whole and has lamps, and of no other, the packet was sent once, in their order. The port was
  -- given those whose send was done, and counted the others.
  pub sent : map (λ send. send.entry) sends
      ≡ filter shows_lamps (whole_traced end (entries_of seat.number new))
  pub packets : SendsOn WasSent port port_then (packets_given plant sends)
  pub port_count : faults port_then ≡ faults_after sends (faults port)
  -- The trace has the line of each.
  pub traced : trace_then.written ≡ appended trace.written lines
  pub traces : TracesUnless (ends_by_trace end)
      (own_lines plant seat.number (length seat.seen) new) lines
  pub trace_count : trace_then.faults ≡ count_after (ends_by_trace end) trace.faults
  -- It ended so for a cause.
  pub ends : EndsSo end plant new (entries_of seat.number new) sends
