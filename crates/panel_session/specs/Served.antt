-- What a session has done that was served over a link, beside others that share the plant.
use Rattle.std.specs.Prelude.{◌≡◌, ◌≢◌, ◌⊎◌, ℕ, ◌+◌, ◌==◌, ◌<◌, ◌≤◌, Bool, true, false, if◌then◌else◌, List, [], ◌∷◌, ◌++◌, length, map, All, Option, None, Some}
use Rattle.std.specs.List.{flat_map}
use Rattle.std.specs.Option.{option_map}
use mathlib.Core.List.{IsPrefix}
use Rattle.ctl_io.specs.Faults.{one_more, count_after}
use Rattle.ctl_io.specs.ReadHalf.{ReadHalf, Reading}
use Rattle.ctl_io.specs.Sink.{appended}
use Rattle.ctl_io.specs.Source.{IsAtEnd}
use Rattle.ctl_net.specs.Acceptor.{LinkEnd, link_end}
use Rattle.dle_framing.specs.declared.item.Item.{Item}
use Rattle.dle_framing.specs.Items.{items}
use Rattle.history_lock.specs.History.{entries_of, IsLegal}
use Rattle.history_lock.specs.Locks.{LockData}
use Rattle.history_lock.specs.Seats.{SeatData}
use Rattle.plant_config.specs.IsPlant.{IsPlant}
use Rattle.plant_config.specs.Plant.{PlantData}
use Rattle.plant_core.specs.State.{State, start, Fits as Takes}
use Rattle.plant_core.specs.Step.{step}
use Rattle.plant_core.specs.declared.answer.Answer.{Answer}
use Rattle.plant_core.specs.declared.request.Request.{Request}
use Rattle.plant_core.specs.declared.request.Request.TheVariants.{Told, Poll, Leave, DisplayPoll}
use Rattle.panel_session.specs.declared.serve.SessionEnd.{SessionEnd}
use Rattle.panel_session.specs.declared.serve.SessionEnd.TheVariants.{Ended, ReadFault, WriteFault, TraceFault, IdleOut, Spent, Full}
use Rattle.panel_session.specs.declared.session.Session.{Session}
use Rattle.panel_session.specs.Entry.{PlantEntry}
use Rattle.panel_session.specs.Session.{StandsFor, Awaits}
use Rattle.panel_session.specs.SoFar.{Progress, nothing_yet, unstarted}
use Rattle.panel_session.specs.Text.{IsText}
use Rattle.panel_session.specs.Reply.{trace_line}
use Rattle.panel_session.specs.Turns.{FitsReads}

-- what a seat of a plant's lock shows
abbrev pub PlantSeat : Type 0
PlantSeat = SeatData State Request Answer

-- what the sink of a trace shows: what was written to it, and how often a write failed
pub record TraceData : Type 0 where
  pub written : Option (List ℕ)
  pub faults : ℕ

-- what a link shows, by what is shown of it, and a trace's sink
abbrev pub link_shows : {Link : Type 0} → (Link → Option (List ℕ)) → (Link → ℕ)
    → (Link → ReadHalf) → Link → LinkEnd
link_shows written faults half link = link_end (written link) (faults link) (half link)

abbrev pub trace_shows : {Trace : Type 0} → (Trace → Option (List ℕ)) → (Trace → ℕ) → Trace
    → TraceData
trace_shows written faults trace = record { written = written trace; faults = faults trace }

-- how long the `into` of each read is
abbrev pub read_room : ℕ
read_room = 4096

-- a read of so much room that gave these bytes, or was idle and gave none
abbrev pub read_of : List ℕ → Reading
read_of bytes = record { room = read_room; bytes = bytes }

-- the bytes that reads gave, joined
abbrev pub all_read : List (List ℕ) → List ℕ
all_read reads = flat_map (λ read. read) reads

-- These are the first bytes that a link had left, where it shows them, and the others are left.
abbrev pub AreTaken : List ℕ → Option (List ℕ) → Option (List ℕ) → Type 0
AreTaken bytes None left = left ≡ None
AreTaken bytes (Some all) left = (rest : List ℕ) × (left ≡ Some rest) × (all ≡ bytes ++ rest)

-- the lines of the entries that one seat has among entries of the history, of which the first stands at this position
abbrev pub own_lines : PlantData → ℕ → ℕ → List PlantEntry → List ℕ
own_lines plant seat position [] = []
own_lines plant seat position (entry ∷ later) =
    (if entry.seat == seat then trace_line plant position entry.request entry.answers else [])
    ++ own_lines plant seat (position + 1) later

-- how many items a session had read when it asked this: for a message those before it and its own, for a poll all of them
abbrev pub items_before : Request → ℕ
items_before (Told panel item message) = item + 1
items_before (Poll panel item turn) = item
items_before (Leave panel) = 0
items_before (DisplayPoll screen refresh) = 0

-- All that a session had to say when it asked this was sent: its text of the items that it had read of these bytes, and of the
-- entries before, is a front of the bytes sent.
pub record IsSentBefore (plant : PlantData) (read : List ℕ) (before : List PlantEntry)
    (request : Request) (bytes : List ℕ) : Type 0 where
  pub earlier : List (Item (List ℕ))
  pub later : List (Item (List ℕ))
  pub items_are : items read ≡ earlier ++ later
  pub counted : length earlier ≡ items_before request
  pub text : List ℕ
  pub is_text : IsText plant earlier before text
  pub sent : IsPrefix text bytes

-- So it is with the last of these entries: the session's text without it is a front of the bytes.
abbrev pub AnsweredButLast : PlantData → List ℕ → List PlantEntry → List ℕ → Type 0
AnsweredButLast plant read entries bytes = (before : List PlantEntry) (last : PlantEntry)
    → entries ≡ before ++ last ∷ [] → IsSentBefore plant read before last.request bytes

-- The last reads, so many, were all idle.
pub record EndsIdle (count : ℕ) (reads : List (List ℕ)) : Type 0 where
  pub before : List (List ℕ)
  pub idle : List (List ℕ)
  pub reads_are : reads ≡ before ++ idle
  pub all_idle : All (λ read. read ≡ []) idle
  pub counted : length idle ≡ count

-- how often a read was idle, after so often before
abbrev pub idles_after : List (List ℕ) → ℕ → ℕ
idles_after [] count = count
idles_after ([] ∷ later) count = idles_after later (one_more count)
idles_after ((byte ∷ bytes) ∷ later) count = idles_after later count

-- whether a session was cut short: what it read last wasn't worked as a whole
abbrev pub was_cut : SessionEnd → Bool
was_cut Ended = false
was_cut ReadFault = false
was_cut WriteFault = true
was_cut TraceFault = true
was_cut IdleOut = false
was_cut Spent = false
was_cut Full = true

-- which call failed
abbrev pub read_failed_at : SessionEnd → Bool
read_failed_at ReadFault = true
read_failed_at other = false

abbrev pub write_failed_at : SessionEnd → Bool
write_failed_at WriteFault = true
write_failed_at other = false

abbrev pub trace_failed_at : SessionEnd → Bool
trace_failed_at TraceFault = true
trace_failed_at other = false

-- whether a seat last found that the history has no place: that which it found before is over once the lock answered it
abbrev pub mark_after : List PlantEntry → Bool → Bool
mark_after [] before = before
mark_after (entry ∷ later) before = false

-- the same where a session ended so: exactly at `Full` it found it in this session
abbrev pub full_after : SessionEnd → List PlantEntry → Bool → Bool
full_after Full new before = true
full_after other new before = mark_after new before

-- The entries fit the reads, all of them, or, of a session that was cut short, begin a list that does.
abbrev pub FitAsEnded : SessionEnd → ℕ → List (List ℕ) → List PlantEntry → Type 0
FitAsEnded end panel reads entries =
    (was_cut end ≡ false → FitsReads panel reads entries)
    × ((more : List PlantEntry) × FitsReads panel reads (entries ++ more))

-- The bytes are the session's text of all reads and the entries, or, of a session that was cut short, a front of it.
abbrev pub SaysAsEnded : SessionEnd → PlantData → List (List ℕ) → List PlantEntry → List ℕ
    → Type 0
SaysAsEnded end plant reads entries bytes =
    (text : List ℕ) × IsText plant (items (all_read reads)) entries text
    × IsPrefix bytes text × (was_cut end ≡ false → bytes ≡ text)

-- The lines are those of the entries, or, where a write of the trace failed, a front of them.
abbrev pub TracesUnless : Bool → List ℕ → List ℕ → Type 0
TracesUnless failed all lines = IsPrefix lines all × (failed ≡ false → lines ≡ all)

-- Why a session ended so, by its reads, of which there may be so many and so many idle ones at the end, and by what its link
-- has left. It ends as its link does, or by a fault of it, at a read that isn't among them, and it is cut short in a turn.
abbrev pub HasCause : SessionEnd → ℕ → ℕ → List (List ℕ) → Option (List ℕ) → Type 0
HasCause Ended turns limit reads left = (length reads < turns) × IsAtEnd left
HasCause ReadFault turns limit reads left = length reads < turns
HasCause WriteFault turns limit reads left = reads ≢ []
HasCause TraceFault turns limit reads left = reads ≢ []
HasCause IdleOut turns limit reads left = EndsIdle limit reads
HasCause Spent turns limit reads left = length reads ≡ turns
HasCause Full turns limit reads left = reads ≢ []

-- whether a session may have ended so where its last reads, as many as its limit, were idle: by that, or cut short in the
-- turn of the last of them
abbrev pub may_be_idle : SessionEnd → Bool
may_be_idle Ended = false
may_be_idle ReadFault = false
may_be_idle WriteFault = true
may_be_idle TraceFault = true
may_be_idle IdleOut = true
may_be_idle Spent = false
may_be_idle Full = true

-- No reads end with so many idle ones but all of them, and then only a session may that has ended so.
abbrev pub IdlesAsEnded : SessionEnd → ℕ → List (List ℕ) → Type 0
IdlesAsEnded end limit reads = (front more : List (List ℕ)) → reads ≡ front ++ more
    → EndsIdle limit front → (more ≡ []) × (may_be_idle end ≡ true)

-- A session stands for these reads, each worked as a turn.
pub record HasWorked (plant : PlantData) (panel : ℕ) (reads : List (List ℕ)) (session : Session)
    : Type 0 where
  pub past : Progress
  pub stands : StandsFor plant panel session past
  pub begins : past.now ≡ unstarted
  pub pieces : map (λ turn. turn.piece) past.turns ≡ reads

-- A session stands for some past, or awaits the answers to a request in one.
abbrev pub StandsOrAwaits : PlantData → ℕ → Session → Progress → Type 0
StandsOrAwaits plant panel session past =
    StandsFor plant panel session past
    ⊎ ((request : Request) × Awaits plant panel session past request)

-- So it stands as it ended, and where it wasn't cut short, for all reads.
abbrev pub IsLeft : SessionEnd → PlantData → ℕ → List (List ℕ) → Session → Type 0
IsLeft end plant panel reads session =
    (was_cut end ≡ false → HasWorked plant panel reads session)
    × ((past : Progress) × StandsOrAwaits plant panel session past)

-- A session is new, its seat is one of the lock, and the lock was made with the start of its plant.
pub record MayServe (session : Session) (lock : LockData State) (seat : PlantSeat) : Type 0 where
  pub plant : PlantData
  pub panel : ℕ
  pub stands : StandsFor plant panel session nothing_yet
  pub is_plant : IsPlant plant
  pub seat_of : seat.lock ≡ lock.id
  pub first : seat.first ≡ start plant

-- What a session of a panel did from one seat, link and trace to others, until it ended so: its reads, the entries that the
-- history has more, and the bytes that it wrote and traced.
pub record Served (plant : PlantData) (panel turns : ℕ) (end : SessionEnd) (session_then : Session)
    (seat seat_then : PlantSeat) (link link_then : LinkEnd) (trace trace_then : TraceData)
    : Type 0 where
  pub reads : List (List ℕ)
  pub new : List PlantEntry
  pub bytes : List ℕ
  pub lines : List ℕ
  -- What it read is told, each read with its room, and is what the link had left first.
  pub told : link_then.read_half.reads
      ≡ option_map (λ former. former ++ map read_of reads) link.read_half.reads
  pub taken : AreTaken (all_read reads) link.read_half.left link_then.read_half.left
  pub few : length reads ≤ turns
  -- The seat has seen a legal history that begins with the one that it had seen. Its own entries are its former ones and then
  -- those of this session, each at a position of its own behind all that had been seen.
  pub legal : new ≢ [] → IsLegal step Takes (start plant) seat_then.seen
  pub seen : seat_then.seen ≡ seat.seen ++ new
  pub own : entries_of seat.number seat_then.seen
      ≡ entries_of seat.number seat.seen ++ entries_of seat.number new
  pub full : seat_then.ticket_full ≡ full_after end new seat.ticket_full
  pub seat_same : seat_then
      ≡ record seat { seen = seat_then.seen; ticket_full = seat_then.ticket_full }
  -- They fit the reads, and what was written is the session's text of both.
  pub fits : FitAsEnded end panel reads (entries_of seat.number new)
  pub written : link_then.written ≡ appended link.written bytes
  pub says : SaysAsEnded end plant reads (entries_of seat.number new) bytes
  pub answered : AnsweredButLast plant (all_read reads) (entries_of seat.number new) bytes
  -- The trace has the line of each.
  pub traced : trace_then.written ≡ appended trace.written lines
  pub traces : TracesUnless (trace_failed_at end)
      (own_lines plant seat.number (length seat.seen) new) lines
  -- It ended so for a cause, and no call failed but that which ended it.
  pub cause : HasCause end turns plant.server.idle_limit reads link_then.read_half.left
  pub idles : IdlesAsEnded end plant.server.idle_limit reads
  pub read_count : link_then.read_half.faults
      ≡ count_after (read_failed_at end) link.read_half.faults
  pub write_count : link_then.write_faults
      ≡ count_after (write_failed_at end) link.write_faults
  pub trace_count : trace_then.faults ≡ count_after (trace_failed_at end) trace.faults
  pub idle_count : link_then.read_half.idles ≡ idles_after reads link.read_half.idles
  -- The session may be made anew.
  pub left : IsLeft end plant panel reads session_then
