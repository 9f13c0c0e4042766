-- A session that is served, step by step.
use Rattle.std.specs.Prelude.{◌≡◌, ◌≢◌, ℕ, ◌≤◌, List, [], ◌∷◌, ◌++◌, length, map, All, Option}
use Rattle.std.specs.Option.{option_map}
use mathlib.Core.List.{IsPrefix}
use Rattle.ctl_io.specs.Faults.{one_more}
use Rattle.ctl_io.specs.Sink.{appended}
use Rattle.ctl_io.specs.Source.{IsAtEnd}
use Rattle.ctl_net.specs.Acceptor.{LinkEnd}
use Rattle.dle_framing.specs.Items.{items}
use Rattle.history_lock.specs.History.{entries_of, IsLegal}
use Rattle.history_lock.specs.Locks.{LockData}
use Rattle.plant_config.specs.IsPlant.{IsPlant}
use Rattle.plant_config.specs.Plant.{PlantData}
use Rattle.plant_core.specs.State.{State, start, Fits as Takes}
use Rattle.plant_core.specs.Step.{step}
use Rattle.panel_session.specs.declared.session.Session.{Session}
use Rattle.panel_session.specs.Acting.{MayGoOn}
use Rattle.panel_session.specs.Run.{CompletesText, turned}
use Rattle.panel_session.specs.Turns.{Turn, bytes_read, entries_of_turns}
use Rattle.panel_session.specs.declared.serve.SessionEnd.{SessionEnd}
use Rattle.panel_session.specs.declared.serve.SessionEnd.TheVariants.{Ended, ReadFault, WriteFault, TraceFault, Full}
use Rattle.panel_session.specs.declared.session.cut.Cut.{Cut}
use Rattle.panel_session.specs.declared.session.cut.Cut.TheVariants.{Refused, Untraced, Unsent}
use Rattle.panel_session.specs.Entry.{PlantEntry}
use Rattle.panel_session.specs.Served.{PlantSeat, TraceData, AnsweredButLast, AreTaken, StandsOrAwaits, TracesUnless, all_read, full_after, idles_after, mark_after, own_lines, read_of, read_room, trace_failed_at}
use Rattle.panel_session.specs.Session.{StandsFor}
use Rattle.panel_session.specs.Text.{IsText}
use Rattle.panel_session.specs.SoFar.{Progress, nothing_yet, entries_so_far, read_so_far, unstarted}

-- what is outside of a session: its seat, what was written over its link, and what was written of its trace
pub record Outside : Type 0 where
  pub seat : PlantSeat
  pub written : Option (List ℕ)
  pub traced : Option (List ℕ)

abbrev pub outside : PlantSeat → Option (List ℕ) → Option (List ℕ) → Outside
outside seat written traced = record { seat = seat; written = written; traced = traced }

-- A seat has seen a history that goes on with these entries from what it had seen, and is legal where there are some. It is the
-- same seat.
pub record SeesMore (plant : PlantData) (seat seat_then : PlantSeat) (new : List PlantEntry)
    : Type 0 where
  pub seen : seat_then.seen ≡ seat.seen ++ new
  pub same : seat_then
      ≡ record seat { seen = seat_then.seen; ticket_full = seat_then.ticket_full }
  pub legal : new ≢ [] → IsLegal step Takes (start plant) seat_then.seen

-- A session has gone on from one past to another. Its seat saw a history that goes on with these entries, of which its own are
-- those that the session has more; the bytes that it has sent more were written; and the lines of its own entries were traced.
pub record HasGoneOn (plant : PlantData) (before after : Outside) (past now : Progress)
    : Type 0 where
  pub new : List PlantEntry
  pub sees : SeesMore plant before.seat after.seat new
  pub full : after.seat.ticket_full ≡ mark_after new before.seat.ticket_full
  pub entries : entries_so_far now ≡ entries_so_far past ++ entries_of before.seat.number new
  pub sent : List ℕ
  pub sent_is : now.sent ≡ past.sent ++ sent
  pub written : after.written ≡ appended before.written sent
  pub traced : after.traced
      ≡ appended before.traced (own_lines plant before.seat.number (length before.seat.seen) new)

-- A session went on from one past to another and was cut short there. The bytes that it has sent more were written, or a front
-- of them, with all that it had to say when it asked last; and so were the lines traced.
pub record HasBrokenOff (plant : PlantData) (end : SessionEnd) (before after : Outside)
    (past now : Progress) : Type 0 where
  pub new : List PlantEntry
  pub sees : SeesMore plant before.seat after.seat new
  pub full : after.seat.ticket_full ≡ full_after end new before.seat.ticket_full
  pub entries : entries_so_far now ≡ entries_so_far past ++ entries_of before.seat.number new
  pub bytes : List ℕ
  pub front : IsPrefix (past.sent ++ bytes) now.sent
  pub answered :
      AnsweredButLast plant (read_so_far now) (entries_so_far now) (past.sent ++ bytes)
  pub written : after.written ≡ appended before.written bytes
  pub lines : List ℕ
  pub traced : after.traced ≡ appended before.traced lines
  pub traces : TracesUnless (trace_failed_at end)
      (own_lines plant before.seat.number (length before.seat.seen) new) lines

-- In a past all was sent that the session had to say when it asked last.
abbrev pub KeepsAnswered : PlantData → Progress → Type 0
KeepsAnswered plant past =
    AnsweredButLast plant (read_so_far past) (entries_so_far past) past.sent

-- A piece may be a turn of a session behind a past, whose seat is one of its plant's lock.
pub record MayServeTurn (session : Session) (lock : LockData State) (seat : PlantSeat)
    (piece : List ℕ) : Type 0 where
  pub plant : PlantData
  pub panel : ℕ
  pub past : Progress
  pub stands : StandsFor plant panel session past
  pub begins : past.now ≡ unstarted
  pub may : MayGoOn past piece
  pub answered : KeepsAnswered plant past
  pub is_plant : IsPlant plant
  pub seat_of : seat.lock ≡ lock.id
  pub first : seat.first ≡ start plant

-- A turn with this piece was worked behind a past: the session has gone on to the past with one turn more, in which all of its
-- text was written.
pub record HasServed (plant : PlantData) (panel : ℕ) (past : Progress) (piece : List ℕ)
    (session_then : Session) (before after : Outside) : Type 0 where
  pub turn : Turn
  pub sent : List ℕ
  pub piece_is : turn.piece ≡ piece
  pub gone : HasGoneOn plant before after past (turned turn sent past)
  pub stands : StandsFor plant panel session_then (turned turn sent past)
  pub answered : KeepsAnswered plant (turned turn sent past)
  pub text : CompletesText plant past turn sent

-- A turn with this piece was cut short behind a past: the session went on to this past, and this is left of the piece.
pub record WasStopped (plant : PlantData) (panel : ℕ) (end : SessionEnd) (past : Progress)
    (piece : List ℕ) (session_then : Session) (before after : Outside) : Type 0 where
  pub now : Progress
  pub rest : List ℕ
  pub broken : HasBrokenOff plant end before after past now
  pub left : StandsOrAwaits plant panel session_then now
  pub turns : now.turns ≡ past.turns
  pub piece_is : now.now.piece ++ rest ≡ piece
  pub idle : now.now.polls ≢ [] → rest ≡ []

-- how a session ends whose turn was cut short so
abbrev pub ended_by : Cut → SessionEnd
ended_by Refused = Full
ended_by Untraced = TraceFault
ended_by Unsent = WriteFault

-- A read of a link gave this piece.
pub record GavePiece (piece : List ℕ) (link link_then : LinkEnd) : Type 0 where
  pub short : length piece ≤ read_room
  pub told : link_then.read_half.reads
      ≡ option_map (λ former. former ++ read_of piece ∷ []) link.read_half.reads
  pub taken : AreTaken piece link.read_half.left link_then.read_half.left
  pub faults : link_then.read_half.faults ≡ link.read_half.faults
  pub idles : link_then.read_half.idles ≡ idles_after (piece ∷ []) link.read_half.idles
  pub written : link_then.written ≡ link.written
  pub write_faults : link_then.write_faults ≡ link.write_faults

-- How a session ends at a read: the link has nothing left, or the read failed.
abbrev pub EndsAtRead : SessionEnd → LinkEnd → LinkEnd → Type 0
EndsAtRead Ended link link_then = IsAtEnd link.read_half.left × (link_then ≡ link)
EndsAtRead ReadFault link link_then =
    link_then ≡ record link {
      read_half = record link.read_half { faults = one_more link.read_half.faults };
    }
EndsAtRead other link link_then = ⊥

-- A session has worked these reads, each as a turn: it has gone on from nothing to a past of them, in which all of its text was
-- written, and no call failed.
pub record HasTurned (plant : PlantData) (panel : ℕ) (reads : List (List ℕ))
    (session_now : Session) (seat seat_now : PlantSeat) (link link_now : LinkEnd)
    (trace trace_now : TraceData) : Type 0 where
  pub past : Progress
  pub stands : StandsFor plant panel session_now past
  pub begins : past.now ≡ unstarted
  pub pieces : map (λ turn. turn.piece) past.turns ≡ reads
  pub gone : HasGoneOn plant (outside seat link.written trace.written)
      (outside seat_now link_now.written trace_now.written) nothing_yet past
  pub text : IsText plant (items (bytes_read past.turns)) (entries_of_turns past.turns) past.sent
  pub answered : KeepsAnswered plant past
  pub short : All (λ read. length read ≤ read_room) reads
  pub told : link_now.read_half.reads
      ≡ option_map (λ former. former ++ map read_of reads) link.read_half.reads
  pub taken : AreTaken (all_read reads) link.read_half.left link_now.read_half.left
  pub read_count : link_now.read_half.faults ≡ link.read_half.faults
  pub idle_count : link_now.read_half.idles ≡ idles_after reads link.read_half.idles
  pub write_count : link_now.write_faults ≡ link.write_faults
  pub trace_count : trace_now.faults ≡ trace.faults
