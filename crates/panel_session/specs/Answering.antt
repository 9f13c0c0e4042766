-- What answers a session's requests, and where its bytes go: the plant itself, a seat of its lock with a trace, and a link.
use Rattle.std.specs.Prelude.{◌≡◌, ℕ, List, length, Option}
use Rattle.ctl_io.specs.Faults.{one_more}
use Rattle.ctl_io.specs.ReadHalf.{ReadHalf}
use Rattle.ctl_io.specs.Sink.{appended, AppendsPart}
use Rattle.history_lock.specs.Calls.{AddsOwn, FoundFull, IsNumbered, OnlyCalled, SeesAnswers}
use Rattle.history_lock.specs.History.{entries_of, run, IsLegal}
use Rattle.history_lock.specs.Locks.{LockData}
use Rattle.plant_config.specs.IsPlant.{IsPlant}
use Rattle.plant_config.specs.Plant.{PlantData}
use Rattle.plant_core.specs.Short.{StaysShort}
use Rattle.plant_core.specs.State.{State, IsValid, start, Fits as FitsState}
use Rattle.plant_core.specs.Step.{step}
use Rattle.plant_core.specs.declared.answer.Answer.{Answer}
use Rattle.plant_core.specs.declared.request.Request.{Request}
use Rattle.plant_core.specs.declared.request.Request.TheVariants.{Told, Poll, Leave, DisplayPoll}
use Rattle.panel_session.specs.declared.engine.at_lock.AtLock.{AtLock}
use Rattle.panel_session.specs.declared.engine.outlet.WriteHalf.{WriteHalf}
use Rattle.panel_session.specs.Entry.{PlantEntry}
use Rattle.panel_session.specs.Served.{PlantSeat, mark_after, own_lines}
use Rattle.panel_session.specs.ServedInside.{SeesMore}
use Rattle.panel_session.specs.Text.{frames_of, bytes_in}
use Rattle.panel_session.specs.Reply.{trace_line}

-- the entry of a request that a seat asked and was answered so
abbrev pub entry_of : ℕ → Request → List Answer → PlantEntry
entry_of seat request answers = record { seat = seat; request = request; answers = answers }

-- a request that a session makes
abbrev pub IsOfSession : Request → Type 0
IsOfSession (Told panel item message) = Unit {0}
IsOfSession (Poll panel item turn) = Unit {0}
IsOfSession (Leave panel) = ⊥
IsOfSession (DisplayPoll screen refresh) = ⊥

-- These bytes are those of the frames of an entry's answers.
abbrev pub IsSpelledFor : PlantEntry → List ℕ → Type 0
IsSpelledFor entry sent = sent ≡ bytes_in (frames_of entry.answers)

-- The plant's state takes the requests of this plant.
pub record ServesOf (plant : PlantData) (state : State) : Type 0 where
  pub plant_is : state.plant ≡ plant
  pub valid : IsValid state
  pub short : StaysShort state

-- Its entries may have any seat.
abbrev pub AnySeat : State → ℕ → Type 0
AnySeat state seat = Unit {0}

-- It answered a request, or several one after another, each as its step does.
pub record EntersOf (first : State) (entry : PlantEntry) (last : State) : Type 0 where
  pub fits : FitsState first entry.request
  pub answers_are : entry.answers ≡ (step first entry.request).answers
  pub state_is : last ≡ (step first entry.request).state

abbrev pub AnswersOf : State → List PlantEntry → State → Type 0
AnswersOf first entries last =
    IsLegal step FitsState first entries × (last ≡ run step first entries)

-- A seat has seen a history that goes on, in which its own entries are these, and their lines were traced.
pub record HasAnswered (plant : PlantData) (entries : List PlantEntry) (seat seat_then : PlantSeat)
    (traced traced_then : Option (List ℕ)) : Type 0 where
  pub new : List PlantEntry
  pub sees : SeesMore plant seat seat_then new
  pub full : seat_then.ticket_full ≡ mark_after new seat.ticket_full
  pub own : entries_of seat.number new ≡ entries
  pub traces : traced_then
      ≡ appended traced (own_lines plant seat.number (length seat.seen) new)

-- The seat may ask this lock of the plant.
pub record ServesAt (plant : PlantData) (lock : LockData State) (seat : PlantSeat) : Type 0 where
  pub is_plant : IsPlant plant
  pub seat_of : seat.lock ≡ lock.id
  pub first_is : seat.first ≡ start plant

-- The same seat and trace are lent, the seat is one of the same lock, and no write of the trace failed.
pub record IsSameAt {W K : Type 0} (faults : K → ℕ) (name : K → Option (List ℕ))
    (first last : AtLock W K) : Type 0 where
  pub seat_lent : last.seat.ghost_name ≡ first.seat.ghost_name
  pub trace_lent : last.trace.ghost_name ≡ first.trace.ghost_name
  pub lock_is : last.lock.now ≡ first.lock.now
  pub number : last.seat.now.number ≡ first.seat.now.number
  pub seat_of : last.seat.now.lock ≡ first.seat.now.lock
  pub first_is : last.seat.now.first ≡ first.seat.now.first
  pub trace_name : name last.trace.now ≡ name first.trace.now
  pub count : faults last.trace.now ≡ faults first.trace.now

-- These entries were answered by a seat, and traced.
pub record AnswersAt {W K : Type 0} (written : K → Option (List ℕ)) (faults : K → ℕ)
    (name : K → Option (List ℕ)) (first : AtLock W K) (entries : List PlantEntry)
    (last : AtLock W K) : Type 0 where
  pub same : IsSameAt faults name first last
  pub has : (plant : PlantData) → first.seat.now.first ≡ start plant
      → HasAnswered plant entries first.seat.now last.seat.now
      (written first.trace.now) (written last.trace.now)

-- The lock answered this at this position, which isn't traced yet.
pub record EntersAt {W K : Type 0} (faults : K → ℕ)
    (name : K → Option (List ℕ)) (first : AtLock W K) (position : ℕ) (entry : PlantEntry)
    (last : AtLock W K) : Type 0 where
  pub same : IsSameAt faults name first last
  pub trace_is : last.trace.now ≡ first.trace.now
  pub seat_is : entry.seat ≡ first.seat.now.number
  pub legal : IsLegal step FitsState first.seat.now.first last.seat.now.seen
  pub numbered : IsNumbered position last.seat.now.seen
  pub sees : SeesAnswers first.seat.now entry.request entry.answers last.seat.now
  pub own : AddsOwn first.seat.now entry.request entry.answers last.seat.now
  pub rest : OnlyCalled first.seat.now last.seat.now

-- It answered this, and a front of the line was traced: that write failed.
pub record TracesPartAt {W K : Type 0} (written : K → Option (List ℕ)) (faults : K → ℕ)
    (name : K → Option (List ℕ)) (first : AtLock W K) (entry : PlantEntry)
    (last : AtLock W K) : Type 0 where
  pub between : AtLock W K
  pub position : ℕ
  pub enters : EntersAt faults name first position entry between
  pub seat_lent : last.seat.ghost_name ≡ first.seat.ghost_name
  pub trace_lent : last.trace.ghost_name ≡ first.trace.ghost_name
  pub seat_is : last.seat.now ≡ between.seat.now
  pub part : (plant : PlantData)
      → AppendsPart (trace_line plant position entry.request entry.answers)
      (written first.trace.now) (written last.trace.now)
  pub trace_name : name last.trace.now ≡ name first.trace.now
  pub count : faults last.trace.now ≡ one_more (faults first.trace.now)

-- The history has no place, and nothing was traced.
pub record RefusesAt {W K : Type 0} (faults : K → ℕ) (name : K → Option (List ℕ))
    (first last : AtLock W K) : Type 0 where
  pub same : IsSameAt faults name first last
  pub trace_is : last.trace.now ≡ first.trace.now
  pub full : FoundFull first.seat.now last.seat.now

-- These bytes were written over a link.
pub record GivenOver {L : Type 0} (written : L → Option (List ℕ)) (faults : L → ℕ)
    (name : L → Option (List ℕ)) (half : L → ReadHalf) (first : WriteHalf L) (bytes : List ℕ)
    (last : WriteHalf L) : Type 0 where
  pub lent : last.link.ghost_name ≡ first.link.ghost_name
  pub writes : written last.link.now ≡ appended (written first.link.now) bytes
  pub count : faults last.link.now ≡ faults first.link.now
  pub name_is : name last.link.now ≡ name first.link.now
  pub half_is : half last.link.now ≡ half first.link.now

-- A shorter front of them was, for a write failed.
pub record FailedOver {L : Type 0} (written : L → Option (List ℕ)) (faults : L → ℕ)
    (name : L → Option (List ℕ)) (half : L → ReadHalf) (first : WriteHalf L) (bytes : List ℕ)
    (last : WriteHalf L) : Type 0 where
  pub lent : last.link.ghost_name ≡ first.link.ghost_name
  pub part : AppendsPart bytes (written first.link.now) (written last.link.now)
  pub count : faults last.link.now ≡ one_more (faults first.link.now)
  pub name_is : name last.link.now ≡ name first.link.now
  pub half_is : half last.link.now ≡ half first.link.now
