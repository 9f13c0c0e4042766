-- What each step on a lock's table tells the seat that makes it.
use Rattle.std.specs.Prelude.{◌||◌, nat_lt, ◌≡◌, ℕ, ◌<◌, ◌≤◌, ◌^◌, ◌==◌, if◌then◌else◌, List, [], ◌∷◌, ◌++◌, length, slice_index, All, Option, Some, None, IfSome, MatchBool, false, ◌+◌}
use Rattle.std.specs.Option.{option_map, unwrap_or}
use mathlib.Core.List.{IsPrefix}
use Rattle.seen_value.specs.declared.seen.Seen.{Seen}
use Rattle.atomic_table.specs.Table.{Me, Step}
use Rattle.history_lock.specs.declared.entry.Entry.{Entry}
use Rattle.history_lock.specs.declared.view.Desk.{Desk}
use Rattle.history_lock.specs.declared.view.Former.{Former}
use Rattle.history_lock.specs.declared.view.View.{View}
use Rattle.history_lock.specs.declared.view.Stage.TheVariants.{Idle, Waits, Holds}
use Rattle.history_lock.specs.Step.{Stepped}
use Rattle.history_lock.specs.History.{run, IsLegal, entry_at, entries_of}
use Rattle.history_lock.specs.Rule.{Accepts}

-- what a seat knows, and whether it has the slot
abbrev pub Hand : Type 0 → Type 0 → Type 0 → Type 0
Hand State Request Answer = Me (Desk State Request) (View State Request Answer)

module _ {State Request Answer : Type 0} where
  -- the number under which a seat makes its entries
  abbrev pub number_of : View State Request Answer → ℕ
  number_of v = slice_index v.numbers 0

  -- it waits with this ticket
  abbrev pub waiting : View State Request Answer → ℕ → View State Request Answer
  waiting v t = record v { stage = Waits t }

  -- the same, and it didn't last read 2^62 of `ticket`, since it took one below
  abbrev pub queued : View State Request Answer → ℕ → View State Request Answer
  queued v t = record v { stage = Waits t; ticket_full = false }

  -- a load of `ticket`
  abbrev pub ticket_read : Step (Desk State Request) → Hand State Request Answer → ℕ
      → Hand State Request Answer → Type 0
  ticket_read at m found m' =
      (found ≤ 2 ^ 62) × (m' ≡ (record m.0 { ticket_full = found == 2 ^ 62 }, m.1))

  -- an exchange on `ticket`, in a call that waits
  abbrev pub ticket_taken : Step (Desk State Request) → Hand State Request Answer → ℕ
      → Hand State Request Answer → Type 0
  ticket_taken at m found m' =
      MatchBool (found == at.first) (m' ≡ (queued m.0 at.first, m.1)) (m' ≡ m)

  -- a load of `serving`, in a try
  abbrev pub serving_read : Step (Desk State Request) → Hand State Request Answer → ℕ
      → Hand State Request Answer → Type 0
  serving_read at m found m' =
      (found ≤ 2 ^ 62)
      × (m' ≡ (
        record m.0 {
          read = if found == 2 ^ 62 then None
              else Some found;
          serving_full = found == 2 ^ 62;
        },
        m.1,
      ))

  -- The exchange of a try. Where it fails it found a ticket above the number that was read, and the seat keeps both.
  abbrev pub ticket_tried : Step (Desk State Request) → Hand State Request Answer → ℕ
      → Hand State Request Answer → Type 0
  ticket_tried at m found m' =
      MatchBool (found == at.first)
      (m' ≡ (waiting m.0 at.first, m.1))
      ((at.first < found)
      × (m' ≡ (record m.0 { read = None; tried = m.0.tried ++ (at.first, found) ∷ [] }, m.1)))

abbrev pub longer : {A : Type 0} → List A → List A → List A
longer xs ys = if nat_lt (length xs) (length ys) then ys else xs

-- what was asked last
abbrev pub IsAsked : {State Request : Type 0} → Desk State Request → Request → Type 0
IsAsked {State} {Request} desk request =
    (asked : Seen Request) × (desk.asked ≡ Some asked) × (asked.value ≡ request)

-- it asked this, which ends the history, and its turn is over
abbrev pub ended : {State Request Answer : Type 0}
    (step : State → Request → Stepped State Answer) → State → View State Request Answer
    → Request → View State Request Answer
ended step first v request =
    record v {
      stage = Idle;
      seen = v.seen ++ entry_at step (run step first v.seen) (number_of v) request ∷ [];
    }

-- it asked this, its turn is over, and the slot is back
abbrev pub EndsTurn : {State Request Answer : Type 0}
    (step : State → Request → Stepped State Answer) → State → Request
    → Hand State Request Answer → Hand State Request Answer → Type 0
EndsTurn step first request before after = after ≡ (ended step first before.0 request, [])

-- of a seat in a call, and the machine that its lock was made with
module _ {State Request Answer : Type 0} (step : State → Request → Stepped State Answer)
    (Fits : State → Request → Type 0) (room : State → ℕ)
    (m : Hand State Request Answer) (first : State) where
  -- With its ticket it has the machine now, and has seen the whole history, in which it made no entry since it saw it last.
  pub record Enters (t : ℕ) (m' : Hand State Request Answer) : Type 0 where
    pub history : List (Entry Request Answer)
    pub desk : Desk State Request
    pub view_is : m'.0 ≡ record m.0 { stage = Holds t; seen = history; read = None }
    pub slot_is : m'.1 ≡ (0, desk) ∷ m.1
    pub machine_is : desk.machine ≡ run step first history
    pub accepts : Accepts step Fits room first desk.machine
    pub legal : IsLegal step Fits first history
    pub later : IsPrefix m.0.seen history
    pub length_is : length history ≡ t
    pub own : All (λ n. entries_of n history ≡ entries_of n m.0.seen) m.0.numbers

  -- The seat has the machine, which is the one that all that it saw leaves.
  pub record HasMachine : Type 0 where
    pub t : ℕ
    pub n : ℕ
    pub desk : Desk State Request
    pub holds : m.0.stage ≡ Holds t
    pub slot : m.1 ≡ (0, desk) ∷ []
    pub number : m.0.numbers ≡ n ∷ []
    pub first_is : m.0.first ≡ Some first
    pub all_seen : m.0.former ≡ []
    pub machine : desk.machine ≡ run step first m.0.seen
    pub accepts : Accepts step Fits room first desk.machine

  -- The seat has the machine, and asked this of it, which it took.
  pub record IsWorked (request : Request) : Type 0 where
    pub t : ℕ
    pub n : ℕ
    pub desk : Desk State Request
    pub holds : m.0.stage ≡ Holds t
    pub slot : m.1 ≡ (0, desk) ∷ []
    pub asks : IsAsked desk request
    pub number : m.0.numbers ≡ n ∷ []
    pub first_is : m.0.first ≡ Some first
    pub all_seen : m.0.former ≡ []
    pub machine : desk.machine ≡ (step (run step first m.0.seen) request).state
    pub fits : Fits (run step first m.0.seen) request
    pub accepts : Accepts step Fits room first desk.machine

module _ {State Request Answer : Type 0} (step : State → Request → Stepped State Answer)
    (Fits : State → Request → Type 0) (room : State → ℕ) where
  -- a load of `serving` by a seat with a ticket
  abbrev pub turn_awaited : Step (Desk State Request) → Hand State Request Answer → ℕ
      → Hand State Request Answer → Type 0
  turn_awaited at m found m' =
      (t : ℕ) (first : State) → m.0.stage ≡ Waits t → m.0.first ≡ Some first →
      (found ≤ t) × IfSome m.0.read (λ n. n ≤ found)
      × MatchBool (found == t) (Enters step Fits room m first t m') (m' ≡ m)

  -- the step that raises `serving`: what was asked of the machine ends the history, and the slot is back
  abbrev pub turn_ended : Step (Desk State Request) → Hand State Request Answer → ℕ
      → Hand State Request Answer → Type 0
  turn_ended at m found m' =
      (t : ℕ) (first : State) (desk : Desk State Request) (request : Request) →
      m.0.stage ≡ Holds t → m.0.first ≡ Some first → m.1 ≡ (0, desk) ∷ [] → IsAsked desk request →
      EndsTurn step first request m m'

module _ {State Request Answer : Type 0} where
  -- a seat that has seen nothing, under this number
  abbrev pub fresh : Option State → ℕ → View State Request Answer
  fresh first number = record {
    first = first;
    numbers = number ∷ [];
    given = None;
    seen = [];
    former = [];
    stage = Idle;
    read = None;
    tried = [];
    ticket_full = false;
    serving_full = false;
  }

  -- the maker of the seats, once it gave one more number
  abbrev pub gave : View State Request Answer → View State Request Answer
  gave v = record v { given = option_map (λ k. k + 1) v.given }

  -- the seat to which it gave the number
  abbrev pub given_to : View State Request Answer → View State Request Answer
  given_to v = fresh v.first (unwrap_or v.given 0)

  -- what a note knows: what was seen
  abbrev pub noted : View State Request Answer → View State Request Answer
  noted v = record {
    first = v.first;
    numbers = [];
    given = None;
    seen = v.seen;
    former = [];
    stage = Idle;
    read = None;
    tried = [];
    ticket_full = false;
    serving_full = false;
  }

  -- what is left of a view that was joined to another
  abbrev pub spent : View State Request Answer
  spent = record {
    first = None;
    numbers = [];
    given = None;
    seen = [];
    former = [];
    stage = Idle;
    read = None;
    tried = [];
    ticket_full = false;
    serving_full = false;
  }

  -- what a view saw, and under which numbers
  abbrev pub was : View State Request Answer → Former Request Answer
  was v = record { numbers = v.numbers; seen = v.seen }

  -- a note was joined to a view
  abbrev pub with_note : View State Request Answer → View State Request Answer
      → View State Request Answer
  with_note v w = record v { seen = longer v.seen w.seen; former = was v ∷ was w ∷ v.former }

  -- a seat was joined to a view, with its numbers
  abbrev pub with_seat : View State Request Answer → View State Request Answer
      → View State Request Answer
  with_seat v w = record v {
    numbers = v.numbers ++ w.numbers;
    seen = longer v.seen w.seen;
    former = was v ∷ was w ∷ v.former;
    ticket_full = v.ticket_full || w.ticket_full;
    serving_full = v.serving_full || w.serving_full;
  }

  -- what a look tells of what was joined to a view
  abbrev pub Tells : View State Request Answer → Type 0
  Tells v = All
      (λ former. IsPrefix former.seen v.seen
      × All (λ n. entries_of n v.seen ≡ entries_of n former.seen) former.numbers) v.former

  -- a load of `serving` once others were joined to the seat
  abbrev pub looked : Step (Desk State Request) → Hand State Request Answer → ℕ
      → Hand State Request Answer → Type 0
  looked at m found m' = (m' ≡ (record m.0 { former = [] }, m.1)) × Tells m.0
