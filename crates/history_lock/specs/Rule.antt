-- The rule of a lock's table: there is one legal history, and whatever the words, the slot and the seats are agrees with it.
use Rattle.std.specs.Prelude.{◌≡◌, ℕ, ◌<◌, ◌≤◌, ◌^◌, ◌⊎◌, true, List, [], ◌∷◌, length, All, Option, Some, None, IfSome}
use mathlib.Core.Option.{none, some}
use mathlib.Core.List.{IsPrefix}
use lib.ListN.{get_elem?}
use Rattle.atomic_table.specs.Table as table
use Rattle.history_lock.specs.declared.entry.Entry.{Entry}
use Rattle.history_lock.specs.declared.view.Start.{Start}
use Rattle.history_lock.specs.declared.view.Desk.{Desk}
use Rattle.history_lock.specs.declared.view.Former.{Former}
use Rattle.history_lock.specs.declared.view.View.{View}
use Rattle.history_lock.specs.declared.view.Stage.{Stage}
use Rattle.history_lock.specs.declared.view.Stage.TheVariants.{Idle, Waits, Holds}
use Rattle.history_lock.specs.Step.{Stepped}
use Rattle.history_lock.specs.History.{run, IsLegal, entries_of}

-- the ticket of a seat that is in a call
abbrev pub ticket_of : Stage → Option ℕ
ticket_of Idle = None
ticket_of (Waits t) = Some t
ticket_of (Holds t) = Some t

module _ {State Request Answer : Type 0} (step : State → Request → Stepped State Answer)
    (Fits : State → Request → Type 0) (room : State → ℕ) where
  -- A machine takes what the first one took, with as many answers.
  pub record Accepts (first now : State) : Type 0 where
    pub same_room : room now ≡ room first
    pub still_fits : (request : Request) → Fits first request → Fits now request

  -- A former one saw a front of what is seen now, in which all entries stood that were made under its numbers.
  abbrev pub WasSeen : List (Entry Request Answer) → ℕ → (ℕ → ℕ) → ℕ → View State Request Answer
      → Former Request Answer → Type 0
  WasSeen history given bearer id v former =
      IsPrefix former.seen v.seen
      × All (λ n. (n < given) × (bearer n ≡ id) × (entries_of n history ≡ entries_of n former.seen)
      × (entries_of n v.seen ≡ entries_of n former.seen)) former.numbers

-- of the view of the seat `id`, in a table with this history and so many tickets and numbers in use, of each of which
-- there is one view: its owner, its bearer
module _ {State Request Answer : Type 0} (step : State → Request → Stepped State Answer)
    (Fits : State → Request → Type 0) (room : State → ℕ)
    (first : State) (history : List (Entry Request Answer)) (ticket given : ℕ)
    (owner bearer : ℕ → ℕ) (id : ℕ) (v : View State Request Answer) where
  -- It bears this number, and has seen all entries that were made under it.
  abbrev pub IsBorne : ℕ → Type 0
  IsBorne n = (n < given) × (bearer n ≡ id) × (entries_of n history ≡ entries_of n v.seen)

  -- It owns this ticket, which is still in use, and has a number to make its entry under.
  abbrev pub IsOwned : ℕ → Type 0
  IsOwned t = (length history ≤ t) × (t < ticket) × (owner t ≡ id) × (0 < length v.numbers)

  -- What is so of a view.
  pub record Knows : Type 0 where
    pub first_is : IfSome v.first (λ f. f ≡ first)
    pub seen_is : IsPrefix v.seen history
    pub former_are : All (WasSeen step Fits room history given bearer id v) v.former
    pub number_is : All IsBorne v.numbers
    pub given_is : IfSome v.given (λ k. (k ≡ given) × (id ≡ 0))
    pub ticket_is : IfSome (ticket_of v.stage) IsOwned
    pub holds : (t : ℕ) → v.stage ≡ Holds t → (t ≡ length history) × (v.seen ≡ history)
    pub read_is : IfSome v.read (λ n. n ≤ length history)
    pub ticket_full_is : v.ticket_full ≡ true → ticket ≡ 2 ^ 62
    pub serving_full_is : v.serving_full ≡ true → length history ≡ 2 ^ 62

module _ {State Request Answer : Type 0} (step : State → Request → Stepped State Answer)
    (Fits : State → Request → Type 0) (room : State → ℕ) where
  abbrev pub LockTable : Type 0
  LockTable = table.State (Desk State Request) (View State Request Answer)

  -- the slot has the machine that the history leaves
  abbrev pub IsHome : State → List (Entry Request Answer) → LockTable → Type 0
  IsHome first history s = (desk : Desk State Request) × (s.homes ≡ some desk ∷ [])
      × (desk.machine ≡ run step first history)

  -- the machine is with a seat
  abbrev pub IsOut : LockTable → Type 0
  IsOut s = (s.homes ≡ none ∷ [])
      × ((id : ℕ) × (v : View State Request Answer) × (t : ℕ) × (get_elem? s.views id ≡ some v)
      × (v.stage ≡ Holds t))

  -- Each ticket in use is that of a call in which its owner is.
  abbrev pub EachTicketIsOwned : LockTable → List (Entry Request Answer) → ℕ → (ℕ → ℕ) → Type 0
  EachTicketIsOwned s history ticket owner = (t : ℕ) → length history ≤ t → t < ticket
      → (v : View State Request Answer) × (get_elem? s.views (owner t) ≡ some v)
      × (ticket_of v.stage ≡ Some t)

  -- Each view of the table knows what is so of it.
  abbrev pub EachViewKnows : LockTable → State → List (Entry Request Answer) → ℕ → ℕ → (ℕ → ℕ)
      → (ℕ → ℕ) → Type 0
  EachViewKnows s first history ticket given owner bearer =
      (id : ℕ) (v : View State Request Answer) → get_elem? s.views id ≡ some v
      → Knows step Fits room first history ticket given owner bearer id v

  pub record Kept (start : Start State) (s : LockTable) : Type 0 where
    pub history : List (Entry Request Answer)
    pub ticket : ℕ
    pub given : ℕ
    pub owner : ℕ → ℕ
    pub bearer : ℕ → ℕ
    pub words_are : s.words ≡ length history ∷ ticket ∷ []
    pub in_order : length history ≤ ticket
    pub limit : ticket ≤ 2 ^ 62
    pub legal : IsLegal step Fits start.machine.value history
    pub accepts : Accepts step Fits room start.machine.value (run step start.machine.value history)
    pub some_given : given ≤ start.seats
    pub by_seats : All (λ entry. entry.seat < given) history
    pub each_ticket : EachTicketIsOwned s history ticket owner
    pub machine_is : IsHome start.machine.value history s ⊎ IsOut s
    pub each_view : EachViewKnows s start.machine.value history ticket given owner bearer

  -- what the first seat knows: nothing, but that no number was given
  abbrev pub maker : Start State → View State Request Answer
  maker start = record {
    first = Some start.machine.value;
    numbers = [];
    given = Some 0;
    seen = [];
    former = [];
    stage = Idle;
    read = None;
    tried = [];
    ticket_full = Rattle.std.specs.Prelude.false;
    serving_full = Rattle.std.specs.Prelude.false;
  }
