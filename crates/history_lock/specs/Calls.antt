-- What a call leaves.
use Rattle.std.specs.Prelude.{◌≡◌, ℕ, true, false, ◌+◌, ◌<◌, ◌^◌, List, [], ◌∷◌, ◌++◌, length}
use Rattle.history_lock.specs.declared.entry.Entry.{Entry}
use Rattle.history_lock.specs.declared.fault.TryFault.{TryFault}
use Rattle.history_lock.specs.declared.fault.TryFault.TheVariants.{Full, Busy}
use Rattle.history_lock.specs.History.{entries_of}
use Rattle.history_lock.specs.Seats.{SeatData}

-- The history goes on: it begins with what it was, and ends with this entry.
abbrev pub GoesOnTo : {Request Answer : Type 0} → List (Entry Request Answer)
    → Entry Request Answer → List (Entry Request Answer) → Type 0
GoesOnTo {Request} {Answer} before entry after =
    (between : List (Entry Request Answer)) × (after ≡ (before ++ between) ++ entry ∷ [])

-- The number of a call is the length of the history before it, and within the limit.
abbrev pub IsNumbered : {Request Answer : Type 0} → ℕ → List (Entry Request Answer) → Type 0
IsNumbered n history = (length history ≡ n + 1) × (n < 2 ^ 62)

-- what a seat asked, and was answered
abbrev pub asked_by : {State Request Answer : Type 0} → SeatData State Request Answer → Request
    → List Answer → Entry Request Answer
asked_by seat request answers = record { seat = seat.number; request = request; answers = answers }

-- The seat has seen a history that goes on from the one that it had seen, and ends with what it asked and was answered.
abbrev pub SeesAnswers : {State Request Answer : Type 0} → SeatData State Request Answer
    → Request → List Answer → SeatData State Request Answer → Type 0
SeesAnswers before request answers after =
    GoesOnTo before.seen (asked_by before request answers) after.seen

-- The seat's own entries are its former ones, and then what it asked and was answered.
abbrev pub AddsOwn : {State Request Answer : Type 0} → SeatData State Request Answer → Request
    → List Answer → SeatData State Request Answer → Type 0
AddsOwn before request answers after =
    entries_of before.number after.seen
    ≡ entries_of before.number before.seen ++ asked_by before request answers ∷ []

-- The entries that a history has under the seat's number are those that the seat has seen: no more, no fewer.
abbrev pub HasOwn : {State Request Answer : Type 0} → List (Entry Request Answer)
    → SeatData State Request Answer → Type 0
HasOwn history seat = entries_of seat.number history ≡ entries_of seat.number seat.seen

-- Nothing of the seat changed but the history that it has seen, and it didn't read 2^62 of `ticket`.
abbrev pub OnlyCalled : {State Request Answer : Type 0} → SeatData State Request Answer
    → SeatData State Request Answer → Type 0
OnlyCalled before after = after ≡ record before { seen = after.seen; ticket_full = false }

-- Nothing of the seat changed but the history that it has seen, and it didn't read 2^62 of `serving`.
abbrev pub OnlyTried : {State Request Answer : Type 0} → SeatData State Request Answer
    → SeatData State Request Answer → Type 0
OnlyTried before after = after ≡ record before { seen = after.seen; serving_full = false }

-- The seat read 2^62 of `ticket`, and nothing else of it changed.
abbrev pub FoundFull : {State Request Answer : Type 0} → SeatData State Request Answer
    → SeatData State Request Answer → Type 0
FoundFull before after = after ≡ record before { ticket_full = true }

-- What a refused try leaves: of `Busy` the two numbers stand behind those of the former refusals, and the second is the
-- greater.
abbrev pub IsRefused : {State Request Answer : Type 0} → SeatData State Request Answer
    → TryFault → SeatData State Request Answer → Type 0
IsRefused before Full after = after ≡ record before { serving_full = true }
IsRefused before (Busy serving ticket) after =
    (serving < ticket)
    × (after ≡ record before {
      serving_full = false;
      tried = before.tried ++ (serving, ticket) ∷ [];
    })
