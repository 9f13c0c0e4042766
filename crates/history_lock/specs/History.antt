-- What was asked of a machine and answered, in one order. `step` is the machine's one function, and `Fits` says which
-- requests it takes.
use Rattle.std.specs.Prelude.{◌≡◌, ◌==◌, ℕ, List, [], ◌∷◌, filter, map}
use Rattle.history_lock.specs.declared.entry.Entry.{Entry}
use Rattle.history_lock.specs.Step.{Stepped}

-- the state that a history leaves, begun in a first state
abbrev pub run : {State Request Answer : Type 0} → (State → Request → Stepped State Answer)
    → State → List (Entry Request Answer) → State
run step first [] = first
run step first (entry ∷ later) = run step (step first entry.request).state later

-- A history is legal from a first state where each request fits in the state that the entries before it leave, and is
-- answered as the machine answers there.
abbrev pub IsLegal : {State Request Answer : Type 0}
    → (State → Request → Stepped State Answer) → (State → Request → Type 0)
    → State → List (Entry Request Answer) → Type 0
IsLegal step Fits first [] = Unit {0}
IsLegal step Fits first (entry ∷ later) =
    Fits first entry.request × (entry.answers ≡ (step first entry.request).answers)
    × IsLegal step Fits (step first entry.request).state later

-- what a seat's request is answered in a state
abbrev pub entry_at : {State Request Answer : Type 0}
    → (State → Request → Stepped State Answer) → State → ℕ → Request
    → Entry Request Answer
entry_at step state seat request =
    record { seat = seat; request = request; answers = (step state request).answers }

-- the entries of one seat, in order
abbrev pub entries_of : {Request Answer : Type 0} → ℕ → List (Entry Request Answer)
    → List (Entry Request Answer)
entries_of seat history = filter (λ entry. entry.seat == seat) history

-- which seats asked what, in order
abbrev pub requests_of : {Request Answer : Type 0} → List (Entry Request Answer)
    → List (ℕ × Request)
requests_of history = map (λ entry. (entry.seat, entry.request)) history
