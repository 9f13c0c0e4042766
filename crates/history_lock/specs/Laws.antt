-- What is true of every history of every machine. The functions of `laws` promise it.
use Rattle.std.specs.Prelude.{◌≡◌, ℕ, List, [], ◌∷◌, ◌++◌}
use Rattle.history_lock.specs.declared.entry.Entry.{Entry}
use Rattle.history_lock.specs.Step.{Stepped}
use Rattle.history_lock.specs.History.{run, IsLegal, entry_at, requests_of}

-- a front of a legal history is legal
abbrev pub FrontsAreLegal : {State Request Answer : Type 0}
    → (State → Request → Stepped State Answer) → (State → Request → Type 0) → Type 0
FrontsAreLegal {State} {Request} {Answer} step Fits =
    (first : State) (front later : List (Entry Request Answer))
    → IsLegal step Fits first (front ++ later) → IsLegal step Fits first front

-- a legal history goes on with any request that fits, as the machine answers it there
abbrev pub StepsStayLegal : {State Request Answer : Type 0}
    → (State → Request → Stepped State Answer) → (State → Request → Type 0) → Type 0
StepsStayLegal {State} {Request} {Answer} step Fits =
    (first : State) (history : List (Entry Request Answer)) (seat : ℕ) (request : Request)
    → IsLegal step Fits first history → Fits (run step first history) request
    → IsLegal step Fits first (history ++ entry_at step (run step first history) seat request ∷ [])

-- two legal histories in which the same seats asked the same are the same
abbrev pub RequestsFixAnswers : {State Request Answer : Type 0}
    → (State → Request → Stepped State Answer) → (State → Request → Type 0) → Type 0
RequestsFixAnswers {State} {Request} {Answer} step Fits =
    (first : State) (one other : List (Entry Request Answer))
    → IsLegal step Fits first one → IsLegal step Fits first other
    → requests_of one ≡ requests_of other → one ≡ other

-- what a history leaves is what its end leaves, begun where its front ended
abbrev pub RunsCompose : {State Request Answer : Type 0}
    → (State → Request → Stepped State Answer) → Type 0
RunsCompose {State} {Request} {Answer} step =
    (first : State) (front later : List (Entry Request Answer))
    → run step first (front ++ later) ≡ run step (run step first front) later
