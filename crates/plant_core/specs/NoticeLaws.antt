-- What is true of the notices of every valid state, said by panels, places and answers.
use Rattle.std.specs.Prelude.{◌≡◌, ◌≢◌, ◌⊎◌, ℕ, ◌<◌, ◌≤◌, Bool, true, false, List, [], ◌∷◌, ◌++◌, length, take, drop, map, All, Some}
use Rattle.std.specs.FinMap.{get}
use Rattle.swp08_messages.specs.declared.point.Point.{Point}
use Rattle.swp08_messages.specs.declared.message.Message.{Message}
use Rattle.swp08_messages.specs.declared.message.Message.TheVariants.{Connect, ExtConnect, ProtectConnect, ProtectDisconnect, Go}
use Rattle.plant_config.specs.Plant.{destinations_of}
use Rattle.plant_config.specs.Sites.{dest_at}
use Rattle.change_boards.specs.Board.{Board}
use Rattle.change_boards.specs.Notices.{board_of, has, has_left}
use Rattle.change_boards.specs.Laws.{Leaves, Removes, notices_below}
use Rattle.change_boards.specs.declared.sort.Sort.{Sort}
use Rattle.change_boards.specs.declared.sort.Sort.TheVariants.{Source, Protect}
use Rattle.history_lock.specs.Step.{Stepped}
use Rattle.plant_core.specs.declared.request.Request.{Request}
use Rattle.plant_core.specs.declared.request.Request.TheVariants.{Told, Poll, Leave}
use Rattle.plant_core.specs.declared.answer.Answer.{Answer}
use Rattle.crosspoint_state.specs.Crosspoints.{source_of}
use Rattle.plant_core.specs.State.{State, IsValid, owner_at}
use Rattle.plant_core.specs.Step.{step, notice_of, told_source, told_owner}
use Rattle.plant_core.specs.Laws.{CarryAsBefore, after}

-- Each panel but the asker that hasn't left has this notice of a destination.
abbrev pub OthersHear : List Board → List Board → ℕ → ℕ → Sort → Type 0
OthersHear old new asker dest sort = (panel : ℕ)
    → panel < length old → panel ≢ asker → has_left old panel ≡ false
    → has new panel dest sort ≡ true

-- The board of whoever has left is as it was.
abbrev pub BoardsOfLeaversStay : List Board → List Board → Type 0
BoardsOfLeaversStay old new =
    (panel : ℕ) → has_left old panel ≡ true → board_of new panel ≡ board_of old panel

-- No panel's notice came or went, but this one of this destination.
abbrev pub OtherNoticesStay : List Board → List Board → ℕ → Sort → Type 0
OtherNoticesStay old new dest sort = (panel d : ℕ) (s : Sort)
    → (let notice : ℕ × Sort = (d, s) in notice ≢ (dest, sort))
    → has new panel d s ≡ has old panel d s

-- All panels but the asker have this notice of a destination, if they haven't left. The asker has the notices that it had,
-- and so has whoever has left. No other notice came or went, and nobody left.
pub record IsHeard (old new : List Board) (asker dest : ℕ) (sort : Sort) : Type 0 where
  pub heard : OthersHear old new asker dest sort
  pub own : board_of new asker ≡ board_of old asker
  pub gone : BoardsOfLeaversStay old new
  pub others : OtherNoticesStay old new dest sort
  pub left : (panel : ℕ) → has_left new panel ≡ has_left old panel

-- The source of a destination changed, or its owner did.
abbrev pub SourceChanged : State → State → ℕ → Type 0
SourceChanged old new dest = source_of new.crosspoints dest ≢ source_of old.crosspoints dest

abbrev pub OwnerChanged : State → State → ℕ → Type 0
OwnerChanged old new dest = get new.owners dest ≢ get old.owners dest

-- Each destination has the owner that it had.
abbrev pub OwnedAsBefore : State → State → Type 0
OwnedAsBefore old new = (dest : ℕ) → get new.owners dest ≡ get old.owners dest

-- Each panel that hasn't left has notice of each destination whose source changed.
abbrev pub AllHear : State → State → Type 0
AllHear old new = (panel dest : ℕ)
    → panel < length old.boards → has_left old.boards panel ≡ false → SourceChanged old new dest
    → has new.boards panel dest Source ≡ true

-- No notice came or went, but those of the sources of destinations that carry another source now.
abbrev pub NoOthersHear : State → State → Type 0
NoOthersHear old new = (panel dest : ℕ) (sort : Sort)
    → ((sort ≡ Source) → ¬ SourceChanged old new dest)
    → has new.boards panel dest sort ≡ has old.boards panel dest sort

-- All panels that haven't left have notice of the sources that changed, the asker too. Whoever has left has the notices
-- that it had. No other notice came or went, and nobody left.
pub record AreHeardByAll (old new : State) : Type 0 where
  pub heard : AllHear old new
  pub gone : BoardsOfLeaversStay old.boards new.boards
  pub others : NoOthersHear old new
  pub left : (panel : ℕ) → has_left new.boards panel ≡ has_left old.boards panel

-- What is told of a place for a notice: the source that stands there, or its owner.
abbrev pub Tells : State → Point → Sort → Answer → Type 0
Tells state at Source answer = answer ≡ told_source state at
Tells state at Protect answer = answer ≡ told_owner at (owner_at state at)

-- A panel is told of a destination. It had this notice of it and none before that, and the answer is the source that stands
-- there, or its owner. The notice is gone, and nothing else changed.
pub record IsTold (old : State) (panel dest : ℕ) (sort : Sort)
    (stepped : Stepped State Answer) : Type 0 where
  pub at : Point
  pub place : dest_at old.plant at.matrix at.level at.dest ≡ Some dest
  pub told : Answer
  pub answer : stepped.answers ≡ told ∷ []
  pub tells : Tells old at sort told
  pub taken : Removes old.boards stepped.state.boards panel dest sort
  pub rest : stepped.state ≡ record old { boards = stepped.state.boards }

-- A poll with these numbers, made in this state, tells its panel of a destination.
abbrev pub PollTells : State → ℕ → ℕ → ℕ → ℕ → Sort → Type 0
PollTells state panel item turn dest sort =
    IsTold state panel dest sort (step state (Poll panel item turn))

-- One of a list of requests is a poll by which a panel is told of a destination.
pub record IsToldAmong (state : State) (panel dest : ℕ) (sort : Sort)
    (requests : List Request) : Type 0 where
  pub before : List Request
  pub behind : List Request
  pub item : ℕ
  pub turn : ℕ
  pub among : requests ≡ before ++ Poll panel item turn ∷ behind
  pub told : PollTells (after state before) panel item turn dest sort

-- No request is a leave of this panel.
abbrev pub Remains : ℕ → List Request → Type 0
Remains panel requests = All (λ request. request ≢ Leave panel) requests

-- A request is neither a poll nor a leave of this panel.
abbrev pub IsNoPollOrLeave : ℕ → Request → Type 0
IsNoPollOrLeave panel request =
    ((item turn : ℕ) → request ≢ Poll panel item turn) × (request ≢ Leave panel)

-- polls of one panel, with these items and turns
abbrev pub polls_of : ℕ → List (ℕ × ℕ) → List Request
polls_of panel numbers = map (λ number. Poll panel number.0 number.1) numbers

-- the answers to each of a list of requests
abbrev pub answers_of : State → List Request → List (List Answer)
answers_of state [] = []
answers_of state (request ∷ requests) =
    (step state request).answers ∷ answers_of (step state request).state requests

-- what is told for each of some notices
abbrev pub told_each : State → List (ℕ × Sort) → List (List Answer)
told_each state notices = map (λ notice. notice_of state (Some notice)) notices

-- the notices of a panel, in the order in which polls take them
abbrev pub notices_of : State → ℕ → List (ℕ × Sort)
notices_of state panel = notices_below (destinations_of state.plant) (board_of state.boards panel)

-- A request is answered, and changes all but the notices, in two states alike.
pub record IsServedAlike (one other : State) (request : Request) : Type 0 where
  pub answers : (step one request).answers ≡ (step other request).answers
  pub crosspoints : (step one request).state.crosspoints ≡ (step other request).state.crosspoints
  pub owners : (step one request).state.owners ≡ (step other request).state.owners
  pub groups : (step one request).state.groups ≡ (step other request).state.groups

-- A connect, a protect or a lift of a destination.
abbrev pub IsOfOne : Message → Type 0
IsOfOne (Connect at source) = Unit {0}
IsOfOne (ExtConnect at source) = Unit {0}
IsOfOne (ProtectConnect at device) = Unit {0}
IsOfOne (ProtectDisconnect at device) = Unit {0}
IsOfOne message = ⊥

-- a connect that changes a source gives notice of it to all other panels that haven't left, and to nobody else
abbrev pub SourcesAreHeard : Type 0
SourcesAreHeard = (state : State) (panel item dest : ℕ) (message : Message)
    → IsValid state → IsOfOne message
    → (let new : State = (step state (Told panel item message)).state
    in SourceChanged state new dest → IsHeard state.boards new.boards panel dest Source)

-- so does a protect or a lift that changes an owner
abbrev pub OwnersAreHeard : Type 0
OwnersAreHeard = (state : State) (panel item dest : ℕ) (message : Message)
    → IsValid state → IsOfOne message
    → (let new : State = (step state (Told panel item message)).state
    in OwnerChanged state new dest → IsHeard state.boards new.boards panel dest Protect)

-- a go gives notice of the sources that it changes to all panels that haven't left, the asker too, and of nothing else
abbrev pub GoesAreHeard : Type 0
GoesAreHeard = (state : State) (panel item salvo : ℕ) (clear : Bool) → IsValid state
    → AreHeardByAll state (step state (Told panel item (Go clear salvo))).state

-- what a panel tells gives no notice where it changes neither a source nor an owner, whatever becomes of the ties
abbrev pub OthersAreQuiet : Type 0
OthersAreQuiet = (state : State) (panel item : ℕ) (message : Message)
    → (let new : State = (step state (Told panel item message)).state
    in IsValid state → CarryAsBefore state new → OwnedAsBefore state new
    → new.boards ≡ state.boards)

-- a poll of a panel that has a notice tells it of one destination
abbrev pub PollsTell : Type 0
PollsTell = (state : State) (panel dest item turn : ℕ) (sort : Sort)
    → IsValid state → has state.boards panel dest sort ≡ true
    → (first : ℕ) × (kind : Sort) × PollTells state panel item turn first kind

-- a poll of a panel that has no notice has no answer, and changes nothing
abbrev pub PollsOfNoneAreSilent : Type 0
PollsOfNoneAreSilent = (state : State) (panel item turn : ℕ)
    → IsValid state → ((dest : ℕ) (sort : Sort) → has state.boards panel dest sort ≡ false)
    → step state (Poll panel item turn) ≡ record { state = state; answers = [] }

-- a notice stands behind each request that is neither a poll nor a leave of its panel
abbrev pub OthersLeaveNotices : Type 0
OthersLeaveNotices = (state : State) (panel dest : ℕ) (sort : Sort) (request : Request)
    → IsNoPollOrLeave panel request → has state.boards panel dest sort ≡ true
    → has (step state request).state.boards panel dest sort ≡ true

-- whatever is asked, a notice of a panel that remains stands, or the panel was told
abbrev pub NoticesStandUntilTold : Type 0
NoticesStandUntilTold = (state : State) (panel dest : ℕ) (sort : Sort) (later : List Request)
    → IsValid state → has state.boards panel dest sort ≡ true → Remains panel later
    → (has (after state later).boards panel dest sort ≡ true)
    ⊎ IsToldAmong state panel dest sort later

-- polls of a panel, no more than it has notices, tell it of these in their order
abbrev pub PollsTellInOrder : Type 0
PollsTellInOrder = (state : State) (panel : ℕ) (numbers : List (ℕ × ℕ))
    → IsValid state → panel < length state.plant.panels
    → length numbers ≤ length (notices_of state panel)
    → answers_of state (polls_of panel numbers)
    ≡ told_each state (take (length numbers) (notices_of state panel))

-- so many polls of a panel leave it all but so many of its notices, the first
abbrev pub PollsLeaveTheRest : Type 0
PollsLeaveTheRest = (state : State) (panel : ℕ) (numbers : List (ℕ × ℕ))
    → IsValid state → panel < length state.plant.panels
    → notices_of (after state (polls_of panel numbers)) panel
    ≡ drop (length numbers) (notices_of state panel)

-- a leave takes its panel's notices, and changes nothing of another panel
abbrev pub LeavesAreHeeded : Type 0
LeavesAreHeeded = (state : State) (panel : ℕ)
    → panel < length state.boards
    → Leaves state.boards (step state (Leave panel)).state.boards panel

-- whoever has left has left whatever is asked
abbrev pub LeaversStayAway : Type 0
LeaversStayAway = (state : State) (panel : ℕ) (later : List Request)
    → has_left state.boards panel ≡ true → has_left (after state later).boards panel ≡ true

-- a poll of a panel that has left has no answer, and changes nothing
abbrev pub LeaversHearNothing : Type 0
LeaversHearNothing = (state : State) (panel item turn : ℕ)
    → IsValid state → has_left state.boards panel ≡ true
    → step state (Poll panel item turn) ≡ record { state = state; answers = [] }

-- what a panel tells is served alike before and behind any panel's leave
abbrev pub LeaversAreServed : Type 0
LeaversAreServed = (state : State) (leaver panel item : ℕ) (message : Message)
    → IsServedAlike (step state (Leave leaver)).state state (Told panel item message)
