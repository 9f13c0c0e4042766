-- What is true of every state and every step, said by places and answers, without the step's cases.
use Rattle.std.specs.Prelude.{◌≡◌, ◌≢◌, ℕ, ◌≤◌, Bool, true, false, List, [], ◌∷◌, length, All, slice_get, Option, Some, None, IfSome, IsSome, IsNone}
use Rattle.std.specs.FinMap.{get}
use Rattle.swp08_messages.specs.declared.point.Point.{Point}
use Rattle.swp08_messages.specs.declared.message.Message.{Message}
use Rattle.swp08_messages.specs.declared.message.Message.TheVariants.{Interrogate, ExtInterrogate, DumpAsk, ProtectAsk, EntryAsk, Go}
use Rattle.plant_config.specs.Plant.{PlantData}
use Rattle.plant_config.specs.IsPlant.{IsPlant}
use Rattle.plant_config.specs.Sites.{dest_at, source_at}
use Rattle.plant_config.specs.declared.records.Change.{Change}
use Rattle.plant_core.specs.declared.request.Request.{Request}
use Rattle.plant_core.specs.declared.request.Request.TheVariants.{Told, Poll}
use Rattle.history_lock.specs.Step.{Stepped}
use Rattle.plant_core.specs.declared.answer.Answer.{Answer}
use Rattle.plant_core.specs.declared.answer.Answer.TheVariants.{Say, Dumped}
use Rattle.crosspoint_state.specs.Crosspoints.{source_of, NamesOnce}
use Rattle.crosspoint_state.specs.Applied.{applied, are_enough}
use Rattle.tie_pools.specs.Reserve.{are_enough_for}
use Rattle.plant_core.specs.State.{State, IsValid, IsChangeOf, Fits, start, device_of, is_master, owner_at}
use Rattle.plant_core.specs.Wide.{is_wide_at, asks_source, asks_change, tells_source, tells_change}
use Rattle.plant_core.specs.Short.{StaysShort}
use Rattle.plant_core.specs.Begins.{Begins}
use Rattle.plant_core.specs.Connects.{change_of}
use Rattle.plant_core.specs.Step.{step}
use Rattle.plant_core.specs.Answer.{IsSayable, IsAnswerCount, room_of}

-- Whoever interrogates a place, by an extended command or another, is answered with this source, and with nothing else.
abbrev pub AnswersWith : State → Point → Option ℕ → Type 0
AnswersWith state at source = (panel item : ℕ) (extended : Bool)
    → (step state (Told panel item (asks_source extended at))).answers
    ≡ Say (tells_source extended at source) ∷ []

-- A place may be given a source where it is in the plant, and the source is parked or in that level.
pub record IsConnectable (plant : PlantData) (at : Point) (source : Option ℕ) : Type 0 where
  pub has_place : IsSome (dest_at plant at.matrix at.level at.dest)
  pub has_source : IfSome source (λ number. IsSome (source_at plant at.matrix at.level number))

-- A panel may change a place where it is in the plant, and no device but the panel's protects it.
pub record IsFree (state : State) (panel : ℕ) (at : Point) : Type 0 where
  pub has_place : IsSome (dest_at state.plant at.matrix at.level at.dest)
  pub owner : IfSome (owner_at state at) (λ device. device ≡ device_of state.plant panel)

-- The ties that a panel may use are enough for a change.
abbrev pub HasTie : State → ℕ → Change → Type 0
HasTie state panel change =
    are_enough_for state.plant state.crosspoints (is_master state.plant panel) (change ∷ []) ≡ true

-- They are enough for a place to be given a source.
abbrev pub HasTieFor : State → ℕ → Point → Option ℕ → Type 0
HasTieFor state panel at source = IfSome (change_of state.plant at source) (HasTie state panel)

-- A panel may give a place a source where that may be given, the panel may change the place, and the ties that it may use
-- are enough.
pub record MayConnect (state : State) (panel : ℕ) (at : Point) (source : Option ℕ) : Type 0 where
  pub connectable : IsConnectable state.plant at source
  pub free : IsFree state panel at
  pub tied : HasTieFor state panel at source

-- Every destination but that of this place carries what it carried.
abbrev pub OthersCarryAsBefore : State → Point → State → Type 0
OthersCarryAsBefore old at new = (dest : ℕ)
    → dest_at old.plant at.matrix at.level at.dest ≢ Some dest
    → get new.crosspoints dest ≡ get old.crosspoints dest

-- Each destination carries the source that it carried, by whichever tie.
abbrev pub CarryAsBefore : State → State → Type 0
CarryAsBefore old new =
    (dest : ℕ) → source_of new.crosspoints dest ≡ source_of old.crosspoints dest

-- An interrogate of every other place is answered as before.
abbrev pub OthersAnswerAsBefore : State → Point → State → Type 0
OthersAnswerAsBefore old at new = (place : Point) (stands : Option ℕ)
    → place ≢ at → AnswersWith old place stands → AnswersWith new place stands

-- A connect is made: it is answered by this message, its source stands at its place, no other destination changes, and so
-- every other place answers as before.
pub record IsMade (old : State) (at : Point) (source : Option ℕ) (told : Message)
    (stepped : Stepped State Answer) : Type 0 where
  pub answer : stepped.answers ≡ Say told ∷ []
  pub stands : AnswersWith stepped.state at source
  pub unmoved : OthersCarryAsBefore old at stepped.state
  pub others : OthersAnswerAsBefore old at stepped.state

-- A connect isn't made: nothing changes, and the answer is a tally of the source that stands.
pub record IsNotMade (old : State) (extended : Bool) (at : Point)
    (stepped : Stepped State Answer) : Type 0 where
  pub standing : Option ℕ
  pub stands : AnswersWith old at standing
  pub answer : stepped.answers ≡ Say (tells_source extended at standing) ∷ []
  pub state : stepped.state ≡ old

-- Answers tell of each place of a level that is in the plant, at the place's number: with the source with which an
-- interrogate of it is answered.
abbrev pub TellEachPlace : State → ℕ → ℕ → List Answer → Type 0
TellEachPlace state matrix level answers = (dest : ℕ) (source : Option ℕ)
    → IsSome (dest_at state.plant matrix level dest)
    → AnswersWith state (record { matrix = matrix; level = level; dest = dest }) source
    → slice_get answers dest ≡ Some (Dumped matrix level dest source)

-- There is no answer at a number that no place of a level has.
abbrev pub TellNoOtherPlace : State → ℕ → ℕ → List Answer → Type 0
TellNoOtherPlace state matrix level answers = (dest : ℕ)
    → IsNone (dest_at state.plant matrix level dest) → slice_get answers dest ≡ None

-- A dump of a level that isn't wide tells what stands: for each place of the level that is in the plant the source with
-- which an interrogate of it is answered, at the place's number, and nothing else. One of a wide level tells nothing. Nothing
-- changes.
pub record IsDumped (old : State) (matrix level : ℕ) (stepped : Stepped State Answer) : Type 0 where
  pub tells : is_wide_at old.plant matrix level ≡ false
      → TellEachPlace old matrix level stepped.answers
  pub no_more : TellNoOtherPlace old matrix level stepped.answers
  pub wide : is_wide_at old.plant matrix level ≡ true → stepped.answers ≡ []
  pub state : stepped.state ≡ old

-- the state behind a list of requests
abbrev pub after : State → List Request → State
after state [] = state
after state (request ∷ requests) = after (step state request).state requests

-- A request isn't a connect of this place, nor a go that takes a group.
abbrev pub LeavesAlone : Point → Request → Type 0
LeavesAlone at request =
    ((panel item : ℕ) (extended : Bool) (source : Option ℕ)
    → request ≢ Told panel item (asks_change extended at source))
    × ((panel item salvo : ℕ) → request ≢ Told panel item (Go false salvo))

-- the state at the start of a plant is valid
abbrev pub StartsAreValid : Type 0
StartsAreValid = (plant : PlantData) → IsPlant plant → IsValid (start plant)

-- a step from a valid state leaves a valid one
abbrev pub StepsStayValid : Type 0
StepsStayValid =
    (state : State) (request : Request) → IsValid state → IsValid (step state request).state

-- at the start of a plant, and after each request that fits a valid state in which it was so, the commands that aren't
-- extended can tell what they alone can reach
abbrev pub StartsAreShort : Type 0
StartsAreShort = (plant : PlantData) → StaysShort (start plant)

abbrev pub StepsStayShort : Type 0
StepsStayShort = (state : State) (request : Request)
    → IsValid state → StaysShort state → Fits state request
    → StaysShort (step state request).state

-- a history of a plant may begin at its start
abbrev pub StartsBegin : Type 0
StartsBegin = (plant : PlantData) → IsPlant plant → Begins plant (start plant)

-- no step changes the plant
abbrev pub StepsKeepThePlant : Type 0
StepsKeepThePlant =
    (state : State) (request : Request) → (step state request).state.plant ≡ state.plant

-- changes of a valid state's plant for which the ties are enough, made as one, leave a valid state
abbrev pub ChangesStayValid : Type 0
ChangesStayValid = (state : State) (changes : List Change)
    → IsValid state → All (IsChangeOf state.plant) changes → NamesOnce changes
    → are_enough state.plant state.crosspoints changes ≡ true
    → IsValid (record state { crosspoints = applied state.plant state.crosspoints changes })

-- a connect that its panel may make is made
abbrev pub ConnectablesAreMade : Type 0
ConnectablesAreMade = (state : State) (panel item : ℕ) (extended : Bool) (at : Point)
    (source : Option ℕ)
    → IsValid state → MayConnect state panel at source
    → IsMade state at source (tells_change extended at source)
    (step state (Told panel item (asks_change extended at source)))

-- every other connect isn't made
abbrev pub OthersAreNotMade : Type 0
OthersAreNotMade = (state : State) (panel item : ℕ) (extended : Bool) (at : Point)
    (source : Option ℕ)
    → ¬ MayConnect state panel at source
    → IsNotMade state extended at (step state (Told panel item (asks_change extended at source)))

-- A connect that is made stands: whoever interrogates its place is answered with its source, whatever was asked meanwhile
-- but a connect of that place and a go that takes a group.
abbrev pub ConnectsStand : Type 0
ConnectsStand = (state : State) (panel item : ℕ) (extended : Bool) (at : Point)
    (source : Option ℕ) (later : List Request)
    → IsValid state → MayConnect state panel at source → All (LeavesAlone at) later
    → (let new : State = (step state (Told panel item (asks_change extended at source))).state
    in AnswersWith (after new later) at source)

-- A message only asks: for a source, an owner, a level's sources, or an entry of a group.
abbrev pub OnlyAsks : Message → Type 0
OnlyAsks (Interrogate at) = Unit {0}
OnlyAsks (ExtInterrogate at) = Unit {0}
OnlyAsks (ProtectAsk at) = Unit {0}
OnlyAsks (DumpAsk matrix level) = Unit {0}
OnlyAsks (EntryAsk salvo index) = Unit {0}
OnlyAsks message = ⊥

-- a message that only asks changes nothing
abbrev pub QuestionsChangeNothing : Type 0
QuestionsChangeNothing = (state : State) (panel item : ℕ) (message : Message)
    → OnlyAsks message → (step state (Told panel item message)).state ≡ state

-- at the start of a plant each interrogate is answered with 'parked'
abbrev pub StartsAnswerParked : Type 0
StartsAnswerParked = (plant : PlantData) (at : Point) → AnswersWith (start plant) at None

-- an interrogate of a place that the plant doesn't have is answered with 'parked'
abbrev pub OutsidersAnswerParked : Type 0
OutsidersAnswerParked = (state : State) (at : Point)
    → IsNone (dest_at state.plant at.matrix at.level at.dest) → AnswersWith state at None

-- a dump tells what stands
abbrev pub DumpsTellWhatStands : Type 0
DumpsTellWhatStands = (state : State) (panel item matrix level : ℕ)
    → IsDumped state matrix level (step state (Told panel item (DumpAsk matrix level)))

-- a request that fits has as many answers as its kind may have
abbrev pub AnswersAreFew : Type 0
AnswersAreFew = (state : State) (request : Request) → Fits state request
    → IsAnswerCount state.plant request (length (step state request).answers)

-- a request that fits has no more answers than there has to be room for
abbrev pub AnswersFit : Type 0
AnswersFit = (state : State) (request : Request) → Fits state request
    → length (step state request).answers ≤ room_of state.plant

-- in a valid state each answer to a request that fits can be said
abbrev pub AnswersAreSayable : Type 0
AnswersAreSayable = (state : State) (request : Request)
    → IsValid state → StaysShort state → Fits state request
    → All IsSayable (step state request).answers

-- no plant asks for room for more than 1,024 answers
abbrev pub RoomsAreBounded : Type 0
RoomsAreBounded = (plant : PlantData) → IsPlant plant → room_of plant ≤ 1024

-- the number of a message's item has no effect
abbrev pub ItemsHaveNoEffect : Type 0
ItemsHaveNoEffect = (state : State) (panel item other : ℕ) (message : Message)
    → step state (Told panel item message) ≡ step state (Told panel other message)

-- a poll's numbers of items and turns have no effect
abbrev pub PollNumbersHaveNoEffect : Type 0
PollNumbersHaveNoEffect = (state : State) (panel item turn other later : ℕ)
    → step state (Poll panel item turn) ≡ step state (Poll panel other later)
