-- The laws of messages' frames and of scripts. The functions of `laws` promise them.
use Rattle.std.specs.Prelude.{◌≡◌, ◌⊎◌, ℕ, List, [], ◌∷◌, ◌++◌}
use Rattle.dle_framing.specs.declared.item.Item.TheVariants.{Good}
use Rattle.dle_framing.specs.Frame.{frame}
use Rattle.dle_framing.specs.Laws.{IsReadAs}
use Rattle.swp08_messages.specs.declared.message.Message.{Message}
use Rattle.swp08_messages.specs.Text.{text, InRange}
use Rattle.swp08_messages.specs.Spelled.{Spells}
use Rattle.plant_config.specs.Plant.{PlantData}
use Rattle.plant_config.specs.IsPlant.{IsPlant}
use Rattle.panel_session.specs.Entry.{PlantEntry}
use Rattle.record_replay.specs.Script.{IsFirstBad}
use Rattle.record_replay.specs.Replay.{IsReplay}
use Rattle.record_replay.specs.Laws.{Action, Turned, IsHistory}
use Rattle.record_replay.specs.Answered.{AnswersItsPiece}
use Rattle.record_replay.specs.TiedReplay.{NoTieCarriesTwoSources}

-- the frame of a message is read as one good item with the message's DATA [profile]
abbrev pub MessageFramesAreItems : Type 0
MessageFramesAreItems = (message : Message) → InRange message
    → IsReadAs (frame (text message)) (Good (text message) ∷ [])

-- a message's DATA spell it [profile]
abbrev pub TextsSpellTheirMessage : Type 0
TextsSpellTheirMessage = (message : Message) → InRange message → Spells (text message) message

-- and no other [profile]
abbrev pub TextsSpellNoOther : Type 0
TextsSpellNoOther =
    (message other : Message) → InRange message → Spells (text message) other → other ≡ message

-- a script has a replay text on each plant, or a first bad line there
abbrev pub ScriptsReplayOrAreBad : Type 0
ScriptsReplayOrAreBad = (plant : PlantData) (script : List ℕ)
    → ((output : List ℕ) × IsReplay plant script output) ⊎
    ((number : ℕ) × IsFirstBad plant script number)

-- a script has one replay text
abbrev pub ReplayTextsAreOne : Type 0
ReplayTextsAreOne = (plant : PlantData) (script a b : List ℕ) → IsReplay plant script a
    → IsReplay plant script b → a ≡ b

-- a script has one first bad line
abbrev pub FirstBadsAreOne : Type 0
FirstBadsAreOne = (plant : PlantData) (script : List ℕ) (m n : ℕ) → IsFirstBad plant script m
    → IsFirstBad plant script n → m ≡ n

-- no script has a replay text and a first bad line
abbrev pub BadsDoNotReplay : Type 0
BadsDoNotReplay = (plant : PlantData) (script output : List ℕ) (number : ℕ)
    → IsReplay plant script output → IsFirstBad plant script number → ⊥

-- a replay has a history
abbrev pub ReplaysHaveHistory : Type 0
ReplaysHaveHistory = (plant : PlantData) (script output : List ℕ)
    → IsReplay plant script output → (actions : List Action) × IsHistory plant script output actions

-- a script has one history, whatever is shown
abbrev pub HistoriesAreOne : Type 0
HistoriesAreOne = (plant : PlantData) (script a b : List ℕ) (actions others : List Action)
    → IsHistory plant script a actions → IsHistory plant script b others → actions ≡ others

-- what a history shows is the replay text
abbrev pub HistoriesShowReplays : Type 0
HistoriesShowReplays = (plant : PlantData) (script output : List ℕ) (actions : List Action)
    → IsHistory plant script output actions → IsReplay plant script output

-- In a history, what is sent in a turn of a panel's session answers the items that end in its piece, behind those that the
-- panel sent before.
abbrev pub TurnsAnswerItems : Type 0
TurnsAnswerItems = (plant : PlantData) (script output : List ℕ) (actions before after : List Action)
    (panel : ℕ) (piece sent : List ℕ) (entries : List PlantEntry)
    → IsHistory plant script output actions
    → actions ≡ before ++ Turned panel piece entries sent ∷ after
    → AnswersItsPiece before (Turned panel piece entries sent)

-- On a plant no tie carries two sources, at each place of the history behind a replay's text.
abbrev pub TiesCarryOneSource : Type 0
TiesCarryOneSource = (plant : PlantData) (script output : List ℕ)
    → IsPlant plant → NoTieCarriesTwoSources plant script output
