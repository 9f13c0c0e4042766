-- Which pasts a session stands for.
use Rattle.std.specs.Prelude.{◌≡◌, ◌≢◌, ℕ, ◌-◌, ◌<◌, List, [], length}
use Rattle.dle_framing.specs.Framer as framer
use Rattle.dle_framing.specs.Items.{items}
use Rattle.history_lock.specs.Places.{Placed}
use Rattle.plant_config.specs.Plant.{PlantData}
use Rattle.plant_core.specs.Answer.{room_of}
use Rattle.plant_core.specs.declared.answer.Answer.{Answer}
use Rattle.plant_core.specs.declared.request.Request.{Request}
use Rattle.plant_core.specs.declared.request.Request.TheVariants.{Told, Poll}
use Rattle.panel_session.specs.declared.session.Session.{Session}
use Rattle.panel_session.specs.declared.session.phase.Phase.{Phase}
use Rattle.panel_session.specs.declared.session.phase.Phase.TheVariants.{Read, Name, Tell, Poll as PollStage, End}
use Rattle.panel_session.specs.SoFar.{Progress, nothing_yet, read_so_far}
use Rattle.panel_session.specs.StandsInside.{Kept, Keeps}
use Rattle.panel_session.specs.Counted.{goods_of, bads_of}

-- the bytes that a session made last
abbrev pub made_by : Session → List ℕ
made_by session = session.sender.output.bytes

-- its plant
abbrev pub plant_of : Session → PlantData
plant_of session = session.plant.now

-- a session's outbox
abbrev pub outbox_of : Session → Placed Answer
outbox_of session = session.outbox

-- a session with this outbox
abbrev pub with_outbox : Session → Placed Answer → Session
with_outbox session outbox = record session { outbox = outbox }

-- what it keeps
abbrev pub kept_of : Session → Kept
kept_of session = record {
  panel = session.panel;
  phase = session.phase;
  items = session.items;
  turns = session.counts.turns;
  polls = session.polls;
  output = session.sender.output;
}

-- The session of this panel of a plant keeps what it needs of this past.
pub record Stands (plant : PlantData) (panel : ℕ) (session : Session) (past : Progress)
    : Type 0 where
  pub plant_is : session.plant.now ≡ plant
  pub names_are : session.sender.names ≡ plant
  pub panel_is : session.panel ≡ panel
  pub has_panel : panel < length plant.panels
  pub framer : framer.StandsFor session.framer (read_so_far past)
  pub keeps : Keeps plant (kept_of session) past
  pub goods : session.counts.goods ≡ goods_of (items (read_so_far past))
  pub bads : session.counts.bads ≡ bads_of (items (read_so_far past))
  pub places : session.outbox.places ≡ room_of plant

-- The session of this panel of a plant stands for this past, with nothing asked that wasn't answered: where it polls it has
-- polled before.
unfoldable pub StandsFor : PlantData → ℕ → Session → Progress → Type 0
StandsFor plant panel session past =
    Stands plant panel session past × (session.outbox.items ≡ [])
    × (session.phase ≡ PollStage → past.now.polls ≢ [])

-- A request is what a session asks at this phase.
abbrev pub AsksAt : Phase → Kept → Request → Type 0
AsksAt Read kept request = ⊥
AsksAt (Name page) kept request = ⊥
AsksAt (Tell message) kept request = request ≡ Told kept.panel (kept.items - 1) message
AsksAt PollStage kept request = request ≡ Poll kept.panel kept.items kept.turns
AsksAt End kept request = ⊥

-- The session stands for this past, and this request of it wasn't answered yet.
unfoldable pub Awaits : PlantData → ℕ → Session → Progress → Request → Type 0
Awaits plant panel session past request =
    Stands plant panel session past × AsksAt session.phase (kept_of session) request

-- A session that stood for some past stands for nothing yet, as a new one of its panel.
abbrev pub BeginsAnew : Session → Session → Type 0
BeginsAnew before after =
    (plant : PlantData) (panel : ℕ) (past : Progress) → StandsFor plant panel before past
    → StandsFor plant panel after nothing_yet

-- So does one that awaited the answers to some request.
abbrev pub BeginsAnewUnanswered : Session → Session → Type 0
BeginsAnewUnanswered before after =
    (plant : PlantData) (panel : ℕ) (past : Progress) (request : Request)
    → Awaits plant panel before past request → StandsFor plant panel after nothing_yet
