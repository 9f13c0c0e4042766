-- What a session asks, and where.
use Rattle.std.specs.Prelude.{◌≡◌, ◌≢◌, ℕ, ◌^◌, ◌<◌, List, [], ◌++◌, length}
use Rattle.dle_framing.specs.Items.{items}
use Rattle.plant_config.specs.Plant.{PlantData}
use Rattle.plant_core.specs.Answer.{room_of}
use Rattle.plant_core.specs.State.{FitsPlant}
use Rattle.plant_core.specs.declared.request.Request.{Request}
use Rattle.plant_core.specs.declared.request.Request.TheVariants.{Told, Poll, Leave, DisplayPoll}
use Rattle.panel_session.specs.declared.session.Session.{Session}
use Rattle.panel_session.specs.SoFar.{Progress, read_so_far, entries_so_far}
use Rattle.panel_session.specs.Text.{IsText}
use Rattle.panel_session.specs.Session.{Awaits, outbox_of}

-- A piece may go on a past: there are fewer than 2^62 items with it and fewer than 2^62 turns, and it is used up where the
-- turn has polled.
pub record MayGoOn (past : Progress) (piece : List ℕ) : Type 0 where
  pub items : length (items (read_so_far past ++ piece)) < 2 ^ 62
  pub turns : length past.turns < 2 ^ 62
  pub rest : past.now.polls ≢ [] → piece ≡ []

-- A told request comes before all polls of the turn, and a poll once the piece is used up.
abbrev pub IsInPlace : Progress → Request → List ℕ → Type 0
IsInPlace now (Told panel item message) rest = now.now.polls ≡ []
IsInPlace now (Poll panel item turn) rest = rest ≡ []
IsInPlace now (Leave panel) rest = ⊥
IsInPlace now (DisplayPoll screen refresh) rest = ⊥

-- A session asks this behind a past, with this left of its piece: all of its text so far was sent, and a request that fits the
-- plant is to be answered into the outbox, which is empty and has room for the answers of a step.
abbrev pub IsAsking : PlantData → ℕ → Progress → List ℕ → Request → Session → Type 0
IsAsking plant panel now rest request session =
    Awaits plant panel session now request
    × (outbox_of session ≡ record { items = []; places = room_of plant })
    × FitsPlant plant request
    × IsInPlace now request rest
    × IsText plant (items (read_so_far now)) (entries_so_far now) now.sent
