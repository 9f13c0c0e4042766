-- A session that reads.
use Rattle.std.specs.Prelude.{◌≡◌, ◌≢◌, ℕ, ◌^◌, ◌<◌, Bool, true, false, List, [], ◌++◌, length, take}
use Rattle.dle_framing.specs.Items.{items}
use Rattle.plant_config.specs.Plant.{PlantData}
use Rattle.panel_session.specs.declared.session.Session.{Session}
use Rattle.panel_session.specs.declared.session.phase.Phase.TheVariants.{Read, Poll}
use Rattle.panel_session.specs.SoFar.{Progress, read_so_far, with_bytes, with_sent}
use Rattle.panel_session.specs.Session.{Stands, made_by}

-- It stands for this past, nothing is asked or to be sent, and it reads.
pub record IsReading (plant : PlantData) (panel : ℕ) (session : Session)
    (past : Progress) : Type 0 where
  pub stands : Stands plant panel session past
  pub none_asked : session.outbox.items ≡ []
  pub phase : session.phase ≡ Read

-- It read these bytes: something is to be sent, or it reads on.
abbrev pub HasTaken : PlantData → ℕ → Progress → Bool → Session → Type 0
HasTaken plant panel now true session =
    Stands plant panel session (with_sent (made_by session) now)
    × (session.outbox.items ≡ [])
    × (made_by session ≢ [])
    × (session.phase ≡ Poll → ⊥)
HasTaken plant panel now false session = IsReading plant panel session now

-- What reading up to the end of an item does, where the bytes may go on a past.
abbrev pub HasTakenOn : Session → List ℕ → ℕ → Bool → Session → Type 0
HasTakenOn before piece used send after =
    (plant : PlantData) (panel : ℕ) (past : Progress) → IsReading plant panel before past
    → length (items (read_so_far past ++ piece)) < 2 ^ 62
    → HasTaken plant panel (with_bytes (take used piece) past) send after
