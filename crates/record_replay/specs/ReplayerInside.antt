-- How the plant and the sessions of a replay stand, and what works make of them.
use Rattle.std.specs.Prelude.{◌≡◌, ◌≢◌, ℕ, ◌+◌, ◌*◌, ◌^◌, ◌<◌, ◌≤◌, suc, ◌==◌, ◌||◌, ◌&&◌, if◌then◌else◌, Bool, false, List, [], ◌∷◌, ◌++◌, length, slice_index_or}
use Rattle.dle_framing.specs.Numbers.{dle, etx, ack_byte, nak_byte}
use Rattle.plant_config.specs.Plant.{PlantData}
use Rattle.plant_core.specs.Answer.{room_of}
use Rattle.plant_core.specs.State.{IsValid}
use Rattle.plant_core.specs.Short.{StaysShort}
use Rattle.panel_session.specs.declared.session.Session.{Session}
use Rattle.panel_session.specs.Session.{StandsFor}
use Rattle.panel_session.specs.SoFar.{Progress, nothing_yet}
use Rattle.panel_session.specs.Turns.{bytes_read}
use Rattle.record_replay.specs.declared.replayer.Replayer.{Replayer}
use Rattle.record_replay.specs.Script.{Work, Read, Leave, Show, lines, worked, LinesSpell}
use Rattle.record_replay.specs.Replay.{ReplayState, Advances}
use Rattle.record_replay.specs.PortInside.{packets_at, AllSent, SentTo, LeavesPacket}
use Rattle.record_replay.specs.StandInside.{IsSettled}

-- The session at the place of each panel stands for what the panel's session has done.
abbrev pub StandForPasts : PlantData → List Session → (ℕ → Progress) → Type 0
StandForPasts plant sessions pasts = (panel : ℕ) (other : Session) → panel < length plant.panels
    → StandsFor plant panel (slice_index_or sessions panel other) (pasts panel)

-- New sessions, one for each panel.
pub record AreNew (plant : PlantData) (sessions : List Session) : Type 0 where
  pub count : length sessions ≡ length plant.panels
  pub each : StandForPasts plant sessions (λ panel. nothing_yet)

-- whether an item may end with this byte
abbrev pub is_end : ℕ → Bool
is_end byte = byte == etx || (byte == ack_byte || byte == nak_byte)

-- How many bytes of a text stand behind a DLE and may end an item, where a DLE stands just before the text or not.
abbrev pub ends_behind : Bool → List ℕ → ℕ
ends_behind dle_before [] = 0
ends_behind dle_before (byte ∷ bytes) =
    if dle_before && is_end byte then suc (ends_behind (byte == dle) bytes)
    else ends_behind (byte == dle) bytes

-- how many bytes of a text stand behind a DLE in it and may end an item
abbrev pub ends_in : List ℕ → ℕ
ends_in text = ends_behind false text

-- What a session has done stays small: each of its turns, and each byte of them that stands behind a DLE and may end an item,
-- has two bytes of the script.
pub record IsSmall (used : ℕ) (past : Progress) : Type 0 where
  pub ends : 2 * ends_in (bytes_read past.turns) ≤ used
  pub turns : 2 * length past.turns ≤ used

-- The plant and the sessions stand so, behind this many bytes of a script.
pub record StandsAt (plant : PlantData) (replayer : Replayer) (stand : ReplayState) (used : ℕ)
    : Type 0 where
  pub plant_is : replayer.plant.now ≡ plant
  pub state_is : replayer.state ≡ stand.state
  pub valid : IsValid stand.state
  pub short : StaysShort stand.state
  pub settled : IsSettled plant stand
  pub count : length replayer.sessions.items ≡ length plant.panels
  pub each : StandForPasts plant replayer.sessions.items stand.pasts
  pub small : (panel : ℕ) → IsSmall used (stand.pasts panel)
  pub empty : replayer.outbox.items ≡ []
  pub places : room_of plant ≤ replayer.outbox.places

-- How many bytes of the script a piece of work needs: a turn has one end of an item more than stands in its piece, since the
-- piece may begin behind a DLE.
abbrev pub need_of : Work → ℕ
need_of (Read panel piece) = 2 * suc (ends_in piece)
need_of (Leave panel) = 0
need_of (Show screen refresh) = 0

-- A replayer stands somewhere, and this much more of a script is still small.
pub record MayDo (need : ℕ) (plant : PlantData) (replayer : Replayer) : Type 0 where
  pub stand : ReplayState
  pub used : ℕ
  pub stands : StandsAt plant replayer stand used
  pub within : used + need < 2 ^ 63

-- A piece of work was done: from where the replayer stood it leads to where it stands now, and this is its text.
pub record HasDone (plant : PlantData) (work : Work) (stand : ReplayState) (used : ℕ)
    (after : Replayer) (text : List ℕ) : Type 0 where
  pub next : ReplayState
  pub works : Advances plant work stand text next
  pub stands : StandsAt plant after next (used + need_of work)

-- So it is from wherever the replayer may have stood, with one text for all, and with the work's packets.
abbrev pub DoesWork : PlantData → Work → Replayer → Replayer
    → (List ℕ → List (List ℕ) → Type 0) → Type 0
DoesWork plant work before after IsPut =
    (stand : ReplayState) (used : ℕ) → StandsAt plant before stand used
    → used + need_of work < 2 ^ 63
    → (text : List ℕ) × IsPut text (packets_at plant stand.state work)
    × HasDone plant work stand used after text

-- The works of one line were done, none where it is skipped.
pub record HasDoneLine (plant : PlantData) (line : List ℕ) (works : List Work) (stand : ReplayState)
    (used : ℕ) (after : Replayer) (text : List ℕ) (packets : List (List ℕ)) : Type 0 where
  pub next : ReplayState
  pub all_sent : AllSent plant works stand text packets next
  pub stands : StandsAt plant after next (used + length line)

abbrev pub DoesLine : PlantData → List ℕ → Replayer → Replayer
    → (List ℕ → List (List ℕ) → Type 0) → Type 0
DoesLine plant line before after IsPut =
    (stand : ReplayState) (used : ℕ) (works : List Work) → StandsAt plant before stand used
    → used + length line < 2 ^ 63
    → LinesSpell plant (worked (line ∷ [])) works
    → (text : List ℕ) × (packets : List (List ℕ)) × IsPut text packets
    × HasDoneLine plant line works stand used after text packets

-- The work of a line has a packet, wherever the replayer may have stood.
abbrev pub HasPacket : PlantData → Work → Replayer → Type 0
HasPacket plant work before = (stand : ReplayState) (used : ℕ) → StandsAt plant before stand used
    → packets_at plant stand.state work ≢ []

abbrev pub LineHasPacket : PlantData → List ℕ → Replayer → Type 0
LineHasPacket plant line before =
    (stand : ReplayState) (used : ℕ) (works : List Work) → StandsAt plant before stand used
    → LinesSpell plant (worked (line ∷ [])) works → LeavesPacket plant stand works

-- Some of the works of a script were done, with this text and these packets, and this text before the last of them. This is left
-- of the script, whose lines spell the others.
pub record IsOnTheWay (plant : PlantData) (works : List Work) (stand : ReplayState) (all : ℕ)
    (rest : List ℕ) (now : Replayer) (IsPut : List ℕ → List ℕ → List (List ℕ) → Type 0)
    : Type 0 where
  pub done : List Work
  pub left : List Work
  pub works_are : works ≡ done ++ left
  pub spelled : LinesSpell plant (worked (lines rest)) left
  pub next : ReplayState
  pub earlier : List ℕ
  pub text : List ℕ
  pub packets : List (List ℕ)
  pub put : IsPut earlier text packets
  pub sent : SentTo plant done stand earlier text packets next
  pub used : ℕ
  pub stands : StandsAt plant now next used
  pub within : used + length rest ≤ all

-- So it is from wherever the replayer may have stood.
abbrev pub PlaysOn : PlantData → List ℕ → List ℕ → Replayer → Replayer
    → (List ℕ → List ℕ → List (List ℕ) → Type 0) → Type 0
PlaysOn plant script rest before now IsPut =
    (stand : ReplayState) (used : ℕ) (works : List Work) → StandsAt plant before stand used
    → used + length script < 2 ^ 63
    → LinesSpell plant (worked (lines script)) works
    → IsOnTheWay plant works stand (used + length script) rest now IsPut

-- The works of a script were done, all of them or a front, behind which the others may still be done.
pub record HasDoneScript (plant : PlantData) (works : List Work) (stand : ReplayState)
    (Leaves : ReplayState → List Work → Type 0) (earlier text : List ℕ)
    (packets : List (List ℕ)) : Type 0 where
  pub done : List Work
  pub left : List Work
  pub works_are : works ≡ done ++ left
  pub next : ReplayState
  pub sent : SentTo plant done stand earlier text packets next
  pub settled : IsSettled plant next
  pub leaves : Leaves next left

abbrev pub DoesScript : PlantData → List ℕ → Replayer → (ReplayState → List Work → Type 0)
    → (List ℕ → List ℕ → List (List ℕ) → Type 0) → Type 0
DoesScript plant script before Leaves IsPut =
    (stand : ReplayState) (used : ℕ) (works : List Work) → StandsAt plant before stand used
    → used + length script < 2 ^ 63
    → LinesSpell plant (worked (lines script)) works
    → (earlier text : List ℕ) × (packets : List (List ℕ)) × IsPut earlier text packets
    × HasDoneScript plant works stand Leaves earlier text packets
