-- What a replay writes.
use Rattle.std.specs.Prelude.{◌≡◌, ℕ, ◌==◌, Bool, true, false, if◌then◌else◌, List, [], ◌∷◌, ◌++◌, codes, Result, Ok, Err}
use Rattle.std.specs.Fmt.{decimal}
use Rattle.hex.specs.Hex.{encode_upper}
use Rattle.history_lock.specs.History.{run}
use Rattle.plant_config.specs.Plant.{PlantData}
use Rattle.plant_core.specs.declared.request.Request.{Request}
use Rattle.plant_core.specs.declared.request.Request.TheVariants as requests
use Rattle.plant_core.specs.declared.answer.Answer.{Answer}
use Rattle.plant_core.specs.declared.answer.Answer.TheVariants.{Finished}
use Rattle.plant_core.specs.State.{State, Fits, start}
use Rattle.plant_core.specs.Step.{step}
use Rattle.display_packets.specs.DisplayPacket.{packet_of}
use Rattle.panel_session.specs.Run.{IsWorked, turned}
use Rattle.panel_session.specs.SoFar.{Progress, nothing_yet}
use Rattle.panel_session.specs.Turns.{Turn, entries_in}
use Rattle.record_replay.specs.declared.replay.ReplayFault.{ReplayFault}
use Rattle.record_replay.specs.declared.replay.ReplayFault.TheVariants.{NoMemory, BadLine, OutputFault}
use Rattle.record_replay.specs.Script.{Work, Read, Leave, Show, line_feed, lines, worked, LinesSpell}

-- bytes in the output: in hexadecimal, or `-` where there are none
abbrev pub hex_or_dash : List ℕ → List ℕ
hex_or_dash [] = codes "-"
hex_or_dash (byte ∷ bytes) = encode_upper (byte ∷ bytes)

-- the output line of a turn of this panel's session, in which these bytes were sent
abbrev pub turn_line : ℕ → List ℕ → List ℕ
turn_line panel bytes = codes "< " ++ decimal panel ++ codes " " ++ hex_or_dash bytes ++ line_feed ∷ []

-- the output line of a panel that leaves
abbrev pub leave_line : ℕ → List ℕ
leave_line panel = codes "leave " ++ decimal panel ++ line_feed ∷ []

-- the answers to a display poll of a screen, in the output: `quiet` where there are none, `finished`, or the packet of the
-- lamps in hexadecimal
abbrev pub polled_text : PlantData → ℕ → List Answer → List ℕ
polled_text plant screen [] = codes "quiet"
polled_text plant screen (Finished ∷ others) = codes "finished"
polled_text plant screen (answer ∷ others) =
    encode_upper (packet_of plant screen (answer ∷ others))

-- the output line of a display poll of a screen, which was answered so
abbrev pub show_line : PlantData → ℕ → List Answer → List ℕ
show_line plant screen answers =
    codes "* " ++ decimal screen ++ codes " " ++ polled_text plant screen answers
    ++ line_feed ∷ []

-- Where a replay stands: the one plant's state, and what the session of each panel has done so far.
pub record ReplayState : Type 0 where
  pub state : State
  pub pasts : ℕ → Progress

-- at the start of a plant no session has done anything
abbrev pub begun : PlantData → ReplayState
begun plant = record { state = start plant; pasts = λ panel. nothing_yet }

-- one panel's session has done this, and all others what they had
abbrev pub with_past : ℕ → Progress → (ℕ → Progress) → ℕ → Progress
with_past panel past pasts other = if other == panel then past else pasts other

-- where it stands behind a turn of a panel's session, in which these bytes were sent
abbrev pub behind_turn : ℕ → Turn → List ℕ → ReplayState → ReplayState
behind_turn panel turn more stand = record {
  state = run step stand.state (entries_in turn);
  pasts = with_past panel (turned turn more (stand.pasts panel)) stand.pasts;
}

-- where it stands behind one step of the plant that no session asks for
abbrev pub behind_step : Request → ReplayState → ReplayState
behind_step request stand = record stand { state = (step stand.state request).state }

-- A piece of work leads from one stand to the next, with this output line. A turn is worked by the plant, and the line has
-- the bytes that the panel's session sends in it. A leave is one step of the plant, and so is a display poll, whose line has
-- what it is answered.
abbrev pub Advances : PlantData → Work → ReplayState → List ℕ → ReplayState → Type 0
Advances plant (Read panel piece) stand line next =
    (turn : Turn) × (more : List ℕ)
    × (turn.piece ≡ piece)
    × IsWorked step Fits plant panel (stand.pasts panel) stand.state turn more
    × (line ≡ turn_line panel more)
    × (next ≡ behind_turn panel turn more stand)
Advances plant (Leave panel) stand line next =
    (line ≡ leave_line panel)
    × (next ≡ behind_step (requests.Leave panel) stand)
Advances plant (Show screen refresh) stand line next =
    (line ≡ show_line plant screen (step stand.state (requests.DisplayPoll screen refresh)).answers)
    × (next ≡ behind_step (requests.DisplayPoll screen refresh) stand)

-- Works that are done one after the other lead from one stand to another, with these output lines.
abbrev pub AllWork : PlantData → List Work → ReplayState → List ℕ → ReplayState → Type 0
AllWork plant [] stand output last = (output ≡ []) × (last ≡ stand)
AllWork plant (work ∷ works) stand output last =
    (next : ReplayState) × (line rest : List ℕ)
    × Advances plant work stand line next
    × AllWork plant works next rest last
    × (output ≡ line ++ rest)

-- The script has this replay text on this plant: its lines that aren't skipped spell works, and these are done in order
-- from the start of the plant.
pub record IsReplay (plant : PlantData) (script output : List ℕ) : Type 0 where
  pub works : List Work
  pub spelled : LinesSpell plant (worked (lines script)) works
  pub last : ReplayState
  pub all_work : AllWork plant works (begun plant) output last

-- whether a replay ended for a fault of the output
abbrev pub output_failed : {T : Type 0} → Result T ReplayFault → Bool
output_failed (Ok done) = false
output_failed (Err NoMemory) = false
output_failed (Err (BadLine number)) = false
output_failed (Err OutputFault) = true
