-- What was put into an output and sent to a port.
use Rattle.std.specs.Prelude.{◌≡◌, ◌≢◌, ℕ, ◌≤◌, Bool, false, List, [], ◌∷◌, ◌++◌, length}
use Rattle.ctl_io.specs.Faults.{one_more}
use Rattle.plant_config.specs.Plant.{PlantData}
use Rattle.plant_core.specs.State.{State}
use Rattle.plant_core.specs.Step.{step}
use Rattle.plant_core.specs.declared.request.Request.TheVariants as requests
use Rattle.record_replay.specs.Script.{Work, Read, Leave, Show}
use Rattle.record_replay.specs.Replay.{ReplayState, Advances}
use Rattle.ctl_net.specs.Port.{SendsOn}
use Rattle.record_replay.specs.Streamed.{packets_told}

-- These packets were sent to a port, and no send failed.
pub record SendsAll {P : Type 0} (WasSent : P → List (List ℕ) → Type 0) (faults : P → ℕ)
    (packets : List (List ℕ)) (old new : P) : Type 0 where
  pub sends : SendsOn WasSent old new packets
  pub count : faults new ≡ faults old

-- These packets were sent to a port, and then a send failed.
pub record SendsUntil {P : Type 0} (WasSent : P → List (List ℕ) → Type 0) (faults : P → ℕ)
    (packets : List (List ℕ)) (old new : P) : Type 0 where
  pub sends : SendsOn WasSent old new packets
  pub count : faults new ≡ one_more (faults old)

-- the packets of a piece of work that is done from this state
abbrev pub packets_at : PlantData → State → Work → List (List ℕ)
packets_at plant state (Read panel piece) = []
packets_at plant state (Leave panel) = []
packets_at plant state (Show screen refresh) =
    packets_told plant screen (step state (requests.DisplayPoll screen refresh)).answers

-- Works that are done one after the other lead from one stand to another, with these output lines and these packets.
abbrev pub AllSent : PlantData → List Work → ReplayState → List ℕ → List (List ℕ)
    → ReplayState → Type 0
AllSent plant [] stand output packets last = (output ≡ []) × (packets ≡ []) × (last ≡ stand)
AllSent plant (work ∷ works) stand output packets last =
    (next : ReplayState) × (line rest : List ℕ) × (later : List (List ℕ))
    × Advances plant work stand line next
    × AllSent plant works next rest later last
    × (output ≡ line ++ rest)
    × (packets ≡ packets_at plant stand.state work ++ later)

-- So they lead there, and all but the last of them, or all, have this output before.
pub record SentTo (plant : PlantData) (works : List Work) (stand : ReplayState)
    (earlier output : List ℕ) (packets : List (List ℕ)) (last : ReplayState) : Type 0 where
  pub first : List Work
  pub final : List Work
  pub works_are : works ≡ first ++ final
  pub one : length final ≤ 1
  pub mid : ReplayState
  pub more : List ℕ
  pub first_packets : List (List ℕ)
  pub more_packets : List (List ℕ)
  pub first_sent : AllSent plant first stand earlier first_packets mid
  pub final_sent : AllSent plant final mid more more_packets last
  pub output_is : output ≡ earlier ++ more
  pub packets_are : packets ≡ first_packets ++ more_packets

-- No works are left, unless the output failed.
abbrev pub LeavesNone : Bool → ReplayState → List Work → Type 0
LeavesNone failed stand left = failed ≡ false → left ≡ []

-- The first work that is left has a packet.
abbrev pub LeavesPacket : PlantData → ReplayState → List Work → Type 0
LeavesPacket plant stand left = (work : Work) × (works : List Work) × (left ≡ work ∷ works)
    × (packets_at plant stand.state work ≢ [])
