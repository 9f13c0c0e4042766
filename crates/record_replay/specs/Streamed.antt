-- What a replay sends to a port of the displays.
use Rattle.std.specs.Prelude.{◌≡◌, ◌≢◌, ◌⊎◌, ℕ, ◌+◌, ◌≤◌, true, Bool, false, List, [], ◌∷◌, ◌++◌, length, Option, Result, Ok, Err}
use Rattle.std.specs.List.{flat_map}
use Rattle.ctl_io.specs.Faults.{one_more}
use Rattle.ctl_io.specs.Sink.{appended, AppendsPart}
use Rattle.tsl_umd5.specs.Packet.{IsPacketText}
use Rattle.plant_config.specs.Plant.{PlantData}
use Rattle.plant_config.specs.Screens.{has_screen}
use Rattle.plant_core.specs.Displays.{lamp_limit}
use Rattle.plant_core.specs.declared.answer.Answer.{Answer}
use Rattle.plant_core.specs.declared.answer.Answer.TheVariants.{Finished}
use Rattle.display_packets.specs.DisplayPacket.{longest_packet, packet_of, AreLamps}
use Rattle.record_replay.specs.declared.streamed.StreamedFault.{StreamedFault}
use Rattle.record_replay.specs.declared.streamed.StreamedFault.TheVariants.{NoMemory, BadLine, OutputFault, PortFault}
use Rattle.record_replay.specs.Laws.{Action, Turned, Left, Polled, line_of}
use Rattle.record_replay.specs.TiedReplay.{IsTiedReplay}

-- the packets by which the displays of a screen are told what a display poll is answered: one if these are lamps
abbrev pub packets_told : PlantData → ℕ → List Answer → List (List ℕ)
packets_told plant screen [] = []
packets_told plant screen (Finished ∷ others) = []
packets_told plant screen (answer ∷ others) = packet_of plant screen (answer ∷ others) ∷ []

-- those of an action: a turn has none, and a leave has none
abbrev pub packets_by : PlantData → Action → List (List ℕ)
packets_by plant (Turned panel piece entries sent) = []
packets_by plant (Left panel) = []
packets_by plant (Polled screen refresh answers) = packets_told plant screen answers

-- the packets of actions, and their output lines, one action after the other
abbrev pub packets_in : PlantData → List Action → List (List ℕ)
packets_in plant actions = flat_map (packets_by plant) actions

abbrev pub lines_in : PlantData → List Action → List ℕ
lines_in plant actions = flat_map (line_of plant) actions

-- A packet by which displays of the plant may be told lamps: that of a screen of theirs. Readers take it, and it isn't long.
pub record IsLampPacket (plant : PlantData) (packet : List ℕ) : Type 0 where
  pub screen : ℕ
  pub lamps : List Answer
  pub of_plant : has_screen plant screen ≡ true
  pub are_lamps : AreLamps plant lamps
  pub few : length lamps ≤ lamp_limit
  pub packet_is : packet ≡ packet_of plant screen lamps
  pub read : IsPacketText packet
  pub most : length packet ≤ longest_packet

-- A port takes every packet of the plant's displays.
abbrev pub TakesLamps : PlantData → (List ℕ → Type 0) → Type 0
TakesLamps plant Takes = (packet : List ℕ) → IsLampPacket plant packet → Takes packet

-- The sink wasn't given anything, and the port is as it was.
abbrev pub StaysBoth : {P : Type 0} → Option (List ℕ) → Option (List ℕ) → P → P → Type 0
StaysBoth before now port_before port_now = (now ≡ before) × (port_now ≡ port_before)

-- A sink was given the script's replay text, and a port was sent the packets of the history behind it, in order.
pub record HasStreamed (plant : PlantData) (script : List ℕ) (before now : Option (List ℕ))
    (Sends : List (List ℕ) → Type 0) : Type 0 where
  pub output : List ℕ
  pub replay : IsTiedReplay plant script output
  pub appends : now ≡ appended before output
  pub sends : Sends (packets_in plant replay.actions)

-- The first of these actions has a packet.
abbrev pub BeginWithPacket : PlantData → List Action → Type 0
BeginWithPacket plant actions = (first : Action) × (others : List Action)
    × (actions ≡ first ∷ others) × (packets_by plant first ≢ [])

-- A port's count of faults stayed, or it rose by one, and the actions that are left begin with the packet that failed.
abbrev pub PortStops : PlantData → List Action → ℕ → ℕ → Type 0
PortStops plant left count_before count_now =
    (count_now ≡ count_before)
    ⊎ ((count_now ≡ one_more count_before) × BeginWithPacket plant left)

-- the most bytes of lines that wait to be written at once, 64 KiB
abbrev pub most_waiting : ℕ
most_waiting = 65536

-- A write of the lines of these actions failed: a shorter front of them was given to a sink. No action came after the fault: before
-- the last of these, all lines were given but at most what may wait.
pub record StopsShort (plant : PlantData) (actions : List Action) (before now : Option (List ℕ))
    : Type 0 where
  pub appends : AppendsPart (lines_in plant actions) before now
  pub earlier : List Action
  pub last : List Action
  pub actions_are : actions ≡ earlier ++ last
  pub one : length last ≤ 1
  pub waited : length (lines_in plant earlier) ≤ appends.count + most_waiting

-- A port was sent the packets of the first actions of the script's history, and a sink was given a shorter front of their
-- lines: no line came before its packet, and nothing was done or sent after the write that failed. Where the port failed too,
-- by its counts of faults, it did at the next action.
pub record HasStreamedFront (plant : PlantData) (script : List ℕ) (before now : Option (List ℕ))
    (Sends : List (List ℕ) → Type 0) (count_before count_now : ℕ) : Type 0 where
  pub output : List ℕ
  pub replay : IsTiedReplay plant script output
  pub front : List Action
  pub later : List Action
  pub place : replay.actions ≡ front ++ later
  pub cut : StopsShort plant front before now
  pub sends : Sends (packets_in plant front)
  pub stops : PortStops plant later count_before count_now

-- A port took no more at an action of the script's history that has a packet: it was sent the packets of the actions before,
-- and a sink was given their lines.
pub record HasStoppedAtPort (plant : PlantData) (script : List ℕ) (before now : Option (List ℕ))
    (Sends : List (List ℕ) → Type 0) : Type 0 where
  pub output : List ℕ
  pub replay : IsTiedReplay plant script output
  pub front : List Action
  pub failed : Action
  pub later : List Action
  pub place : replay.actions ≡ front ++ failed ∷ later
  pub has_packet : packets_by plant failed ≢ []
  pub appends : now ≡ appended before (lines_in plant front)
  pub sends : Sends (packets_in plant front)

-- whether a replay ended for a fault of the output
abbrev pub stream_failed : {T : Type 0} → Result T StreamedFault → Bool
stream_failed (Ok done) = false
stream_failed (Err NoMemory) = false
stream_failed (Err (BadLine number)) = false
stream_failed (Err OutputFault) = true
stream_failed (Err PortFault) = false

-- The port's count of faults rose by one where a send failed, which may be told as a fault of the output, if the output
-- failed too. At every other answer it stayed.
abbrev pub PortCounts : {T : Type 0} → Result T StreamedFault → ℕ → ℕ → Type 0
PortCounts (Ok done) before now = now ≡ before
PortCounts (Err NoMemory) before now = now ≡ before
PortCounts (Err (BadLine number)) before now = now ≡ before
PortCounts (Err OutputFault) before now = (now ≡ before) ⊎ (now ≡ one_more before)
PortCounts (Err PortFault) before now = now ≡ one_more before
