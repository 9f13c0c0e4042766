-- How a replay with a stream goes on in the code, before its end is written out.
use Rattle.std.specs.Prelude.{◌≡◌, ℕ, List, [], ◌∷◌, map, Option, IfSome, Result, Ok, Err}
use Rattle.ctl_io.specs.Custody.{SinkEnd}
use Rattle.ctl_io.specs.Faults.{one_more}
use Rattle.ctl_io.specs.Held.{IsNamed}
use Rattle.ctl_io.specs.Sink.{IsUnwritten}
use Rattle.plant_config.specs.Plant.{PlantData}
use Rattle.tsl_stream.specs.declared.port.StreamPort.{StreamPort}
use Rattle.tsl_stream.specs.Items.{Packet, stream_items}
use Rattle.tsl_stream.specs.Laws.{stream_texts}
use Rattle.tsl_stream.specs.Port.{HasSent, sink_of}
use Rattle.record_replay.specs.declared.streamed.StreamedFault.{StreamedFault}
use Rattle.record_replay.specs.declared.streamed.StreamedFault.TheVariants.{NoMemory, BadLine, OutputFault, PortFault}
use Rattle.record_replay.specs.Script.{IsFirstBad}
use Rattle.record_replay.specs.Streamed.{HasStreamed, HasStreamedFront, HasStoppedAtPort}
use Rattle.command_rows.specs.Lines.{line_refused}
use Rattle.command_rows.specs.Moment.{Output}
use Rattle.command_rows.specs.End.{ComesTo, ended, file_failed, out_of_memory, unwritten_status}

-- What a port over the sink of a file was sent: the file's name, and behind it packets, which the sink was given.
pub record WasGiven {K : Type 0} (name : K → Option (List ℕ)) (written : K → Option (List ℕ))
    (faults : K → ℕ) (port : StreamPort K) (sent : List (List ℕ)) : Type 0 where
  pub file : List ℕ
  pub packets : List (List ℕ)
  pub sent_is : sent ≡ file ∷ packets
  pub named : IsNamed file (name (sink_of port))
  pub has : HasSent written faults port packets

-- What a sink was given, where it shows that, has just these packets as its items, and while no write of it has failed it is
-- their texts.
abbrev pub ShowsPackets : SinkEnd → List (List ℕ) → Type 0
ShowsPackets shown packets = IfSome shown.written (λ text.
    (stream_items text ≡ map Packet packets)
    × (shown.faults ≡ 0 → text ≡ stream_texts packets))

-- A sink wasn't written to, and no write of it failed.
pub record IsUnused (shown : SinkEnd) : Type 0 where
  pub unwritten : IsUnwritten shown.written
  pub no_faults : shown.faults ≡ 0

-- A replay was streamed to a sink that shows this, with this answer, between what the output shows before it and then.
abbrev pub StreamsTo : {T : Type 0} → PlantData → List ℕ → Result T StreamedFault → SinkEnd
    → Option (List ℕ) → Option (List ℕ) → Type 0
StreamsTo plant script (Ok done) shown before now =
    (shown.faults ≡ 0) × HasStreamed plant script before now (ShowsPackets shown)
StreamsTo plant script (Err NoMemory) shown before now = (now ≡ before) × IsUnused shown
StreamsTo plant script (Err (BadLine number)) shown before now =
    IsFirstBad plant script number × (now ≡ before) × IsUnused shown
StreamsTo plant script (Err OutputFault) shown before now =
    HasStreamedFront plant script before now (ShowsPackets shown) 0 shown.faults
StreamsTo plant script (Err PortFault) shown before now =
    (shown.faults ≡ one_more 0) × HasStoppedAtPort plant script before now (ShowsPackets shown)

-- Nothing is left to say.
pub record SaysNothing (wanted status : ℕ) (before now : Output) : Type 0 where
  pub status_is : status ≡ wanted
  pub same : now ≡ before

-- What came of a replay with its stream in the file of this name is told, behind what the replay wrote.
abbrev pub TellsStream : {T : Type 0} → (name : List ℕ) → Result T StreamedFault → Output
    → Output → ℕ → Type 0
TellsStream name (Ok done) before now status = SaysNothing 0 status before now
TellsStream name (Err NoMemory) before now status = ComesTo out_of_memory status before now
TellsStream name (Err (BadLine number)) before now status =
    ComesTo (ended 5 (line_refused number)) status before now
TellsStream name (Err OutputFault) before now status =
    SaysNothing unwritten_status status before now
TellsStream name (Err PortFault) before now status =
    ComesTo (file_failed name) status before now
