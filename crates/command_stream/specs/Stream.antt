-- The command `stream`: what is given for its form, how it may end, and why, and what it leaves of the file that it makes.
use Rattle.std.specs.Prelude.{◌≡◌, ◌≢◌, ◌⊎◌, ℕ, true, List, [], ◌∷◌, ◌++◌, map, Option, IfSome}
use Rattle.ctl_io.specs.Custody.{SinkEnd}
use Rattle.ctl_io.specs.Faults.{is_faulty}
use Rattle.ctl_io.specs.Held.{IsNamed}
use Rattle.ctl_io.specs.Sink.{appended}
use Rattle.plant_config.specs.Plant.{PlantData}
use Rattle.tsl_stream.specs.Items.{Packet, stream_items}
use Rattle.tsl_stream.specs.Laws.{stream_texts}
use Rattle.record_replay.specs.Script.{IsFirstBad}
use Rattle.record_replay.specs.Laws.{Action}
use Rattle.record_replay.specs.TiedReplay.{IsTiedReplay}
use Rattle.record_replay.specs.Streamed.{BeginWithPacket, StopsShort, packets_in, lines_in}
use Rattle.command_words.specs.Parts.{Part, Plant, Whole, Made, Last, NoMore}
use Rattle.command_rows.specs.Kinds.{script}
use Rattle.command_rows.specs.Lines.{line_refused}
use Rattle.command_rows.specs.Moment.{Snapshot, Moment}
use Rattle.command_rows.specs.MadeFile.{MakesFile, FailsToMake, IsAsMade, TakesBack}
use Rattle.command_rows.specs.End.{End, behind, done, ended, file_failed, out_of_memory, unwritten_status}
use Rattle.command_rows.specs.Row.{Promise}

-- the parts of its form
abbrev pub parts : List Part
parts = Plant ∷ Whole script ∷ Made ∷ []

-- The file of this name was made anew, and a sink of its name was given back for it that shows this.
pub record GivesFile (name : List ℕ) (Shows : SinkEnd → Type 0) (before now : Snapshot)
    : Type 0 where
  pub made : Snapshot
  pub makes : MakesFile name before made
  pub shown : SinkEnd
  pub named : IsNamed name shown.name
  pub shows : Shows shown
  pub takes : TakesBack shown made now

-- The script has this replay text, and a file was given just the texts of packets that the displays are told in it, one behind
-- the other: those of a front of its actions, and of all of them where the status is 0. Then the output, which showed this before
-- and shows that now, was given the whole text. At any other status it was given a shorter front of the lines of the same actions:
-- no line came before its packet, and no packet after the write that failed.
pub record IsStreamed (plant : PlantData) (text output : List ℕ) (status : ℕ)
    (written before now : Option (List ℕ)) : Type 0 where
  pub replay : IsTiedReplay plant text output
  pub front : List Action
  pub later : List Action
  pub place : replay.actions ≡ front ++ later
  pub all : status ≡ 0 → later ≡ []
  pub whole : status ≡ 0 → now ≡ appended before output
  pub cut : status ≢ 0 → StopsShort plant front before now
  pub given : IfSome written (λ bytes. bytes ≡ stream_texts (packets_in plant front))

-- The output is the lines of a front of the script's actions, and a file was given the packets of these. They are its items, and
-- none of them is bad, whatever part of a packet was written too. The next action has a packet: the one that failed. The output
-- was given all these lines, and something of what stands behind them, or a write of them failed too, after which no packet came.
pub record BreaksOff (plant : PlantData) (text output : List ℕ) (status : ℕ)
    (written before now : Option (List ℕ)) : Type 0 where
  pub whole : List ℕ
  pub replay : IsTiedReplay plant text whole
  pub front : List Action
  pub later : List Action
  pub place : replay.actions ≡ front ++ later
  pub stops : BeginWithPacket plant later
  pub lines : output ≡ lines_in plant front
  pub wrote : ((more : List ℕ) × (now ≡ appended before (output ++ more)))
      ⊎ ((status ≡ unwritten_status) × StopsShort plant front before now)
  pub given :
      IfSome written (λ bytes. stream_items bytes ≡ map Packet (packets_in plant front))

-- The script was replayed, and no write of the stream failed.
pub record StreamDone (plant : PlantData) (text output : List ℕ) (status : ℕ)
    (before now : Option (List ℕ)) (shown : SinkEnd) : Type 0 where
  pub no_faults : shown.faults ≡ 0
  pub streamed : IsStreamed plant text output status shown.written before now

-- A write of the stream failed.
pub record StreamBroke (plant : PlantData) (text output : List ℕ) (status : ℕ)
    (before now : Option (List ℕ)) (shown : SinkEnd) : Type 0 where
  pub faults : is_faulty shown.faults ≡ true
  pub broke : BreaksOff plant text output status shown.written before now

-- The file of the stream could not be made, and nothing was written.
pub record IsUnmade (name output : List ℕ) (before now : Snapshot) : Type 0 where
  pub none : output ≡ []
  pub fails : FailsToMake name before now

-- A replay of this script with its stream in the file of this name ends so, between two moments, with this status of the run.
-- Where memory runs out before the file is made, the files are as they were; behind that, and of a script with a refused line, the
-- file is empty. Where it is done, its output is the script's replay text. Where the file fails, some of that may stand in front
-- of the line that names it.
abbrev pub StreamEnds : PlantData → (text name : List ℕ) → Moment → Moment → End → ℕ → Type 0
StreamEnds plant text name before now end status =
    ((end ≡ out_of_memory) × ((now.files ≡ before.files)
    ⊎ GivesFile name (IsAsMade name) before.files now.files))
    ⊎ ((output : List ℕ) × (end ≡ done output)
    × GivesFile name
    (StreamDone plant text output status before.output.written now.output.written)
    before.files now.files)
    ⊎ ((number : ℕ) × (end ≡ ended 5 (line_refused number)) × IsFirstBad plant text number
    × GivesFile name (IsAsMade name) before.files now.files)
    ⊎ ((output : List ℕ) × (end ≡ behind output (file_failed name))
    × (IsUnmade name output before.files now.files
    ⊎ GivesFile name
    (StreamBroke plant text output status before.output.written now.output.written)
    before.files now.files))

-- What it promises of the plant, the script and the name that are given.
abbrev pub StreamRow : Promise parts NoMore
StreamRow given before now end status =
    StreamEnds given.0 given.1.0 given.1.1.0 before now end status
