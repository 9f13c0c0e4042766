-- The command `monitor`: what is given for its form, and how it may end.
use Rattle.std.specs.Prelude.{◌≡◌, ◌⊎◌, ℕ, List, [], ◌∷◌, codes}
use Rattle.record_replay.specs.Monitor.{monitor_text}
use Rattle.command_words.specs.Parts.{FileKind, Part, Whole, Last, NoMore}
use Rattle.command_rows.specs.End.{End, done, out_of_memory}
use Rattle.command_rows.specs.Row.{Promise, Alone}

-- a recorded stream, at most 64 MiB
abbrev pub recording : FileKind
recording = record { word = codes "stream"; longest = 67108864 }

-- the parts of its form
abbrev pub parts : List Part
parts = Whole recording ∷ []

-- The telling of this stream ends so: with exactly the lines of its items, or without memory.
abbrev pub MonitorEnds : List ℕ → End → Type 0
MonitorEnds stream end = (end ≡ out_of_memory) ⊎ (end ≡ done (monitor_text stream))

-- What it promises of the stream that is given. It leaves the files alone.
abbrev pub MonitorRow : Promise parts NoMore
MonitorRow = Alone parts NoMore (λ given. MonitorEnds given.0)
