-- The files of the traces of a plant that is served: their names, and what the files make of them.
use Rattle.std.specs.Prelude.{◌≡◌, ℕ, List, [], ◌∷◌, ◌++◌, map, take, slice_get, codes}
use Rattle.std.specs.Prelude.{Option, Some, None}
use Rattle.std.specs.Fmt.{decimal}
use Rattle.std.specs.List.{range_with_len}
use Rattle.ctl_io.specs.Custody.{SinkEnd}
use Rattle.command_rows.specs.Moment.{Snapshot}
use Rattle.command_rows.specs.MadeFile.{MakesFile, FailsToMake, IsAsMade, TakesBack}
use Rattle.command_serve.specs.declared.trace_files.Unmade.{Unmade}
use Rattle.command_serve.specs.declared.trace_files.Unmade.TheVariants.{NoMemory, Refused}

-- the name of the trace of a panel, by its number
abbrev pub panel_trace : List ℕ → ℕ → List ℕ
panel_trace prefix panel = prefix ++ (codes "." ++ decimal panel)

-- the names of the traces of a plant with so many panels: one a panel, in order, and last that of the displays
abbrev pub trace_names : List ℕ → ℕ → List (List ℕ)
trace_names prefix panels =
    map (panel_trace prefix) (range_with_len 0 panels) ++ (prefix ++ codes ".d") ∷ []

-- the names where a prefix is given, and none where it isn't
abbrev pub names_for : Option (List ℕ) → ℕ → List (List ℕ)
names_for None panels = []
names_for (Some prefix) panels = trace_names prefix panels

-- The files of these names were made, one after the other, in order.
abbrev pub MakesFiles : List (List ℕ) → Snapshot → Snapshot → Type 0
MakesFiles [] before now = now ≡ before
MakesFiles (name ∷ later) before now =
    (between : Snapshot) × MakesFile name before between × MakesFiles later between now

-- Sinks are as they were made for the files of these names, one each, in order.
abbrev pub AreAsMade : List (List ℕ) → List SinkEnd → Type 0
AreAsMade [] [] = Unit {0}
AreAsMade (name ∷ names) (shown ∷ others) = IsAsMade name shown × AreAsMade names others
AreAsMade [] (shown ∷ others) = ⊥
AreAsMade (name ∷ names) [] = ⊥

-- Sinks that show so much were given back, one after the other, the last first.
abbrev pub TakesAllBack : List SinkEnd → Snapshot → Snapshot → Type 0
TakesAllBack [] before now = now ≡ before
TakesAllBack (shown ∷ later) before now =
    (between : Snapshot) × TakesAllBack later before between × TakesBack shown between now

-- The files of the names before a place were made, with sinks that show so much, and that of the name at the place could not
-- be made.
pub record StopsMaking (names : List (List ℕ)) (place : ℕ) (shown : List SinkEnd)
    (before now : Snapshot) : Type 0 where
  pub name : List ℕ
  pub at : slice_get names place ≡ Some name
  pub as_made : AreAsMade (take place names) shown
  pub made : Snapshot
  pub makes : MakesFiles (take place names) before made
  pub fails : FailsToMake name made now

-- The files of the names before a place were made, that of the name at the place could not be made, and then the sinks of the
-- others were given back as they were made, the last first.
pub record FailsAt (names : List (List ℕ)) (place : ℕ) (before now : Snapshot) : Type 0 where
  pub shown : List SinkEnd
  pub stopped : Snapshot
  pub stops : StopsMaking names place shown before stopped
  pub takes : TakesAllBack shown stopped now

-- Files of these names were not made, and why: there was no memory for their sinks, and no file was asked for; or that of the
-- name at a place could not be made.
abbrev pub FailsToMakeAll : List (List ℕ) → Unmade → Snapshot → Snapshot → Type 0
FailsToMakeAll names NoMemory before now = now ≡ before
FailsToMakeAll names (Refused place) before now = FailsAt names place before now
