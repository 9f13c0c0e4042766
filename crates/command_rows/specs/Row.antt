-- A row: a command by what is given for its form, and by what it promises of that between two moments.
use Rattle.std.specs.Prelude.{◌≡◌, ◌≢◌, ◌⊎◌, ℕ, false, MatchBool, List, Ok, Err}
use Rattle.ctl_io.specs.Faults.{Rose}
use Rattle.command_words.specs.Parts.{Part, Last, AllSaid, AllSay}
use Rattle.command_rows.specs.Moment.{Snapshot, Output, Moment, FilesStay}
use Rattle.command_rows.specs.End.{End, Stopped, stopped_end, ComesTo}
use Rattle.command_rows.specs.Opener.{AllGiven, AllLead}

-- What all rows promise of an end: its status is none of those that words and plant files have, and the files' count of faults
-- rose exactly if the end is a fault of theirs.
pub record IsOwn (end : End) (before now : Snapshot) : Type 0 where
  pub not_words : end.status ≢ 2
  pub not_plant : end.status ≢ 4
  pub faults : MatchBool end.is_file_fault (Rose before.faults now.faults)
      (now.faults ≡ before.faults)

-- What a row promises: with this given for its parts, between these moments, it ends so, with this status of the run.
abbrev pub Promise : List Part → Last → Type 1
Promise parts last = AllGiven parts last → Moment → Moment → End → ℕ → Type 0

-- A row ends by an end that it promises, with this status.
pub record RowEnds (Ends : Moment → Moment → End → ℕ → Type 0) (before now : Moment)
    (status : ℕ) : Type 0 where
  pub end : End
  pub ends : Ends before now end status
  pub own : IsOwn end before.files now.files
  pub comes : ComesTo end status before.output now.output

-- Opening what is said stops the run, and the line of that is all that is written.
pub record StopsAtOpening (parts : List Part) (last : Last) (said : AllSaid parts last)
    (before now : Moment) (status : ℕ) : Type 0 where
  pub stopped : Stopped
  pub lead : AllLead parts last said before.files now.files (Err stopped)
  pub comes : ComesTo (stopped_end stopped) status before.output now.output

-- What is said is opened, and the row ends with what is given.
pub record EndsOpened (parts : List Part) (last : Last) (Ends : Promise parts last)
    (said : AllSaid parts last) (before now : Moment) (status : ℕ) : Type 0 where
  pub given : AllGiven parts last
  pub opened : Snapshot
  pub lead : AllLead parts last said before.files opened (Ok given)
  pub ends : RowEnds (Ends given) (record before { files = opened }) now status

-- A run of a row ends so, if words say this of its parts.
abbrev pub RowRuns : (parts : List Part) (last : Last) → Promise parts last → AllSaid parts last
    → Moment → Moment → ℕ → Type 0
RowRuns parts last Ends said before now status =
    StopsAtOpening parts last said before now status
    ⊎ EndsOpened parts last Ends said before now status

-- The same, whatever these words say of its parts.
abbrev pub RunsOn : (parts : List Part) (last : Last) → Promise parts last → List (List ℕ)
    → Moment → Moment → ℕ → Type 0
RunsOn parts last Ends words before now status = (said : AllSaid parts last)
    → AllSay 0 parts last words said → RowRuns parts last Ends said before now status

-- ---- rows that ask nothing of the files once their inputs are opened

-- Such a row promises just what end it may have.
abbrev pub Alone : (parts : List Part) (last : Last) → (AllGiven parts last → End → Type 0)
    → Promise parts last
Alone parts last Ends given before now end status = Ends given end × FilesStay before now

-- It ends by an end that it may have, which is no fault of the files.
pub record EndsAlone (Ends : End → Type 0) (before now : Output) (status : ℕ) : Type 0 where
  pub end : End
  pub ends : Ends end
  pub not_words : end.status ≢ 2
  pub not_plant : end.status ≢ 4
  pub no_fault : end.is_file_fault ≡ false
  pub comes : ComesTo end status before now
