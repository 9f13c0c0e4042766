-- What becomes of the files where one of them is made anew, and its sink is given back.
use Rattle.std.specs.Prelude.{◌≡◌, ℕ, List, Option}
use Rattle.ctl_io.specs.Custody.{SinkEnd, lent, returned}
use Rattle.ctl_io.specs.Faults.{count_after, is_faulty, one_more}
use Rattle.ctl_io.specs.Held.{AllStayBut, IsNamed, OtherOpeningsStay}
use Rattle.ctl_io.specs.Sink.{IsUnwritten}
use Rattle.command_rows.specs.Moment.{Snapshot}

-- what a sink shows, by what its type says of it
abbrev pub sink_end : {K : Type 0} → (K → Option (List ℕ)) → (K → Option (List ℕ)) → (K → ℕ)
    → K → SinkEnd
sink_end name written faults sink =
    record { name = name sink; written = written sink; faults = faults sink }

-- The file of this name was made anew, and its sink was handed out.
pub record MakesFile (name : List ℕ) (before now : Snapshot) : Type 0 where
  pub others : OtherOpeningsStay name before.held now.held
  pub custody : now.custody ≡ record before.custody { sinks = lent before.custody.sinks }
  pub faults : now.faults ≡ before.faults

-- It could not be made.
pub record FailsToMake (name : List ℕ) (before now : Snapshot) : Type 0 where
  pub others : OtherOpeningsStay name before.held now.held
  pub custody : now.custody ≡ before.custody
  pub faults : now.faults ≡ one_more before.faults

-- A sink shows what it did when it was made for the file of this name: nothing was written to it, and no write failed.
pub record IsAsMade (name : List ℕ) (shown : SinkEnd) : Type 0 where
  pub named : IsNamed name shown.name
  pub unwritten : IsUnwritten shown.written
  pub no_faults : shown.faults ≡ 0

-- A sink that shows so much was given back.
pub record TakesBack (shown : SinkEnd) (before now : Snapshot) : Type 0 where
  pub others : AllStayBut shown.name before.held now.held
  pub custody : now.custody
      ≡ record before.custody { sinks = returned shown before.custody.sinks }
  pub faults : now.faults ≡ count_after (is_faulty shown.faults) before.faults
