-- The command `format`: what is given for its form, how it may end, and why, and what it leaves of the store that it makes.
use Rattle.std.specs.Prelude.{◌≡◌, ◌⊎◌, ℕ, true, List, [], ◌∷◌, ◌++◌, length, codes, Option, IfSome}
use Rattle.std.specs.Fmt.{decimal}
use Rattle.ctl_io.specs.Custody.{DiskEnd}
use Rattle.ctl_io.specs.DiskPast.{DiskPast, stored_since}
use Rattle.ctl_io.specs.Faults.{is_faulty}
use Rattle.plant_config.specs.Plant.{PlantData}
use Rattle.plant_core.specs.State.{start}
use Rattle.plant_snapshot.specs.StandsFor.{store_size, StandsFor}
use Rattle.command_words.specs.Parts.{Part, Plant, Store, NoMore}
use Rattle.command_rows.specs.Lines.{line}
use Rattle.command_rows.specs.Moment.{Moment}
use Rattle.command_rows.specs.LentDisk.{FailsToLend, GivesDisk, LeavesNow}
use Rattle.command_rows.specs.End.{End, done, file_failed}
use Rattle.command_rows.specs.Row.{Promise}

-- the parts of its form
abbrev pub parts : List Part
parts = Plant ∷ Store ∷ []

-- the line of a store of so many bytes
abbrev pub formatted : ℕ → List ℕ
formatted size = line (codes "formatted " ++ decimal size)

-- A disk with this past has so many bytes, where it shows that.
abbrev pub HasSize : ℕ → Option DiskPast → Type 0
HasSize size shown = IfSome shown (λ past. length (stored_since past).present ≡ size)

-- No call of a disk that shows this failed, it has as many bytes as the plant's stores, and whatever a crash leaves of it stands for
-- the start of the plant.
pub record IsFormatted (plant : PlantData) (shown : DiskEnd) : Type 0 where
  pub no_faults : shown.faults ≡ 0
  pub size : HasSize (store_size plant) shown.past
  pub start : LeavesNow shown.past (StandsFor plant (start plant) 0)

-- A call of it failed.
abbrev pub HasFailed : DiskEnd → Type 0
HasFailed shown = is_faulty shown.faults ≡ true

-- A format of this name for this plant ends so, between two moments: it is done, and its line has the size of the plant's stores; or
-- the disk couldn't be made or a call of it failed, and nothing else was written.
abbrev pub FormatEnds : PlantData → List ℕ → Moment → Moment → End → ℕ → Type 0
FormatEnds plant name before now end status =
    ((end ≡ done (formatted (store_size plant)))
    × GivesDisk name (IsFormatted plant) before.files now.files)
    ⊎ ((end ≡ file_failed name)
    × (FailsToLend name before.files now.files
    ⊎ GivesDisk name HasFailed before.files now.files))

-- What it promises of the plant and the name that are given.
abbrev pub FormatRow : Promise parts NoMore
FormatRow given before now end status = FormatEnds given.0 given.1.0 before now end status
