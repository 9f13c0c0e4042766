-- The command `drive`: what is given for its form, what it writes, and how it may end.
use Rattle.std.specs.Prelude.{◌≡◌, ◌⊎◌, ℕ, nat_eq, Bool, false, List, [], ◌∷◌, ◌++◌, codes, count_by, is_some}
use Rattle.std.specs.List.{range_with_len}
use Rattle.std.specs.Option.{option_map_or, option_eq}
use Rattle.std.specs.FinMap.{get}
use Rattle.std.specs.Fmt.{decimal}
use Rattle.matrix_driver.specs.World.{World}
use Rattle.command_words.specs.Parts.{Part, Number, AtLeast, NoMore}
use Rattle.command_rows.specs.Lines.{line}
use Rattle.command_rows.specs.End.{End, done, out_of_memory}
use Rattle.command_rows.specs.Row.{Promise, Alone}
use Rattle.command_drive.specs.Drive.{Drive, IsEnd}

-- the parts of its form: a number from which the wants are made, and how many there are
abbrev pub parts : List Part
parts = Number (AtLeast 0) 4294967295 ∷ Number (AtLeast 1) 100000 ∷ []

-- whether the driver counts a destination as settled
abbrev pub is_settled : World → ℕ → Bool
is_settled world dest = is_some (get world.driver.progress.settled dest)

-- whether it does, and the frame has the destination at the source at which it is settled
abbrev pub agrees : World → ℕ → Bool
agrees world dest =
    option_map_or (λ source. option_eq nat_eq (world.carried dest) source)
    (get world.driver.progress.settled dest) false

-- how many of the level's destinations are settled, and at how many of these the frame agrees
abbrev pub settled_count : World → ℕ
settled_count world = count_by (is_settled world) (range_with_len 0 32)

abbrev pub agree_count : World → ℕ
agree_count world = count_by (agrees world) (range_with_len 0 32)

-- the lines of a drive, with how many wants there were, how many messages were sent to the frame, and how many destinations
-- were settled and at how many the frame agrees
abbrev pub drive_lines : ℕ → ℕ → ℕ → ℕ → List ℕ
drive_lines wants sent settled agree =
    line (codes "wants " ++ decimal wants) ++ line (codes "sent " ++ decimal sent)
    ++ line (codes "settled " ++ decimal settled) ++ line (codes "agree " ++ decimal agree)

abbrev pub drive_text : ℕ → Drive → List ℕ
drive_text wants drive =
    drive_lines wants drive.sent (settled_count drive.world) (agree_count drive.world)

-- What was said of the drive that came to this end: its lines, and the frame agrees wherever the driver counts on it.
pub record IsDriven (number wants : ℕ) (end : End) : Type 0 where
  pub drive : Drive
  pub is_end : IsEnd number wants drive
  pub says : end ≡ done (drive_text wants drive)
  pub all_agree : agree_count drive.world ≡ settled_count drive.world

-- The command ends so: with the four lines of the one drive, or without memory.
abbrev pub DriveEnds : ℕ → ℕ → End → Type 0
DriveEnds number wants end = (end ≡ out_of_memory) ⊎ IsDriven number wants end

-- What it promises of the numbers that are given. It leaves the files alone.
abbrev pub DriveRow : Promise parts NoMore
DriveRow = Alone parts NoMore (λ given. DriveEnds given.0 given.1.0)
