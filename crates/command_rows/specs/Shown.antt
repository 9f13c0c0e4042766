-- What the files show of what words say: what opening leads to, wherever memory doesn't run out and the files don't fail.
use Rattle.std.specs.Prelude.{◌≡◌, ◌⊎◌, ℕ, ◌+◌, ◌-◌, ◌<◌, ◌≤◌, bytes_eq, if◌then◌else◌, MatchBool, List, [], ◌∷◌, ◌++◌, length, Result, Ok, Err}
use Rattle.ctl_io.specs.Held.{Held, Unshown, NoFile, Holds}
use Rattle.line_text.specs.Lines.{lines}
use Rattle.plant_file.specs.declared.fault.PlantFault.{PlantFault}
use Rattle.plant_file.specs.FaultText.{fault_text}
use Rattle.plant_config.specs.Plant.{PlantData}
use Rattle.plant_config.specs.Bench.{bench}
use Rattle.plant_config.specs.PlantOfText.{plant_of_text}
use Rattle.command_words.specs.Parts.{Part, Plant, Whole, Made, Store, Later, Number, Last, NoMore, Wholes, Prefix, Said, SaidLast, AllSaid}
use Rattle.command_rows.specs.End.{Stopped, FileMissing, PlantRefused, PlantTooLong, TooLong}
use Rattle.command_rows.specs.OpensPlant.{longest_plant, is_bench}
use Rattle.command_rows.specs.Opener.{Given, GivenLast, AllGiven}
use Rattle.command_rows.specs.OpenerLaws.{part_files}

-- what files hold of each name, for each of its openings from now
abbrev pub Holding : Type 0
Holding = List ℕ → ℕ → Held

-- the same once a file of this name was opened: of that name each opening finds what the one behind it would have found
abbrev pub behind_one : List ℕ → Holding → Holding
behind_one name held other opening =
    if bytes_eq name other then held other (opening + 1) else held other opening

-- and once files of these names were, one after the other
abbrev pub behind_all : List (List ℕ) → Holding → Holding
behind_all [] held = held
behind_all (name ∷ later) held = behind_all later (behind_one name held)

-- The text of a plant's file leads to its plant, or is refused for its first fault.
abbrev pub TextShows : Result PlantData PlantFault → Result PlantData Stopped → Type 0
TextShows (Ok plant) opened = opened ≡ Ok plant
TextShows (Err fault) opened = opened ≡ Err (PlantRefused (fault_text fault))

-- A plant's file of this name, of which the files hold this, leads to this: it is missing, it is too long, or its text is looked at.
abbrev pub FileShows : List ℕ → Held → Result PlantData Stopped → Type 0
FileShows name Unshown opened = ⊥
FileShows name NoFile opened = opened ≡ Err (FileMissing name)
FileShows name (Holds text) opened =
    ((longest_plant < length text) × (opened ≡ Err PlantTooLong))
    ⊎ ((length text ≤ longest_plant) × TextShows (plant_of_text text) opened)

-- A file of this name that is read whole leads to this: it is missing, it is too long, or it gives its bytes.
abbrev pub WholeShows : (word : List ℕ) (most : ℕ) → List ℕ → Held
    → Result (List ℕ) Stopped → Type 0
WholeShows word most name Unshown read = ⊥
WholeShows word most name NoFile read = read ≡ Err (FileMissing name)
WholeShows word most name (Holds bytes) read =
    ((most < length bytes) × (read ≡ Err (TooLong word)))
    ⊎ ((length bytes ≤ most) × (read ≡ Ok bytes))

-- What a word says of a part leads to this.
abbrev pub Shows : (part : Part) → Said part → Holding → Result (Given part) Stopped → Type 0
Shows Plant word held opened =
    MatchBool (is_bench word) (opened ≡ Ok bench) (FileShows word (held word 0) opened)
Shows (Whole kind) name held opened =
    WholeShows kind.word kind.longest name (held name 0) opened
Shows Made name held opened = opened ≡ Ok name
Shows Store name held opened = opened ≡ Ok name
Shows (Later kind) name held opened = opened ≡ Ok name
Shows (Number low most) number held opened = opened ≡ Ok number

-- The files of these names, read whole one after the other, lead to their lines, or the first of them that is missing, or with
-- which they are too long, stops the run.
abbrev pub AllWholeShow : (word : List ℕ) (most : ℕ) → List (List ℕ) → Holding
    → Result (List (List ℕ)) Stopped → Type 0
AllWholeShow word most [] held opened = opened ≡ Ok []
AllWholeShow word most (name ∷ later) held (Ok given) =
    (bytes : List ℕ) × (more : List (List ℕ)) × WholeShows word most name (held name 0) (Ok bytes)
    × AllWholeShow word (most - length bytes) later (behind_one name held) (Ok more)
    × (given ≡ lines bytes ++ more)
AllWholeShow word most (name ∷ later) held (Err stopped) =
    WholeShows word most name (held name 0) (Err stopped)
    ⊎ ((bytes : List ℕ) × WholeShows word most name (held name 0) (Ok bytes)
    × AllWholeShow word (most - length bytes) later (behind_one name held) (Err stopped))

-- What words say behind the parts leads to this.
abbrev pub LastShows : (last : Last) → SaidLast last → Holding
    → Result (GivenLast last) Stopped → Type 0
LastShows NoMore said held (Ok given) = Unit {0}
LastShows NoMore said held (Err stopped) = ⊥
LastShows (Wholes kind) names held opened =
    AllWholeShow kind.word kind.longest names held opened
LastShows Prefix said held opened = opened ≡ Ok said

-- What words say of all parts leads to what is given for them, or to what stops the run at the first that does.
abbrev pub AllShow : (parts : List Part) (last : Last) → AllSaid parts last → Holding
    → Result (AllGiven parts last) Stopped → Type 0
AllShow [] last said held opened = LastShows last said held opened
AllShow (part ∷ parts) last said held (Ok given) = Shows part said.0 held (Ok given.0)
    × AllShow parts last said.1 (behind_all (part_files part said.0) held) (Ok given.1)
AllShow (part ∷ parts) last said held (Err stopped) = Shows part said.0 held (Err stopped)
    ⊎ ((one : Given part) × Shows part said.0 held (Ok one)
    × AllShow parts last said.1 (behind_all (part_files part said.0) held) (Err stopped))
