-- How opening follows what the files show, and what it leaves of them.
use Rattle.std.specs.Prelude.{◌≡◌, ◌⊎◌, ℕ, List, Contains, Result, Ok, Err}
use Rattle.ctl_io.specs.Held.{Stays}
use Rattle.ctl_io.specs.WholeFile.{Well}
use Rattle.plant_config.specs.Plant.{PlantData}
use Rattle.plant_config.specs.IsPlant.{IsPlant}
use Rattle.command_words.specs.Parts.{Part, Plant, Last, AllSaid}
use Rattle.command_rows.specs.Moment.{Snapshot}
use Rattle.command_rows.specs.End.{Stopped, NoMemory, FileFault}
use Rattle.command_rows.specs.Opener.{AllGiven, AllLead}
use Rattle.command_rows.specs.OpenerLaws.{form_files, ReadsFiles}
use Rattle.command_rows.specs.Shown.{Holding, behind_all, Shows, AllShow}

-- This keeps a run from what the files show: memory ran out, or the files had a fault.
abbrev pub Keeps : Stopped → Type 0
Keeps NoMemory = Unit {0}
Keeps (FileFault name) = Unit {0}
Keeps other = ⊥

-- Opening was kept from that.
abbrev pub IsKept : {A : Type 0} → Result A Stopped → Type 0
IsKept (Ok given) = ⊥
IsKept (Err stopped) = Keeps stopped

-- Opening leads to what the files show, unless it was kept from that.
abbrev pub OpeningFollowsShown : Type 0
OpeningFollowsShown = (parts : List Part) (last : Last) (said : AllSaid parts last)
    (before now : Snapshot) (opened shown : Result (AllGiven parts last) Stopped)
    → AllLead parts last said before now opened → AllShow parts last said before.held shown
    → (opened ≡ shown) ⊎ IsKept opened

-- Once files were read well, one after the other, each opening of a name finds what the one behind them would have found before.
abbrev pub ReadingCountsOn : Type 0
ReadingCountsOn = (names : List (List ℕ)) (before now : Snapshot)
    → ReadsFiles Well names before now → now.held ≡ behind_all names before.held

-- As many sources are out behind opening as before it.
abbrev pub OpeningGivesBack : Type 0
OpeningGivesBack = (parts : List Part) (last : Last) (said : AllSaid parts last)
    (before now : Snapshot) (opened : Result (AllGiven parts last) Stopped)
    → AllLead parts last said before now opened
    → now.custody.sources.out ≡ before.custody.sources.out

-- What the files hold of a name stays that is none of the form's.
abbrev pub OpeningLeavesOthers : Type 0
OpeningLeavesOthers = (parts : List Part) (last : Last) (said : AllSaid parts last)
    (before now : Snapshot) (opened : Result (AllGiven parts last) Stopped) (name : List ℕ)
    → AllLead parts last said before now opened
    → (Contains (form_files parts last said) name → ⊥)
    → Stays (before.held name) (now.held name)

-- A plant that the files show by a word is one.
abbrev pub ShownPlantsArePlants : Type 0
ShownPlantsArePlants = (word : List ℕ) (held : Holding) (plant : PlantData)
    → Shows Plant word held (Ok plant) → IsPlant plant
