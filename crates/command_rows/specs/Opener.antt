-- What the opener makes of what words say: what is given for each part of a form, in their order, or what stops the run.
use Rattle.std.specs.Prelude.{◌≡◌, ◌⊎◌, ℕ, ◌-◌, ◌≤◌, List, [], ◌∷◌, ◌++◌, length, Option, Result, Ok, Err}
use Rattle.ctl_io.specs.Held.{Held, IsHeld, IsLonger, MayBeHere, MayBeMissing}
use Rattle.line_text.specs.Lines.{lines}
use Rattle.plant_config.specs.Plant.{PlantData}
use Rattle.command_words.specs.Words.{SaysNumber}
use Rattle.command_words.specs.Parts.{Part, Plant, Whole, Made, Store, Later, Number, Last, NoMore, Wholes, Prefix, Said, SaidLast, AllSaid, AllSay}
use Rattle.command_rows.specs.Moment.{Snapshot}
use Rattle.command_rows.specs.End.{Stopped, NoMemory, FileMissing, FileFault, PlantRefused, PlantTooLong, TooLong}
use Rattle.command_rows.specs.ReadsFile.{ReadsFile, reading_for}
use Rattle.command_rows.specs.OpensPlant.{OpensPlant}

-- ---- what words say

-- Words say something of parts and of what stands behind them.
pub record SaySome (parts : List Part) (last : Last) (words : List (List ℕ)) : Type 0 where
  pub said : AllSaid parts last
  pub say : AllSay 0 parts last words said

-- A word says a number between two others.
pub record SaysOne (word : List ℕ) : Type 0 where
  pub least : ℕ
  pub most : ℕ
  pub number : ℕ
  pub says : SaysNumber least most word number

-- ---- what is given

-- for a part: a plant, the bytes of a file, and a name or a number as it was said
abbrev pub Given : Part → Type 0
Given Plant = PlantData
Given (Whole kind) = List ℕ
Given Made = List ℕ
Given Store = List ℕ
Given (Later kind) = List ℕ
Given (Number low most) = ℕ

-- behind the parts: the lines of all files, each of which begins with a line of its own; and a prefix as it was said
abbrev pub GivenLast : Last → Type 0
GivenLast NoMore = Unit {0}
GivenLast (Wholes kind) = List (List ℕ)
GivenLast Prefix = Option (List ℕ)

-- for all parts, and behind them
abbrev pub AllGiven : List Part → Last → Type 0
AllGiven [] last = GivenLast last
AllGiven (part ∷ parts) last = Given part × AllGiven parts last

-- ---- one file

-- The file of this name, of which the files hold this, has these bytes, or stops the run. This is the word of its kind, and the
-- most bytes that it may have.
abbrev pub FindsWhole : (word : List ℕ) (most : ℕ) → List ℕ → Held
    → Result (List ℕ) Stopped → Type 0
FindsWhole word most name held (Ok bytes) = IsHeld held bytes × (length bytes ≤ most)
FindsWhole word most name held (Err NoMemory) = MayBeHere held
FindsWhole word most name held (Err (FileMissing missing)) = (missing ≡ name) × MayBeMissing held
FindsWhole word most name held (Err (FileFault failed)) = failed ≡ name
FindsWhole word most name held (Err (PlantRefused why)) = ⊥
FindsWhole word most name held (Err PlantTooLong) = ⊥
FindsWhole word most name held (Err (TooLong its)) = (its ≡ word) × IsLonger most held

-- The file of this name is read whole, and leads to this.
pub record ReadsWhole (word : List ℕ) (most : ℕ) (name : List ℕ) (before now : Snapshot)
    (read : Result (List ℕ) Stopped) : Type 0 where
  pub finds : FindsWhole word most name (before.held name 0) read
  pub reads : ReadsFile (reading_for read) name before now

-- ---- one part

-- What was said is given, and nothing is asked of the files.
abbrev pub GivesSaid : {A : Type 0} → A → Snapshot → Snapshot → Result A Stopped → Type 0
GivesSaid said before now (Ok given) = (given ≡ said) × (now ≡ before)
GivesSaid said before now (Err stopped) = ⊥

-- What a word says of a part leads to this.
abbrev pub Leads : (part : Part) → Said part → Snapshot → Snapshot
    → Result (Given part) Stopped → Type 0
Leads Plant said before now opened = OpensPlant said before now opened
Leads (Whole kind) said before now opened = ReadsWhole kind.word kind.longest said before now opened
Leads Made said before now opened = GivesSaid said before now opened
Leads Store said before now opened = GivesSaid said before now opened
Leads (Later kind) said before now opened = GivesSaid said before now opened
Leads (Number low most) said before now opened = GivesSaid said before now opened

-- ---- behind the parts

-- The file of this name is read whole, and others behind it.
pub record ReadsOn (word : List ℕ) (most : ℕ) (name : List ℕ) (before : Snapshot)
    (Others : List ℕ → Snapshot → Type 0) : Type 0 where
  pub bytes : List ℕ
  pub between : Snapshot
  pub reads : ReadsWhole word most name before between (Ok bytes)
  pub others : Others bytes between

-- The files of these names are read whole, one after the other, and lead to their lines, or one of them stops the run. Together
-- they may have this many bytes.
abbrev pub ReadsAll : (word : List ℕ) (most : ℕ) → List (List ℕ) → Snapshot → Snapshot
    → Result (List (List ℕ)) Stopped → Type 0
ReadsAll word most [] before now (Ok given) = (given ≡ []) × (now ≡ before)
ReadsAll word most [] before now (Err stopped) = ⊥
ReadsAll word most (name ∷ later) before now (Ok given) =
    (more : List (List ℕ)) × ReadsOn word most name before
    (λ bytes between. ReadsAll word (most - length bytes) later between now (Ok more)
    × (given ≡ lines bytes ++ more))
ReadsAll word most (name ∷ later) before now (Err stopped) =
    ReadsWhole word most name before now (Err stopped)
    ⊎ ReadsOn word most name before
    (λ bytes between. ReadsAll word (most - length bytes) later between now (Err stopped))

-- What words say behind the parts leads to this.
abbrev pub LastLeads : (last : Last) → SaidLast last → Snapshot → Snapshot
    → Result (GivenLast last) Stopped → Type 0
LastLeads NoMore said before now (Ok given) = now ≡ before
LastLeads NoMore said before now (Err stopped) = ⊥
LastLeads (Wholes kind) said before now opened =
    ReadsAll kind.word kind.longest said before now opened
LastLeads Prefix said before now opened = GivesSaid said before now opened

-- ---- all parts

-- For the part this one is given, and the others go on behind it.
pub record GoesOn (part : Part) (said : Said part) (one : Given part) (before : Snapshot)
    (Others : Snapshot → Type 0) : Type 0 where
  pub between : Snapshot
  pub leads : Leads part said before between (Ok one)
  pub others : Others between

-- What words say of parts leads to what is given for them, each in turn, or to what stops the run at the first that does.
abbrev pub AllLead : (parts : List Part) (last : Last) → AllSaid parts last
    → Snapshot → Snapshot → Result (AllGiven parts last) Stopped → Type 0
AllLead [] last said before now opened = LastLeads last said before now opened
AllLead (part ∷ parts) last said before now (Ok given) =
    GoesOn part said.0 given.0 before
    (λ between. AllLead parts last said.1 between now (Ok given.1))
AllLead (part ∷ parts) last said before now (Err stopped) =
    Leads part said.0 before now (Err stopped)
    ⊎ ((one : Given part) × GoesOn part said.0 one before
    (λ between. AllLead parts last said.1 between now (Err stopped)))

-- Opening leads to this, whatever these words say.
abbrev pub OpensOn : (parts : List Part) (last : Last) → List (List ℕ) → Snapshot → Snapshot
    → Result (AllGiven parts last) Stopped → Type 0
OpensOn parts last words before now opened = (said : AllSaid parts last)
    → AllSay 0 parts last words said → AllLead parts last said before now opened
