-- What the calls of a store answer, and what becomes of its disk.
use Rattle.std.specs.Prelude.{◌≡◌, ◌≢◌, ℕ, ◌+◌, ◌^◌, ◌<◌, ◌≤◌, Bool, true, false, List, Result, Ok, Err}
use Rattle.plant_config.specs.Plant.{PlantData}
use Rattle.plant_core.specs.State.{State}
use Rattle.plant_snapshot.specs.StandsFor.{StandsFor}
use Rattle.plant_snapshot.specs.Damage.{IsDamaged, IsWhole}
use Rattle.plant_snapshot.specs.Store.{disk_of, saved_number}
use Rattle.plant_snapshot.specs.declared.store.Store.{Store}
use Rattle.plant_snapshot.specs.declared.fault.OpenFault.{OpenFault}
use Rattle.plant_snapshot.specs.declared.fault.OpenFault.TheVariants.{NoMemory, WrongSize, Failed, Damaged}
use Rattle.plant_snapshot.specs.declared.fault.SaveFault.{SaveFault}
use Rattle.plant_snapshot.specs.declared.fault.SaveFault.TheVariants as saves

-- the number from which on nothing is saved any more
abbrev pub number_limit : ℕ
number_limit = 2 ^ 63

-- the disk that a fault of a save hands back, and whether it says that a call of the disk failed
abbrev pub disk_unsaved : {D : Type 0} → SaveFault D → D
disk_unsaved (saves.Failed disk) = disk
disk_unsaved (saves.Full store) = disk_of store

abbrev pub says_failed : {D : Type 0} → SaveFault D → Bool
says_failed (saves.Failed disk) = true
says_failed (saves.Full store) = false

-- the disk that a format hands back, and a save
abbrev pub disk_formatted : {D : Type 0} → Result D (SaveFault D) → D
disk_formatted (Ok disk) = disk
disk_formatted (Err fault) = disk_unsaved fault

abbrev pub disk_saved : {D : Type 0} → Result (Store D) (SaveFault D) → D
disk_saved (Ok store) = disk_of store
disk_saved (Err fault) = disk_unsaved fault

-- whether a call of the disk failed in a save
abbrev pub save_failed : {D : Type 0} → Result (Store D) (SaveFault D) → Bool
save_failed (Ok store) = false
save_failed (Err fault) = says_failed fault

-- A save of this store tells that it is full exactly if its number isn't below the limit, and then hands the same store back.
abbrev pub TellsFull : {D : Type 0} → Store D → Result (Store D) (SaveFault D) → Type 0
TellsFull store (Ok saved) = saved_number store < number_limit
TellsFull store (Err (saves.Failed disk)) = saved_number store < number_limit
TellsFull store (Err (saves.Full same)) =
    (same ≡ store) × (number_limit ≤ saved_number store)

-- what an opening answers: a store and the state that it stands for, or a fault
abbrev pub Opened : Type 0 → Type 0
Opened D = Result (Store D × State) (OpenFault D)

-- the disk that an opening hands back, in a store or by itself
abbrev pub disk_unopened : {D : Type 0} → OpenFault D → D
disk_unopened (NoMemory disk) = disk
disk_unopened (WrongSize disk found wanted) = disk
disk_unopened (Failed disk) = disk
disk_unopened (Damaged disk slot place) = disk

abbrev pub disk_opened : {D : Type 0} → Opened D → D
disk_opened (Ok opened) = disk_of opened.0
disk_opened (Err fault) = disk_unopened fault

-- whether a call of the disk failed in an opening
abbrev pub says_unread : {D : Type 0} → OpenFault D → Bool
says_unread (NoMemory disk) = false
says_unread (WrongSize disk found wanted) = false
says_unread (Failed disk) = true
says_unread (Damaged disk slot place) = false

abbrev pub open_failed : {D : Type 0} → Opened D → Bool
open_failed (Ok opened) = false
open_failed (Err fault) = says_unread fault

-- A disk of so many bytes, of which others are wanted, is told to have a wrong size exactly if the two differ.
abbrev pub TellsSize : {D : Type 0} → ℕ → ℕ → Opened D → Type 0
TellsSize found wanted (Ok opened) = found ≡ wanted
TellsSize found wanted (Err (NoMemory disk)) = found ≡ wanted
TellsSize found wanted (Err (WrongSize disk told_found told_wanted)) =
    (told_found ≡ found) × (told_wanted ≡ wanted) × (found ≢ wanted)
TellsSize found wanted (Err (Failed disk)) = found ≡ wanted
TellsSize found wanted (Err (Damaged disk slot place)) = found ≡ wanted

-- These bytes are told to be damaged if they are so, at this slot and place, and opened only if they aren't.
abbrev pub TellsDamage : {D : Type 0} → PlantData → Opened D → List ℕ → Type 0
TellsDamage plant (Ok opened) all = IsWhole plant all
TellsDamage plant (Err (NoMemory disk)) all = Unit {0}
TellsDamage plant (Err (WrongSize disk found wanted)) all = Unit {0}
TellsDamage plant (Err (Failed disk)) all = Unit {0}
TellsDamage plant (Err (Damaged disk slot place)) all = IsDamaged plant slot place all

-- What is opened is this state under this number, or there was no memory, the disk had a wrong size, or a call of it failed.
abbrev pub GivesState : {D : Type 0} → State → ℕ → Opened D → Type 0
GivesState state number (Ok opened) = (opened.1 ≡ state) × (saved_number opened.0 ≡ number)
GivesState state number (Err (NoMemory disk)) = Unit {0}
GivesState state number (Err (WrongSize disk found wanted)) = Unit {0}
GivesState state number (Err (Failed disk)) = Unit {0}
GivesState state number (Err (Damaged disk slot place)) = ⊥

-- Whatever state these bytes stand for, under its number: that is what is opened, but for such faults.
abbrev pub GivesBack : {D : Type 0} → PlantData → Opened D → List ℕ → Type 0
GivesBack plant answer all = (state : State) (number : ℕ)
    → StandsFor plant state number all → GivesState state number answer
