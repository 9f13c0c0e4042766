-- What a reading answers: what was read, or the first fault of its text; or that there was no memory.
use Rattle.std.specs.Prelude.{◌≡◌, ◌⊎◌, List, [], ◌∷◌, Option, Some, None, Result, Ok, Err}
use Rattle.plant_file.specs.declared.fault.PlantFault.{PlantFault}
use Rattle.plant_file.specs.declared.fault.PlantFault.TheVariants.{NoMemory}

-- the first of some faults, which is the one that is answered
abbrev pub first_fault : List PlantFault → Option PlantFault
first_fault [] = None
first_fault (fault ∷ more) = Some fault

-- what was read, unless there is a fault
abbrev pub unless_fault : {X : Type 0} → X → Option PlantFault → Result X PlantFault
unless_fault read None = Ok read
unless_fault read (Some fault) = Err fault

-- A reading answers this, or that there was no memory.
abbrev pub Answers : {X : Type 0} → Result X PlantFault → Result X PlantFault → Type 0
Answers result wanted = (result ≡ wanted) ⊎ (result ≡ Err NoMemory)
