-- The first of some faults part by part, and what is known of what was read by its answer.
use Rattle.std.proofs.Common.{◌≡◌, List, [], ◌∷◌, ◌++◌, Some, None, Ok, Err, refl}
use Rattle.std.specs.Option.{option_or}
use Rattle.plant_file.specs.declared.fault.PlantFault.{PlantFault}
use Rattle.plant_file.specs.FirstFault.{first_fault, unless_fault}

-- the first of two lists is that of the front one, and of the other where that is empty
pub first_fault-append : (front behind : List PlantFault) → first_fault (front ++ behind) ≡ option_or (first_fault front) (first_fault behind)
first_fault-append [] behind = refl
first_fault-append (fault ∷ more) behind = refl

-- there is no first one where there is none
pub first_fault-none : (faults : List PlantFault) → first_fault faults ≡ None → faults ≡ []
first_fault-none [] none = refl
first_fault-none (fault ∷ more) none = cc

-- what was read was read without a fault
pub unless_fault-Ok : {X : Type 0} (value read : X) (faults : List PlantFault) → unless_fault value (first_fault faults) ≡ Ok read → (value ≡ read) × (faults ≡ [])
unless_fault-Ok value read [] is = (cc, refl)
unless_fault-Ok value read (fault ∷ more) is = cc

-- a fault that is answered is the first one
pub unless_fault-Err : {X : Type 0} (value : X) (fault : PlantFault) (faults : List PlantFault) → unless_fault value (first_fault faults) ≡ Err fault → first_fault faults ≡ Some fault
unless_fault-Err value fault [] is = cc
unless_fault-Err value fault (first ∷ more) is = cc
