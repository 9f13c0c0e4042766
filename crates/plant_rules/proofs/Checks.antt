-- Checks that are made one behind the other.
use Rattle.std.proofs.Common.{◌≡◌, List, [], ◌∷◌, ◌++◌, Result, Ok, refl}
use Rattle.plant_file.specs.declared.fault.PlantFault.{PlantFault}
use Rattle.plant_file.specs.FirstFault.{first_fault, unless_fault}

-- a check of these faults
abbrev pub check_of : List PlantFault → Result (Unit {0}) PlantFault
check_of faults = unless_fault (tt {0}) (first_fault faults)

no_faults : (faults : List PlantFault) → check_of faults ≡ Ok (tt {0}) → faults ≡ []
no_faults [] passed = refl
no_faults (fault ∷ more) passed = cc

-- where six checks found nothing, what the seventh one answers is the answer
pub seventh_check : (a b c d e f last : List PlantFault) → check_of a ≡ Ok (tt {0}) → check_of b ≡ Ok (tt {0}) → check_of c ≡ Ok (tt {0}) → check_of d ≡ Ok (tt {0}) → check_of e ≡ Ok (tt {0}) → check_of f ≡ Ok (tt {0}) → check_of (a ++ b ++ c ++ d ++ e ++ f ++ last) ≡ check_of last
seventh_check a b c d e f last pa pb pc pd pe pf = rw (no_faults a pa, no_faults b pb, no_faults c pc, no_faults d pd, no_faults e pe, no_faults f pf) refl
