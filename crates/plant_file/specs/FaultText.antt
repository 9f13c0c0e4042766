-- A fault as it is printed.
use Rattle.std.specs.Prelude.{ℕ, List, ◌++◌, codes, decimal}
use Rattle.std.specs.Fmt.{signed_decimal}
use Rattle.plant_file.specs.declared.fault.Place.{Place}
use Rattle.plant_file.specs.declared.fault.PlantFault.{PlantFault}
use Rattle.plant_file.specs.declared.fault.PlantFault.TheVariants.{NoMemory, NotToml, Missing, WrongType, OutOfRange, Twice, NoSuchThing, NoPool, NotLocal}
use Rattle.plant_file.specs.Spelling.{section_name, field_name}

-- where a fault is, as it is printed
abbrev pub place_text : Place → List ℕ
place_text at =
    codes " at " ++ section_name at.section ++ codes " " ++ decimal at.entry ++ codes " "
    ++ field_name at.field

-- a fault as it is printed
unfoldable pub fault_text : PlantFault → List ℕ
fault_text NoMemory = codes "NoMemory"
fault_text NotToml = codes "NotToml"
fault_text (Missing at) = codes "Missing" ++ place_text at
fault_text (WrongType at) = codes "WrongType" ++ place_text at
fault_text (OutOfRange at value low high) =
    codes "OutOfRange" ++ place_text at ++ codes ": " ++ signed_decimal value
    ++ codes " not in " ++ signed_decimal low ++ codes " to " ++ signed_decimal high
fault_text (Twice at) = codes "Twice" ++ place_text at
fault_text (NoSuchThing at) = codes "NoSuchThing" ++ place_text at
fault_text (NoPool at) = codes "NoPool" ++ place_text at
fault_text (NotLocal at) = codes "NotLocal" ++ place_text at
