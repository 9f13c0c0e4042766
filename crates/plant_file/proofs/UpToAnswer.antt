-- What a number from 0 answers that is held to two bounds, one after the other.
use Rattle.std.proofs.Common.{◌≡◌, ℕ, pos, negsuc, Some, None, Ok, Err, ap, sym, ◌∙◌}
use Rattle.toml.specs.Data.{Data, string, integer, float, boolean, datetime, array, table}
use Rattle.plant_file.specs.declared.fault.Place.{Place}
use Rattle.plant_file.specs.declared.fault.PlantFault.{PlantFault}
use Rattle.plant_file.specs.Rows.{Number}
use Rattle.plant_file.specs.Document.{as_number}
use Rattle.plant_file.specs.FirstFault.{first_fault, unless_fault}
use Rattle.plant_file.specs.KeyFaults.{range_faults}
use Rattle.plant_file.specs.ReadingInside.{value_answer, up_to_answer}
use Rattle.plant_file.proofs.ReadingInside.{behind, stops, value}

-- a value that the first bound refuses
pub up_to-Err : (at : Place) (high bound : ℕ) (found : Data) (fault : PlantFault) → Err fault ≡ value_answer as_number at (Number 0 high) found → up_to_answer at high bound found ≡ Err fault
up_to-Err at high bound (integer number) fault is = stops _ fault _ (range_faults at number 0 high) (range_faults at number 0 bound) is
up_to-Err at high bound (string text) fault is = sym is
up_to-Err at high bound (float number) fault is = sym is
up_to-Err at high bound (boolean flag) fault is = sym is
up_to-Err at high bound (datetime time) fault is = sym is
up_to-Err at high bound (array items) fault is = sym is
up_to-Err at high bound (table own) fault is = sym is

-- one that it accepts is held to the second
pub up_to-Ok : (at : Place) (high bound : ℕ) (found : Data) (number : ℕ) → Ok number ≡ value_answer as_number at (Number 0 high) found
    → up_to_answer at high bound found ≡ unless_fault number (first_fault (range_faults at (pos number) 0 bound))
up_to-Ok at high bound (integer (pos own)) number is =
    let faults = range_faults at (pos own) 0 high in
    let same : own ≡ number = value own number faults is in
    behind own number own faults (range_faults at (pos own) 0 bound) is ∙ ap (λ n. unless_fault n (first_fault (range_faults at (pos n) 0 bound))) same
up_to-Ok at high bound (integer (negsuc own)) number is = cc
up_to-Ok at high bound (string text) number is = cc
up_to-Ok at high bound (float own) number is = cc
up_to-Ok at high bound (boolean flag) number is = cc
up_to-Ok at high bound (datetime time) number is = cc
up_to-Ok at high bound (array items) number is = cc
up_to-Ok at high bound (table own) number is = cc

-- what both bounds answer, one behind the other
pub ruleset up_to = (up_to-Err, up_to-Ok)
