-- What the keys of a bus's switch answer.
use Rattle.std.proofs.Common.{◌≡◌, ℕ, List, Option, Some, None, Ok, flat_map, option_map, refl, ap, sym, ◌∙◌}
use Rattle.toml.specs.Data.{Data, Members}
use Rattle.plant_file.specs.declared.fault.Section.{Section}
use Rattle.plant_file.specs.declared.fault.Field.{Field}
use Rattle.plant_file.specs.declared.fault.Field.TheVariants as fields
use Rattle.plant_file.specs.declared.fault.Place.{Place}
use Rattle.plant_file.specs.declared.fault.PlantFault.{PlantFault}
use Rattle.plant_file.specs.Rows.{Kind, Number, Required, RequiredWith, key, a_destination}
use Rattle.plant_file.specs.Document.{found_at}
use Rattle.plant_file.specs.KeyFaults.{place, key_faults, found_faults}
use Rattle.plant_file.specs.FileData.{SwitchEntry}
use Rattle.plant_file.specs.FirstFault.{first_fault, unless_fault}
use Rattle.plant_file.specs.Reading.{switch_entry}
use Rattle.plant_file.specs.ReadingInside.{read_as, keys_answer, switch_keys, present_switch_keys, switch_in}
use Rattle.plant_file.proofs.ReadingInside.{read_as-unless}

-- what is absent is a fault, whatever asks for it
asked_for : (at : Place) (entry : Members) (field other : Field) (kind : Kind) (found : Option Data)
    → found_faults at entry (key field kind (RequiredWith other)) found ≡ found_faults at entry (key field kind Required) found
asked_for at entry field other kind (Some value) = refl
asked_for at entry field other kind None = refl

-- without a matrix there is no switch
pub switch-absent : (section : Section) (number : ℕ) (entry : Members) → None ≡ found_at fields.SwitchMatrix entry
    → keys_answer (switch_in entry) section number entry switch_keys ≡ Ok None
unfolding keys_answer
switch-absent section number entry none = rw (← none) refl

present-faults : (section : Section) (number : ℕ) (entry : Members) (matrix : Data) → Some matrix ≡ found_at fields.SwitchMatrix entry
    → flat_map (key_faults section number entry) switch_keys ≡ flat_map (key_faults section number entry) present_switch_keys
present-faults section number entry matrix found =
    let level = asked_for (place section number fields.SwitchLevel) entry fields.SwitchLevel fields.SwitchMatrix (Number 1 15) (found_at fields.SwitchLevel entry) in
    let destination = asked_for (place section number fields.SwitchDestination) entry fields.SwitchDestination fields.SwitchMatrix a_destination (found_at fields.SwitchDestination entry) in
    rw (← found, level, destination) refl

there : (entry : Members) (matrix : Data) → Some matrix ≡ found_at fields.SwitchMatrix entry → switch_in entry ≡ Some (switch_entry entry)
there entry matrix found = ap (option_map (λ (value : Data). switch_entry entry)) (sym found)

-- with it all of the switch is there
pub switch-present : (section : Section) (number : ℕ) (entry : Members) (matrix : Data) → Some matrix ≡ found_at fields.SwitchMatrix entry
    → keys_answer (switch_in entry) section number entry switch_keys ≡ read_as Some (keys_answer (switch_entry entry) section number entry present_switch_keys)
unfolding keys_answer
switch-present section number entry matrix found =
    ap (λ (faults : List PlantFault). unless_fault (switch_in entry) (first_fault faults)) (present-faults section number entry matrix found)
    ∙ ap (λ (switch : Option SwitchEntry). unless_fault switch (first_fault (flat_map (key_faults section number entry) present_switch_keys))) (there entry matrix found)
    ∙ read_as-unless Some (switch_entry entry) (first_fault (flat_map (key_faults section number entry) present_switch_keys))
