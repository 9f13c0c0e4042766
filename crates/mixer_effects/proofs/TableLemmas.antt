-- The tables of buses and of devices, made from the last one to the first.
use Rattle.std.proofs.Common.{◌≡◌, ◌≢◌, ◌⊎◌, ℕ, ◌+◌, ◌-◌, ◌≤◌, ◌==◌, nat_eq, cond, ◌∷◌, length, drop, find, slice_get, Option, Some, suc, inl, inr, sym, ap, ◌∙◌, arith, eq-eqb}
use Rattle.std.proofs.Math.Seq.{drop-cons}
use Rattle.std.proofs.lemmas.Bool.{ne_eqb, cases_eq}
use Rattle.std.proofs.lemmas.List.{drop_all}
use Rattle.std.proofs.lemmas.Option.{slice_get_within, get_or_from_slice_get}
use Rattle.std.specs.List.{range_with_len}
use Rattle.std.specs.Option.{option_map, option_and_then, option_eq}
use Rattle.std.specs.Ordering.{nat_cmp}
use Rattle.std.specs.FinMap.{FinMap, empty, get, get-empty}
use Rattle.number_tables.specs.Table.{put}
use Rattle.number_tables.proofs.PutLemmas.{get-put_same, get-put_other}
use Rattle.plant_config.specs.declared.records.Device.{Device}
use Rattle.plant_config.specs.declared.records.Bus.{Bus}
use Rattle.plant_config.specs.Plant.{PlantData}
use Rattle.mixer_effects.specs.Buses.{output_of, fed_device}
use Rattle.mixer_effects.specs.WiringInside.{HaveBusesFrom, device_from, HaveDevicesFrom}

pub buses_none : (plant : PlantData) (by_dest : FinMap nat_cmp ℕ) → by_dest ≡ empty → HaveBusesFrom plant (length plant.buses) by_dest
buses_none plant by_dest none dest =
    ap (λ (by_dest : FinMap nat_cmp ℕ). option_and_then (slice_get plant.buses) (get by_dest dest)) none
    ∙ ap (option_and_then (slice_get plant.buses)) (get-empty nat_cmp dest)
    ∙ sym (ap (find (λ (bus : Bus). bus.dest == dest)) (drop_all (length plant.buses) plant.buses (omega arith)))

-- one more bus, before those so far
pub buses_more : (plant : PlantData) (number before : ℕ) (old new : FinMap nat_cmp ℕ) (bus : Bus) → number ≡ before + 1 → slice_get plant.buses before ≡ Some bus → HaveBusesFrom plant number old → new ≡ put old bus.dest (Some before) → HaveBusesFrom plant before new
buses_more plant number before old new bus next at have put_in dest =
    ap (λ (by_dest : FinMap nat_cmp ℕ). option_and_then (slice_get plant.buses) (get by_dest dest)) put_in
    ∙ by (cases_eq dest bus.dest)
    ∙ sym (ap (find (λ (bus : Bus). bus.dest == dest)) split)
  where
    split : drop before plant.buses ≡ bus ∷ drop number plant.buses
    split =
        let step : suc before ≡ number = omega (arith, next) in
        drop-cons plant.buses before bus (slice_get_within plant.buses before bus at)
        ∙ (λ i. get_or_from_slice_get plant.buses before bus bus at i ∷ drop (step i) plant.buses)

    by : (dest ≡ bus.dest) ⊎ (dest ≢ bus.dest) → option_and_then (slice_get plant.buses) (get (put old bus.dest (Some before)) dest) ≡ cond (bus.dest == dest) (Some bus) (find (λ (bus : Bus). bus.dest == dest) (drop number plant.buses))
    by (inl here) =
        ap (λ dest. option_and_then (slice_get plant.buses) (get (put old bus.dest (Some before)) dest)) here
        ∙ ap (option_and_then (slice_get plant.buses)) (get-put_same old bus.dest (Some before))
        ∙ at
        ∙ sym (ap (λ b. cond b (Some bus) (find (λ (bus : Bus). bus.dest == dest) (drop number plant.buses))) (eq-eqb bus.dest dest (sym here)))
    by (inr apart) =
        ap (option_and_then (slice_get plant.buses)) (get-put_other old bus.dest (Some before) dest apart)
        ∙ have dest
        ∙ sym (ap (λ b. cond b (Some bus) (find (λ (bus : Bus). bus.dest == dest) (drop number plant.buses))) (ne_eqb bus.dest dest (λ e. apart (sym e))))

pub devices_none : (plant : PlantData) (by_output : FinMap nat_cmp ℕ) → by_output ≡ empty → HaveDevicesFrom plant (length plant.devices) by_output
devices_none plant by_output none source =
    let nothing : 0 ≡ length plant.devices - length plant.devices = omega arith in
    ap (λ (by_output : FinMap nat_cmp ℕ). get by_output source) none
    ∙ get-empty nat_cmp source
    ∙ ap (λ (count : ℕ). find (λ device. option_eq nat_eq (output_of plant device) (Some source)) (range_with_len (length plant.devices) count)) nothing

-- one more device, before those so far
pub devices_more : (plant : PlantData) (number before : ℕ) (old new : FinMap nat_cmp ℕ) (device : Device) → number ≡ before + 1 → slice_get plant.devices before ≡ Some device → HaveDevicesFrom plant number old → new ≡ put old device.output (Some before) → HaveDevicesFrom plant before new
devices_more plant number before old new device next at have put_in source =
    ap (λ (by_output : FinMap nat_cmp ℕ). get by_output source) put_in
    ∙ by (cases_eq source device.output)
    ∙ sym (ap (find (λ number. option_eq nat_eq (output_of plant number) (Some source))) split ∙ ap (λ b. cond b (Some before) (device_from plant number source)) here)
  where
    split : range_with_len before (length plant.devices - before) ≡ before ∷ range_with_len number (length plant.devices - number)
    split =
        let within = slice_get_within plant.devices before device at in
        let count : length plant.devices - before ≡ suc (length plant.devices - number) = omega (arith, within, next) in
        ap (range_with_len before) count
        ∙ ap (λ (from : ℕ). before ∷ range_with_len from (length plant.devices - number)) (sym next)

    here : option_eq nat_eq (output_of plant before) (Some source) ≡ (device.output == source)
    here = ap (λ (found : Option Device). option_eq nat_eq (option_map (λ (found : Device). found.output) found) (Some source)) at

    by : (source ≡ device.output) ⊎ (source ≢ device.output) → get (put old device.output (Some before)) source ≡ cond (device.output == source) (Some before) (device_from plant number source)
    by (inl same) =
        ap (get (put old device.output (Some before))) same
        ∙ get-put_same old device.output (Some before)
        ∙ sym (ap (λ b. cond b (Some before) (device_from plant number source)) (eq-eqb device.output source (sym same)))
    by (inr apart) =
        get-put_other old device.output (Some before) source apart
        ∙ have source
        ∙ sym (ap (λ b. cond b (Some before) (device_from plant number source)) (ne_eqb device.output source (λ e. apart (sym e))))

-- all buses, and all devices
pub buses_all : (plant : PlantData) (number : ℕ) (by_dest : FinMap nat_cmp ℕ) → number ≤ 0 → HaveBusesFrom plant number by_dest → HaveBusesFrom plant 0 by_dest
buses_all plant number by_dest end have dest =
    let last : number ≡ 0 = omega (arith, end) in
    have dest ∙ ap (λ (number : ℕ). find (λ (bus : Bus). bus.dest == dest) (drop number plant.buses)) last

pub devices_all : (plant : PlantData) (number : ℕ) (by_output : FinMap nat_cmp ℕ) → number ≤ 0 → HaveDevicesFrom plant number by_output → HaveDevicesFrom plant 0 by_output
devices_all plant number by_output end have source =
    let last : number ≡ 0 = omega (arith, end) in
    have source ∙ ap (λ (number : ℕ). device_from plant number source) last

-- the first of all devices is the one that is fed
pub fed-device_from : (plant : PlantData) (source : ℕ) → device_from plant 0 source ≡ fed_device plant source
fed-device_from plant source =
    let all : length plant.devices - 0 ≡ length plant.devices = omega arith in
    ap (λ (count : ℕ). find (λ device. option_eq nat_eq (output_of plant device) (Some source)) (range_with_len 0 count)) all
