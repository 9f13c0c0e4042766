use Rattle.std.proofs.Common.{ℕ, Option, Some, Err, sym, ◌∙◌, ap}
use Rattle.std.specs.Option.{option_map}
use Rattle.state_store.specs.Reading.{kept_by}
use Rattle.state_store.specs.declared.slot.Slot.{Slot}
use Rattle.plant_core.specs.StateFault.{first_fault}
use Rattle.plant_core.specs.declared.read_state.StateFault.{StateFault}
use Rattle.plant_snapshot.specs.Damage.{slot_number, fault_kept}
use Rattle.plant_snapshot.proofs.OpenLemmas.{text_whole}
use Rattle.plant_snapshot.proofs.saved.read_saved.Goals as goal

pub returns-in-Err-Damaged-clause-damaged : goal.returns-in-Err-Damaged-clause-damaged
returns-in-Err-Damaged-clause-damaged c = (
  ap (option_map slot_number) c.in-Some.is ∙ ap (λ (number : ℕ). Some number) (sym c.slot_number.ensures),
  ap (λ (slot : Option Slot). fault_kept c.args.plant.now (kept_by slot c.args.entry.now)) c.in-Some.is ∙ ap (first_fault c.args.plant.now) (sym (text_whole c.args.entry.now)) ∙ (c.read_state.ensures.damaged c.in-Err-Damaged.place).0 (c.in-Err-Damaged.is ∙ ap (λ (fault : StateFault). Err fault) c.in-Err-Damaged.field-0-is),
)
