-- What is true of every store's bytes, by what is true of every state's text.
use Rattle.std.proofs.Common.{◌≡◌, ℕ, None, refl, sym, ◌∙◌, ap}
use Rattle.state_store.specs.Kept.{Kept, Start, Saved}
use Rattle.plant_config.specs.Plant.{PlantData}
use Rattle.plant_core.specs.State.{State}
use Rattle.plant_core.specs.StateFault.{first_fault}
use Rattle.plant_core.proofs.OneText.{one_text}
use Rattle.plant_snapshot.specs.StandsFor.{kept_for, IsStateKept}
use Rattle.plant_snapshot.specs.Damage.{fault_kept}
use Rattle.plant_snapshot.specs.Laws.{StandForOneState, StandUndamaged}
use Rattle.plant_core.proofs.WholeText.{whole_text}

one_state : (plant : PlantData) (one other : State) (kept : Kept) → IsStateKept plant one kept → IsStateKept plant other kept → one ≡ other
one_state plant one other Start first second = first ∙ sym second
one_state plant one other (Saved number text) first second =
    one_text one other first.valid second.valid (first.plant_is ∙ sym second.plant_is) (sym first.text_is ∙ second.text_is)

pub stand_for_one : StandForOneState
stand_for_one plant one other number another all first second =
    (one_state plant one other (kept_for plant all) first.state_is second.state_is, first.number_is ∙ sym second.number_is)

whole_kept : (plant : PlantData) (state : State) (kept : Kept) → IsStateKept plant state kept → fault_kept plant kept ≡ None
whole_kept plant state Start is = refl
whole_kept plant state (Saved number text) is =
    ap (λ (p : PlantData). first_fault p text) (sym is.plant_is) ∙ ap (first_fault state.plant) is.text_is ∙ whole_text state is.valid is.short

pub stand_undamaged : StandUndamaged
stand_undamaged plant state number all stands = whole_kept plant state (kept_for plant all) stands.state_is
