-- What was read of a store's bytes, and what they stand for.
use Rattle.std.proofs.Common.{◌≡◌, ℕ, ◌-◌, arith, length, take, drop, length-drop, List, Option, Some, None, IfSome, Ok, Err, sym, ◌∙◌, ap, subst}
use Rattle.std.proofs.lemmas.List.{take_all}
use Rattle.state_store.specs.Kept.{Kept, kept_in, number_kept}
use Rattle.state_store.specs.Reading.{kept_by, HasRead, HasNumber}
use Rattle.state_store.specs.declared.slot.Slot.{Slot}
use Rattle.plant_config.specs.Plant.{PlantData}
use Rattle.plant_core.specs.State.{State}
use Rattle.plant_snapshot.specs.StandsFor.{entry_size, kept_for, IsStateKept, StandsFor}
use Rattle.plant_snapshot.specs.Damage.{fault_kept}
use Rattle.plant_snapshot.specs.Store.{saved_number}
use Rattle.plant_snapshot.specs.Answers.{GivesBack}
use Rattle.plant_snapshot.specs.declared.store.Store.{Store}
use Rattle.plant_snapshot.specs.declared.fault.OpenFault.TheVariants.{Damaged}
use Rattle.plant_snapshot.proofs.LawLemmas.{stand_for_one, stand_undamaged}

-- all that stands behind the number of an entry
pub text_whole : (entry : List ℕ) → take (length entry - 8) (drop 8 entry) ≡ drop 8 entry
text_whole entry = take_all (length entry - 8) (drop 8 entry) (omega (arith, length-drop 8 entry))

-- what is kept, by what was read
kept_read : (plant : PlantData) (n : ℕ) (slot : Option Slot) (entry all : List ℕ) → n ≡ entry_size plant → HasRead n slot entry all → kept_for plant all ≡ kept_by slot entry
kept_read plant n slot entry all size read = ap (λ m. kept_in m all) (sym size) ∙ read

-- The bytes stand for the state of the entry that was read.
pub stands_read : (plant : PlantData) (state : State) (number n : ℕ) (slot : Option Slot) (entry : List ℕ) (shown : Option (List ℕ)) → n ≡ entry_size plant
    → IfSome shown (HasRead n slot entry) → IfSome shown (HasNumber n number) → IsStateKept plant state (kept_by slot entry) → IfSome shown (StandsFor plant state number)
stands_read plant state number n slot entry None size read counts kept = tt
stands_read plant state number n slot entry (Some all) size read counts kept = record {
  state_is = subst (IsStateKept plant state) (sym (kept_read plant n slot entry all size read)) kept;
  number_is = counts ∙ ap (λ m. number_kept (kept_in m all)) size;
}

-- What the bytes stand for is given back.
pub gives_back : {D : Type 0} → (plant : PlantData) (store : Store D) (state : State) (shown : Option (List ℕ)) → IfSome shown (StandsFor plant state (saved_number store))
    → IfSome shown (GivesBack {D = D} plant (Ok (store, state)))
gives_back plant store state None stands = tt
gives_back plant store state (Some all) stands = λ other number theirs. stand_for_one plant state other (saved_number store) number all stands theirs

-- Bytes that are damaged stand for nothing.
pub none_stands : {D : Type 0} → (plant : PlantData) (disk : D) (told place n : ℕ) (slot : Option Slot) (entry : List ℕ) (shown : Option (List ℕ)) → n ≡ entry_size plant
    → IfSome shown (HasRead n slot entry) → fault_kept plant (kept_by slot entry) ≡ Some place → IfSome shown (GivesBack {D = D} plant (Err (Damaged disk told place)))
none_stands plant disk told place n slot entry None size read fault = tt
none_stands plant disk told place n slot entry (Some all) size read fault = λ state number stands.
    let whole : fault_kept plant (kept_for plant all) ≡ None = stand_undamaged plant state number all stands in
    let broken : fault_kept plant (kept_for plant all) ≡ Some place = ap (fault_kept plant) (kept_read plant n slot entry all size read) ∙ fault in
    cc
