-- How a group is asked to store a change: by the place of its destination's entry.
use Rattle.std.proofs.Common.{◌≡◌, ◌≢◌, ℕ, ◌+◌, ◌==◌, true, false, ◌||◌, cond, [], ◌∷◌, ◌++◌, length, set, position, Some, None, refl, sym, ◌∙◌, arith}
use Rattle.std.specs.List.{position_from}
use Rattle.std.proofs.lemmas.Bool.{le-ltb, lt-ltb, or_from, or_left, or_right}
use Rattle.std.proofs.lemmas.List.Folds.{list_any_at}
use Rattle.std.proofs.lemmas.List.Quantifiers.{position-Some}
use Rattle.std.proofs.lemmas.Iterator.Adapters.{position_from-zero}
use Rattle.plant_config.specs.declared.records.Change.{Change}
use Rattle.salvo_groups.specs.declared.store.Store.{Store}
use Rattle.salvo_groups.specs.declared.store.Store.TheVariants.{Stored, GroupFull}
use Rattle.salvo_groups.specs.Limits.{group_limit}
use Rattle.salvo_groups.specs.Groups.{Group, has_entry, may_store, stored, IsGroup}
use Rattle.salvo_groups.specs.Answers.{store_answer}
use Rattle.salvo_groups.specs.EntriesInside.{asked, place_of}
use Rattle.salvo_groups.proofs.OneGroup.{is_of, set-changed, stored_known, stored_new, IsGroup-stored}

-- a group was asked to store a change, and this is what it is and what it answers
pub record Asks (old new : Group) (change : Change) (answer : Store) : Type 0 where
  pub is_group : IsGroup new
  pub group : new ≡ asked old change
  pub answer_is : answer ≡ store_answer old change

made : (group : Group) (change : Change) → IsGroup group → may_store group change ≡ true → Asks group (stored group change) change Stored
made group change is may = record { is_group = IsGroup-stored group change is may; group = rw may refl; answer_is = rw may refl }

-- an entry of the destination was found, and the change is written there
pub Asks-found : (group : Group) (at : ℕ) (change : Change) → IsGroup group → place_of group change.dest ≡ Some at → Asks group (set group at change) change Stored
Asks-found group at change is found =
    let place = position-Some (is_of change.dest) group at change found in
    let known : has_entry group change.dest ≡ true = list_any_at (is_of change.dest) group at change place.0 place.1 in
    let written : set group at change ≡ stored group change = set-changed group at change is.distinct place.0 place.1 place.2 ∙ sym (stored_known group change known) in
    rw written (made group change is (or_left (has_entry group change.dest) _ known))

-- where none was found, the group has none
pub absent-place_of : (group : Group) (dest : ℕ) → place_of group dest ≡ None → has_entry group dest ≡ false
absent-place_of group dest missing = none_from 0 group (sym (position_from-zero (is_of dest) group) ∙ missing)
  where
    none_from : (from : ℕ) (group : Group) → position_from (is_of dest) from group ≡ None → has_entry group dest ≡ false
    none_from from [] missing = refl
    none_from from (entry ∷ group) missing = elim (entry.dest == dest) as (λ b. cond b (Some from) (position_from (is_of dest) (from + 1) group) ≡ None → (b || has_entry group dest) ≡ false) [
      | true ↦ λ found. cc
      | false ↦ λ behind. none_from (from + 1) group behind
    ] missing

-- the group has none, and all entries that it may have
pub Asks-full : (group : Group) (change : Change) → IsGroup group → has_entry group change.dest ≡ false → length group ≡ group_limit → Asks group group change GroupFull
Asks-full group change is absent full =
    let refused : may_store group change ≡ false = or_from (has_entry group change.dest) _ absent (le-ltb (length group) group_limit (omega arith)) in
    record { is_group = is; group = rw refused refl; answer_is = rw refused refl }

-- the group has none, and may have one more, which is put behind
pub Asks-behind : (group : Group) (change : Change) → IsGroup group → has_entry group change.dest ≡ false → length group ≢ group_limit → Asks group (group ++ change ∷ []) change Stored
Asks-behind group change is absent other =
    let few = is.few in
    let may : may_store group change ≡ true = or_right (has_entry group change.dest) _ (lt-ltb (length group) group_limit (omega arith)) in
    rw (← stored_new group change absent) (made group change is may)
