-- Which connects are made, and how they are answered.
use Rattle.std.proofs.Common.{◌≡◌, ◌≢◌, ℕ, Bool, true, false, cond, [], ◌∷◌, Option, Some, None, IsSome, IfSome, refl, sym, ap, subst, ◌∙◌}
use Rattle.std.specs.Option.{option_map, option_and_then}
use Rattle.std.specs.FinMap as finite
use Rattle.swp08_messages.specs.declared.point.Point.{Point}
use Rattle.swp08_messages.specs.declared.message.Message.{Message}
use Rattle.swp08_messages.specs.declared.message.Message.TheVariants.{ExtTally}
use Rattle.plant_config.specs.declared.records.Point as places
use Rattle.plant_config.specs.declared.records.Change.{Change}
use Rattle.plant_config.specs.Plant.{PlantData}
use Rattle.plant_config.specs.IsPlant.{IsPlant}
use Rattle.plant_config.specs.Sites.{dest_at, source_at, source_number_of}
use Rattle.plant_config.proofs.SiteLemmas.{dest_at-point_of, source_at-source_number_of}
use Rattle.crosspoint_state.specs.Crosspoints.{source_of}
use Rattle.crosspoint_state.specs.Applied.{applied}
use Rattle.crosspoint_state.specs.declared.spot.Spot.{Spot}
use Rattle.protects.specs.Owners.{allows}
use Rattle.plant_core.specs.declared.request.Request.TheVariants.{Told}
use Rattle.plant_core.specs.declared.answer.Answer.TheVariants.{Say}
use Rattle.plant_core.specs.State.{State, IsValid, standing, owner_at, device_of}
use Rattle.plant_core.specs.Wide.{tally_of, asks_change, tells_source, tells_change}
use Rattle.plant_core.specs.Connects.{says, source_wanted, change_of, changed, may_make, connected}
use Rattle.plant_core.specs.Step.{step, dest_of}
use Rattle.plant_core.specs.Laws.{AnswersWith, HasTie, IsConnectable, IsFree, MayConnect, IsMade, IsNotMade}
use Rattle.plant_core.proofs.Validity.{change_of-is}
use Rattle.plant_core.proofs.Changes.{allows-free, free-allows, permitted-one, source_of-one, get-one_other}
use Rattle.plant_core.proofs.Outcomes.{by_made, may-both, made-permitted, made-enough}

-- what a destination was to carry, read as a number of its level, is what was asked for
pub wanted-number : (plant : PlantData) (at : Point) (source carried : Option ℕ) → IsPlant plant → source_wanted plant at source ≡ Some carried → option_and_then (source_number_of plant) carried ≡ source
wanted-number plant at None carried is h =
    let parked : None ≡ carried = cc in
    subst (λ carried. option_and_then (source_number_of plant) carried ≡ None) parked refl
wanted-number plant at (Some number) carried is h =
    elim (source_at plant at.matrix at.level number) as (λ o. source_at plant at.matrix at.level number ≡ o → option_map Some o ≡ Some carried → option_and_then (source_number_of plant) carried ≡ Some number) [
      | None ↦ λ none e. cc
      | Some source ↦ λ some e.
          let same : Some source ≡ carried = cc in
          subst (λ carried. option_and_then (source_number_of plant) carried ≡ Some number) same (source_at-source_number_of plant at.matrix at.level number source is some)
    ] refl h

-- one destination has one place
pub one_place : (plant : PlantData) (at place : Point) (dest : ℕ) → IsPlant plant → dest_at plant at.matrix at.level at.dest ≡ Some dest → dest_at plant place.matrix place.level place.dest ≡ Some dest → place ≡ at
one_place plant at place dest is first second =
    let here : places.Point = record { matrix = at.matrix; level = at.level; dest = at.dest } in
    let there : places.Point = record { matrix = place.matrix; level = place.level; dest = place.dest } in
    let alike : Some there ≡ Some here = sym (dest_at-point_of plant place.matrix place.level place.dest dest is second) ∙ dest_at-point_of plant at.matrix at.level at.dest dest is first in
    let same : there ≡ here = cc in
    λ i. record { matrix = (same i).matrix; level = (same i).level; dest = (same i).dest }

-- a place that may be given a source asks for a change, and no other does
pub connectable-change_of : (plant : PlantData) (at : Point) (source : Option ℕ) → IsConnectable plant at source → (change : Change) × (change_of plant at source ≡ Some change)
connectable-change_of plant at source is =
    let Asks : Option ℕ → Type 0 = λ o. (change : Change) × (option_and_then (λ (dest : ℕ). option_map (λ (carried : Option ℕ). let c : Change = record { dest = dest; source = carried } in c) (source_wanted plant at source)) o ≡ Some change) in
    elim (dest_at plant at.matrix at.level at.dest) as (λ o. IsSome o → Asks o) [
      | None ↦ λ e. cc
      | Some dest ↦ λ e.
          let carried = wanted_some plant at source is.has_source in
          (record { dest = dest; source = carried.0 }, rw carried.1 refl)
    ] is.has_place
  where
    wanted_some : (plant : PlantData) (at : Point) (source : Option ℕ) → IfSome source (λ number. IsSome (source_at plant at.matrix at.level number)) → (carried : Option ℕ) × (source_wanted plant at source ≡ Some carried)
    wanted_some plant at None has = (None, refl)
    wanted_some plant at (Some number) has =
        elim (source_at plant at.matrix at.level number) as (λ o. IsSome o → (carried : Option ℕ) × (option_map Some o ≡ Some carried)) [
          | None ↦ λ e. cc
          | Some source ↦ λ e. (Some source, refl)
        ] has

pub change_of-connectable : (plant : PlantData) (at : Point) (source : Option ℕ) (change : Change) → change_of plant at source ≡ Some change → IsConnectable plant at source
change_of-connectable plant at source change h =
    let parts = change_of-is plant at source change h in
    record { has_place = rw parts.0 refl; has_source = has plant at source change.source parts.1 }
  where
    has : (plant : PlantData) (at : Point) (source carried : Option ℕ) → source_wanted plant at source ≡ Some carried → IfSome source (λ number. IsSome (source_at plant at.matrix at.level number))
    has plant at None carried h = tt
    has plant at (Some number) carried h =
        elim (source_at plant at.matrix at.level number) as (λ o. option_map Some o ≡ Some carried → IsSome o) [
          | None ↦ λ e. cc
          | Some source ↦ λ e. refl
        ] h

standing-applied : (state : State) (at : Point) (source : Option ℕ) (change : Change) → IsValid state → change_of state.plant at source ≡ Some change → standing (record state { crosspoints = applied state.plant state.crosspoints (change ∷ []) }) at ≡ source
standing-applied state at source change valid h =
    let parts = change_of-is state.plant at source change h in
    ap (option_and_then (λ (dest : ℕ). option_and_then (source_number_of state.plant) (source_of (applied state.plant state.crosspoints (change ∷ [])) dest))) parts.0
    ∙ ap (option_and_then (source_number_of state.plant)) (source_of-one state.plant state.crosspoints change)
    ∙ wanted-number state.plant at source change.source valid.is_plant parts.1

standing-others : (state : State) (at : Point) (source : Option ℕ) (change : Change) (place : Point) → IsValid state → change_of state.plant at source ≡ Some change → place ≢ at →
    standing (record state { crosspoints = applied state.plant state.crosspoints (change ∷ []) }) place ≡ standing state place
standing-others state at source change place valid h other =
    let parts = change_of-is state.plant at source change h in
    elim (dest_at state.plant place.matrix place.level place.dest) as (λ o. dest_at state.plant place.matrix place.level place.dest ≡ o →
    option_and_then (λ (dest : ℕ). option_and_then (source_number_of state.plant) (source_of (applied state.plant state.crosspoints (change ∷ [])) dest)) o
    ≡ option_and_then (λ (dest : ℕ). option_and_then (source_number_of state.plant) (source_of state.crosspoints dest)) o) [
      | None ↦ λ none. refl
      | Some dest ↦ λ found.
          let apart : dest ≢ change.dest = λ same. other (one_place state.plant at place change.dest valid.is_plant parts.0 (found ∙ ap Some same)) in
          ap (λ (o : Option Spot). option_and_then (source_number_of state.plant) (option_map (λ (spot : Spot). spot.source) o)) (get-one_other state.plant state.crosspoints change dest apart)
    ] refl

-- an interrogate is answered with the source that stands, and with nothing else
pub stands-answers : (state : State) (at : Point) (source : Option ℕ) → standing state at ≡ source → AnswersWith state at source
stands-answers state at source h panel item true = ap (λ s. Say (ExtTally at s) ∷ []) h
stands-answers state at source h panel item false = ap (λ s. Say (tally_of at s) ∷ []) h

pub answers-stands : (state : State) (at : Point) (source : Option ℕ) → AnswersWith state at source → standing state at ≡ source
answers-stands state at source answers = let h = answers 0 0 true in cc

-- the owner of a place is that of its destination
pub owner_at-dest : (state : State) (at : Point) (dest : ℕ) → dest_of state at ≡ Some dest → owner_at state at ≡ finite.get state.owners dest
owner_at-dest state at dest found = ap (option_and_then (finite.get state.owners)) found

-- a place that a panel may change is in the plant, and its destination is free to the panel's device
pub free-dest : (state : State) (panel : ℕ) (at : Point) → IsFree state panel at → (dest : ℕ) × (dest_of state at ≡ Some dest) × (allows state.owners (device_of state.plant panel) dest ≡ true)
free-dest state panel at free = go (dest_of state at) refl free.has_place
  where
    go : (o : Option ℕ) → dest_of state at ≡ o → IsSome o → (dest : ℕ) × (dest_of state at ≡ Some dest) × (allows state.owners (device_of state.plant panel) dest ≡ true)
    go None found some = cc
    go (Some dest) found some = (
      dest,
      found,
      free-allows state.owners (device_of state.plant panel) dest (subst (λ o. IfSome o (λ owner. owner ≡ device_of state.plant panel)) (owner_at-dest state at dest found) free.owner),
    )

pub dest-free : (state : State) (panel : ℕ) (at : Point) (dest : ℕ) → dest_of state at ≡ Some dest → allows state.owners (device_of state.plant panel) dest ≡ true → IsFree state panel at
dest-free state panel at dest found allowed = record {
  has_place = rw found refl;
  owner = subst (λ o. IfSome o (λ owner. owner ≡ device_of state.plant panel)) (sym (owner_at-dest state at dest found)) (allows-free state.owners (device_of state.plant panel) dest allowed);
}

-- a panel may connect where it asks for a change that it may make, and only there
pub may-change : (state : State) (panel : ℕ) (at : Point) (source : Option ℕ) → MayConnect state panel at source →
    (change : Change) × (change_of state.plant at source ≡ Some change) × (may_make state panel change ≡ true)
may-change state panel at source may =
    let asks = connectable-change_of state.plant at source may.connectable in
    let change : Change = asks.0 in
    let free = free-dest state panel at may.free in
    let some : Some change.dest ≡ Some free.0 = sym (change_of-is state.plant at source change asks.1).0 ∙ free.1 in
    let same : change.dest ≡ free.0 = cc in
    let permitted = permitted-one state.owners (device_of state.plant panel) change ∙ ap (allows state.owners (device_of state.plant panel)) same ∙ free.2 in
    let enough = subst (λ o. IfSome o (HasTie state panel)) asks.1 may.tied in
    (change, asks.1, may-both state panel change permitted enough)

pub change-may : (state : State) (panel : ℕ) (at : Point) (source : Option ℕ) (change : Change) → change_of state.plant at source ≡ Some change →
    may_make state panel change ≡ true → MayConnect state panel at source
change-may state panel at source change h may = record {
  connectable = change_of-connectable state.plant at source change h;
  free = dest-free state panel at change.dest (change_of-is state.plant at source change h).0 (sym (permitted-one state.owners (device_of state.plant panel) change) ∙ made-permitted state panel change may);
  tied = subst (λ o. IfSome o (HasTie state panel)) (sym h) (made-enough state panel change may);
}

-- what a connect does and answers, by an extended command or another
connect_is : (state : State) (panel item : ℕ) (extended : Bool) (at : Point) (source : Option ℕ) →
    step state (Told panel item (asks_change extended at source)) ≡ connected state panel (tells_change extended at source) (tells_source extended at (standing state at)) (change_of state.plant at source)
connect_is state panel item true at source = refl
connect_is state panel item false at source = refl

-- a connect that asks for a change which its panel may make is made
pub connected-made : (state : State) (panel : ℕ) (at : Point) (source : Option ℕ) (told refused : Message) (change : Change) → change_of state.plant at source ≡ Some change → may_make state panel change ≡ true →
    connected state panel told refused (change_of state.plant at source) ≡ says (changed state panel change) told
connected-made state panel at source told refused change h may =
    ap (connected state panel told refused) h
    ∙ ap (λ b. cond b (says (changed state panel change) told) (says state refused)) may

pub made : (state : State) (panel : ℕ) (at : Point) (source : Option ℕ) (told : Message) (change : Change) → IsValid state → change_of state.plant at source ≡ Some change →
    IsMade state at source told (says (changed state panel change) told)
made state panel at source told change valid h = record {
  answer = refl;
  stands = stands-answers (changed state panel change) at source (standing-applied state at source change valid h);
  unmoved = λ dest elsewhere. get-one_other state.plant state.crosspoints change dest (λ same. elsewhere ((change_of-is state.plant at source change h).0 ∙ ap Some (sym same)));
  others = λ place stands other answers.
      stands-answers (changed state panel change) place stands (standing-others state at source change place valid h other ∙ answers-stands state place stands answers);
}

tallied : (state : State) (extended : Bool) (at : Point) → IsNotMade state extended at (says state (tells_source extended at (standing state at)))
tallied state extended at = record {
  standing = standing state at;
  stands = stands-answers state at (standing state at) refl;
  answer = refl;
  state = refl;
}

pub connect-IsMade : (state : State) (panel item : ℕ) (extended : Bool) (at : Point) (source : Option ℕ) → IsValid state → MayConnect state panel at source → IsMade state at source (tells_change extended at source) (step state (Told panel item (asks_change extended at source)))
connect-IsMade state panel item extended at source valid may =
    let asks = may-change state panel at source may in
    let told : Message = tells_change extended at source in
    subst (IsMade state at source told)
    (sym (connect_is state panel item extended at source ∙ connected-made state panel at source told (tells_source extended at (standing state at)) asks.0 asks.1 asks.2))
    (made state panel at source told asks.0 valid asks.1)

pub connect-IsNotMade : (state : State) (panel item : ℕ) (extended : Bool) (at : Point) (source : Option ℕ) → ¬ MayConnect state panel at source → IsNotMade state extended at (step state (Told panel item (asks_change extended at source)))
connect-IsNotMade state panel item extended at source not =
    let told : Message = tells_change extended at source in
    let refused : Message = tells_source extended at (standing state at) in
    subst (IsNotMade state extended at) (sym (connect_is state panel item extended at source)) (
    elim (change_of state.plant at source) as (λ o. change_of state.plant at source ≡ o → IsNotMade state extended at (connected state panel told refused o)) [
      | None ↦ λ h. tallied state extended at
      | Some change ↦ λ h.
          by_made (IsNotMade state extended at) state panel told refused change (λ may. absurd (not (change-may state panel at source change h may))) (tallied state extended at)
    ] refl)
