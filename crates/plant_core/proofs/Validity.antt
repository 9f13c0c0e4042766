-- Which states are valid, and what that says of the sources in them.
use Rattle.std.proofs.Common.{◌≡◌, ℕ, ◌<◌, ◌≤◌, Bool, true, false, not, cond, List, [], ◌∷◌, length, All, filter, Option, Some, None, IfSome, suc, inl, inr, refl, sym, ap, subst, ◌∙◌, arith}
use Rattle.std.specs.Option.{option_map, option_map_or, option_and_then}
use Rattle.std.specs.Ordering.{nat_cmp, eq_by_cmp}
use Rattle.std.specs.Cmp.{nat_cmp_total, unsigned_tied}
use Rattle.std.specs.FinMap as finite
use Rattle.std.proofs.lemmas.Bool.{eqb-true, cases_lt}
use Rattle.std.proofs.lemmas.List.{get_or_past, length-replicate, get_or-replicate}
use Rattle.std.proofs.lemmas.Option.{slice_get_past, slice_get-get_or}
use Rattle.std.proofs.lemmas.List.Elements.{All-nil, All-filter}
use Rattle.swp08_messages.specs.declared.point.Point.{Point}
use Rattle.plant_config.specs.Limits.{last_device}
use Rattle.plant_config.specs.Plant.{PlantData, destinations_of, sources_of}
use Rattle.plant_config.specs.IsPlant.{IsPlant}
use Rattle.plant_config.specs.Sites.{dest_at, source_at}
use Rattle.plant_config.specs.declared.records.Change.{Change}
use Rattle.plant_config.specs.declared.records.Panel.{Panel}
use Rattle.plant_config.proofs.SiteLemmas.{dest_at-below, source_at-below}
use Rattle.crosspoint_state.specs.Crosspoints.{Crosspoints, source_of, is_idle, NamesOnce}
use Rattle.crosspoint_state.specs.Ties.{chosen_tie}
use Rattle.crosspoint_state.specs.Applied.{released, given, all_given, applied, are_enough}
use Rattle.crosspoint_state.specs.declared.spot.Spot.{Spot}
use Rattle.crosspoint_state.proofs.ValidLemmas.{valid_empty}
use Rattle.crosspoint_state.proofs.LawLemmas.{TiesStayValid-applied}
use Rattle.protects.specs.Owners.{Owners, allows, may_lift, taken, lifted}
use Rattle.salvo_groups.specs.Limits.{salvo_limit}
use Rattle.salvo_groups.specs.Groups as salvos
use Rattle.salvo_groups.specs.Groups.{Group, AreGroups, group_of}
use Rattle.salvo_groups.proofs.AllGroups.{AreGroups-start}
use Rattle.change_boards.specs.Board.{Board}
use Rattle.change_boards.specs.Notices.{with_removal, with_leave}
use Rattle.change_boards.specs.declared.value.Value.{Value}
use Rattle.change_boards.specs.Shown.{Shown, last, never_shown}
use Rattle.change_boards.specs.Laws.{AreBoards}
use Rattle.change_boards.specs.declared.sort.Sort.{Sort}
use Rattle.change_boards.proofs.StayBoards.{AreBoards-start, AreBoards-removal, AreBoards-leave}
use Rattle.plant_core.specs.State.{State, IsCrosspoint, AreCrosspoints, AreOwners, IsChangeOf, AreShown, IsValid, start, device_of}
use Rattle.plant_core.specs.Noticed.{marked_for_others, all_marked}
use Rattle.plant_core.specs.Connects.{source_wanted, change_of}
use Rattle.plant_core.proofs.Noticed.{AreBoards-others, AreBoards-marked}

pub IsValid-start : (plant : PlantData) → IsPlant plant → IsValid (start plant)
IsValid-start plant is = record {
  is_plant = is;
  is_crosspoint = λ dest spot h. let parked = finite.get-empty {X = Spot} nat_cmp dest in cc;
  ties = valid_empty plant;
  owners = λ dest device h. let parked = finite.get-empty {X = ℕ} nat_cmp dest in cc;
  groups = AreGroups-start;
  changes = λ number. none_stored number;
  boards = AreBoards-start (length plant.panels) (destinations_of plant);
  shown = record {
    count = length-replicate (length plant.displays) None;
    each = λ number display value found h. absurd (none_shown number value h);
  };
}
  where
    none_shown : (number : ℕ) (value : Value) → last (never_shown (length plant.displays)) number ≡ Some value → ⊥
    none_shown number value h =
        let none : last (never_shown (length plant.displays)) number ≡ None =
        elim (cases_lt number (length plant.displays)) [
          | inl within ↦ get_or-replicate (length plant.displays) number None None within
          | inr past ↦ get_or_past (never_shown (length plant.displays)) number None (omega (arith, past, length-replicate {A = Option Value} (length plant.displays) None))
        ] in
        cc

    none_stored : (number : ℕ) → All (IsChangeOf plant) (group_of salvos.start_groups number)
    none_stored number =
        let empty : group_of salvos.start_groups number ≡ [] =
        elim (cases_lt number salvo_limit) [
          | inl within ↦ get_or-replicate salvo_limit number [] [] within
          | inr past ↦ get_or_past salvos.start_groups number [] (omega (arith, past, length-replicate {A = Group} salvo_limit []))
        ] in
        subst (All (IsChangeOf plant)) (sym empty) (All-nil (IsChangeOf plant))

-- a source that stands somewhere is of the plant
pub IsCrosspoint-below : (plant : PlantData) (dest source : ℕ) → IsPlant plant → IsCrosspoint plant dest source → source < sources_of plant
IsCrosspoint-below plant dest source is crosspoint =
    source_at-below plant crosspoint.matrix crosspoint.level crosspoint.source_number source is crosspoint.source_is

-- a destination that has a source has a spot with it
pub source_of-spot : (crosspoints : Crosspoints) (dest source : ℕ) → source_of crosspoints dest ≡ Some source → (spot : Spot) × (finite.get crosspoints dest ≡ Some spot) × (spot.source ≡ source)
source_of-spot crosspoints dest source h =
    elim (finite.get crosspoints dest) as (λ o. option_map (λ (spot : Spot). spot.source) o ≡ Some source → (spot : Spot) × (o ≡ Some spot) × (spot.source ≡ source)) [
      | None ↦ λ e. cc
      | Some spot ↦ λ e. (spot, refl, cc)
    ] h

-- what holds of each value of a map holds of each behind an insert, where it holds of the new one, and behind a remove
pub values-insert : {V : Type 0} (P : ℕ → V → Type 0) (values : finite.FinMap nat_cmp V) (dest : ℕ) (value : V) → ((q : ℕ) (v : V) → finite.get values q ≡ Some v → P q v) → P dest value →
    (q : ℕ) (v : V) → finite.get (finite.insert values dest value) q ≡ Some v → P q v
values-insert {V} P values dest value all new q v h =
    elim (eq_by_cmp nat_cmp q dest) as (λ b. eq_by_cmp nat_cmp q dest ≡ b → cond b (Some value) (finite.get values q) ≡ Some v → P q v) [
      | true ↦ λ tied e.
          let here : q ≡ dest = eqb-true q dest (sym (unsigned_tied q dest) ∙ tied) in
          let same : value ≡ v = cc in
          subst (λ q. P q v) (sym here) (subst (P dest) same new)
      | false ↦ λ apart e. all q v e
    ] refl (sym (finite.get-insert nat_cmp_total values dest value q) ∙ h)

pub values-remove : {V : Type 0} (P : ℕ → V → Type 0) (values : finite.FinMap nat_cmp V) (dest : ℕ) → ((q : ℕ) (v : V) → finite.get values q ≡ Some v → P q v) →
    (q : ℕ) (v : V) → finite.get (finite.remove values dest) q ≡ Some v → P q v
values-remove {V} P values dest all q v h =
    elim (eq_by_cmp nat_cmp q dest) as (λ b. cond b None (finite.get values q) ≡ Some v → P q v) [
      | true ↦ λ e. cc
      | false ↦ λ e. all q v e
    ] (sym (finite.get-remove nat_cmp_total values dest q) ∙ h)

-- what holds of each source that is carried, and of each that a change gives, holds of each behind the changes
module _ (plant : PlantData) (P : ℕ → ℕ → Type 0) where
  abbrev Holds : Crosspoints → Type 0
  Holds crosspoints = (dest : ℕ) (spot : Spot) → finite.get crosspoints dest ≡ Some spot → P dest spot.source

  abbrev Gives : Change → Type 0
  Gives change = IfSome change.source (P change.dest)

  holds-released : (crosspoints : Crosspoints) (changes : List Change) → Holds crosspoints → Holds (released crosspoints changes)
  holds-released crosspoints [] holds = holds
  holds-released crosspoints (change ∷ changes) holds =
      holds-released (finite.remove crosspoints change.dest) changes (values-remove (λ dest (spot : Spot). P dest spot.source) crosspoints change.dest holds)

  holds-given : (crosspoints : Crosspoints) (dest : ℕ) (source : Option ℕ) → Holds crosspoints → IfSome source (P dest) → Holds (given plant crosspoints dest source)
  holds-given crosspoints dest None holds gives = holds
  holds-given crosspoints dest (Some source) holds gives =
      values-insert (λ dest (spot : Spot). P dest spot.source) crosspoints dest (record { source = source; tie = chosen_tie plant crosspoints source }) holds gives

  holds-all_given : (crosspoints : Crosspoints) (changes : List Change) → Holds crosspoints → All Gives changes → Holds (all_given plant crosspoints changes)
  holds-all_given crosspoints [] holds all = holds
  holds-all_given crosspoints (change ∷ changes) holds all =
      holds-all_given (given plant crosspoints change.dest change.source) changes (holds-given crosspoints change.dest change.source holds (all 0 change (omega arith))) (λ k d below. all (suc k) d (omega arith))

  holds-applied : (crosspoints : Crosspoints) (changes : List Change) → Holds crosspoints → All Gives changes → Holds (applied plant crosspoints changes)
  holds-applied crosspoints changes holds all =
      let busy : List Change = filter (λ (change : Change). not (is_idle crosspoints change)) changes in
      holds-all_given (released crosspoints busy) busy (holds-released crosspoints busy holds) (All-filter _ Gives changes all)

pub AreCrosspoints-applied : (plant : PlantData) (crosspoints : Crosspoints) (changes : List Change) → AreCrosspoints plant crosspoints → All (IsChangeOf plant) changes → AreCrosspoints plant (applied plant crosspoints changes)
AreCrosspoints-applied plant crosspoints changes are all = holds-applied plant (IsCrosspoint plant) crosspoints changes are (λ k d below. (all k d below).source)

-- one part of a valid state is replaced
pub IsValid-applied : (state : State) (changes : List Change) → IsValid state → All (IsChangeOf state.plant) changes → NamesOnce changes → are_enough state.plant state.crosspoints changes ≡ true →
    IsValid (record state { crosspoints = applied state.plant state.crosspoints changes })
IsValid-applied state changes valid all once enough = record {
  is_plant = valid.is_plant;
  is_crosspoint = AreCrosspoints-applied state.plant state.crosspoints changes valid.is_crosspoint all;
  ties = TiesStayValid-applied state.plant state.crosspoints changes once (λ k d below. (all k d below).dest) valid.is_plant valid.ties enough;
  owners = valid.owners;
  groups = valid.groups;
  changes = valid.changes;
  boards = valid.boards;
  shown = valid.shown;
}

pub IsValid-boards : (state : State) (boards : List Board) → IsValid state → AreBoards boards (length state.plant.panels) (destinations_of state.plant) → IsValid (record state { boards = boards })
IsValid-boards state boards valid are = record {
  is_plant = valid.is_plant;
  is_crosspoint = valid.is_crosspoint;
  ties = valid.ties;
  owners = valid.owners;
  groups = valid.groups;
  changes = valid.changes;
  boards = are;
  shown = valid.shown;
}

pub IsValid-owners : (state : State) (owners : Owners) → IsValid state → AreOwners state.plant owners → IsValid (record state { owners = owners })
IsValid-owners state owners valid are = record {
  is_plant = valid.is_plant;
  is_crosspoint = valid.is_crosspoint;
  ties = valid.ties;
  owners = are;
  groups = valid.groups;
  changes = valid.changes;
  boards = valid.boards;
  shown = valid.shown;
}

pub IsValid-groups : (state : State) (groups : List Group) → IsValid state → AreGroups groups → ((number : ℕ) → All (IsChangeOf state.plant) (group_of groups number)) → IsValid (record state { groups = groups })
IsValid-groups state groups valid are changes = record {
  is_plant = valid.is_plant;
  is_crosspoint = valid.is_crosspoint;
  ties = valid.ties;
  owners = valid.owners;
  groups = are;
  changes = changes;
  boards = valid.boards;
  shown = valid.shown;
}

pub IsValid-shown : (state : State) (values : Shown) → IsValid state → AreShown state.plant values → IsValid (record state { shown = values })
IsValid-shown state values valid are = record {
  is_plant = valid.is_plant;
  is_crosspoint = valid.is_crosspoint;
  ties = valid.ties;
  owners = valid.owners;
  groups = valid.groups;
  changes = valid.changes;
  boards = valid.boards;
  shown = are;
}

-- marks, polls and leaves keep a state valid
pub IsValid-others : (state : State) (asker dest : ℕ) (sort : Sort) → dest < destinations_of state.plant → IsValid state → IsValid (record state { boards = marked_for_others state.boards asker dest sort })
IsValid-others state asker dest sort within valid =
    IsValid-boards state (marked_for_others state.boards asker dest sort) valid (AreBoards-others state.boards _ _ asker dest sort within valid.boards)

pub IsValid-marked : (state : State) (dests : List ℕ) → All (λ dest. dest < destinations_of state.plant) dests → IsValid state → IsValid (record state { boards = all_marked state.boards dests })
IsValid-marked state dests within valid =
    IsValid-boards state (all_marked state.boards dests) valid (AreBoards-marked dests state.boards _ _ within valid.boards)

pub IsValid-take : (state : State) (panel : ℕ) → IsValid state → IsValid (record state { boards = with_removal state.boards panel })
IsValid-take state panel valid = IsValid-boards state (with_removal state.boards panel) valid (AreBoards-removal state.boards _ _ panel valid.boards)

pub IsValid-leave : (state : State) (panel : ℕ) → IsValid state → IsValid (record state { boards = with_leave state.boards panel })
IsValid-leave state panel valid = IsValid-boards state (with_leave state.boards panel) valid (AreBoards-leave state.boards _ _ panel valid.boards)

-- a panel's device has a number that panels may have
pub device-within : (plant : PlantData) (panel : ℕ) → IsPlant plant → device_of plant panel ≤ last_device
device-within plant panel is = elim (cases_lt panel (length plant.panels)) [
  | inl within ↦
      let some : Panel = record { device = 0; port = 0; master = false } in
      subst (λ o. option_map_or (λ (found : Panel). found.device) o 0 ≤ last_device) (sym (slice_get-get_or plant.panels panel some within)) (is.each_panel panel some within).device
  | inr past ↦
      subst (λ o. option_map_or (λ (found : Panel). found.device) o 0 ≤ last_device) (sym (slice_get_past plant.panels panel past)) (omega arith)
]

-- takes and lifts leave owners that may be
pub AreOwners-taken : (plant : PlantData) (owners : Owners) (device dest : ℕ) → dest < destinations_of plant → device ≤ last_device → AreOwners plant owners → AreOwners plant (taken owners device dest)
AreOwners-taken plant owners device dest within few are =
    elim (allows owners device dest) as (λ b. AreOwners plant (cond b (finite.insert owners dest device) owners)) [
      | true ↦ values-insert (λ dest device. (dest < destinations_of plant) × (device ≤ last_device)) owners dest device are (within, few)
      | false ↦ are
    ]

pub AreOwners-lifted : (plant : PlantData) (owners : Owners) (device : ℕ) (master : Bool) (dest : ℕ) → AreOwners plant owners → AreOwners plant (lifted owners device master dest)
AreOwners-lifted plant owners device master dest are =
    elim (may_lift owners device master dest) as (λ b. AreOwners plant (cond b (finite.remove owners dest) owners)) [
      | true ↦ values-remove (λ dest device. (dest < destinations_of plant) × (device ≤ last_device)) owners dest are
      | false ↦ are
    ]

-- what a connect asks for is of the level of its destination
wanted-IfSome : (plant : PlantData) (at : Point) (source carried : Option ℕ) (dest : ℕ) → dest_at plant at.matrix at.level at.dest ≡ Some dest → source_wanted plant at source ≡ Some carried → IfSome carried (IsCrosspoint plant dest)
wanted-IfSome plant at None carried dest found h =
    let parked : None ≡ carried = cc in
    subst (λ carried. IfSome carried (IsCrosspoint plant dest)) parked tt
wanted-IfSome plant at (Some number) carried dest found h =
    elim (source_at plant at.matrix at.level number) as (λ o. source_at plant at.matrix at.level number ≡ o → option_map Some o ≡ Some carried → IfSome carried (IsCrosspoint plant dest)) [
      | None ↦ λ none e. cc
      | Some source ↦ λ some e.
          let same : Some source ≡ carried = cc in
          subst (λ carried. IfSome carried (IsCrosspoint plant dest)) same (record {
            matrix = at.matrix;
            level = at.level;
            dest_number = at.dest;
            source_number = number;
            dest_is = found;
            source_is = some;
          })
    ] refl h

-- where a connect asks for a change, its destination is in the plant and its source is of that level
pub change_of-is : (plant : PlantData) (at : Point) (source : Option ℕ) (change : Change) → change_of plant at source ≡ Some change →
    (dest_at plant at.matrix at.level at.dest ≡ Some change.dest) × (source_wanted plant at source ≡ Some change.source)
change_of-is plant at source change h =
    elim (dest_at plant at.matrix at.level at.dest) as (λ o. option_and_then (λ (dest : ℕ). option_map (λ (carried : Option ℕ). let c : Change = record { dest = dest; source = carried } in c) (source_wanted plant at source)) o ≡ Some change → (o ≡ Some change.dest) × (source_wanted plant at source ≡ Some change.source)) [
      | None ↦ λ e. cc
      | Some dest ↦ λ e.
          elim (source_wanted plant at source) as (λ o. option_map (λ (carried : Option ℕ). let c : Change = record { dest = dest; source = carried } in c) o ≡ Some change → (Some dest ≡ Some change.dest) × (o ≡ Some change.source)) [
            | None ↦ λ e. cc
            | Some carried ↦ λ e.
                let made : Change = record { dest = dest; source = carried } in
                let same : made ≡ change = cc in
                (ap (λ (c : Change). Some c.dest) same, ap (λ (c : Change). Some c.source) same)
          ] e
    ] h

pub change_of-IsChangeOf : (plant : PlantData) (at : Point) (source : Option ℕ) (change : Change) → IsPlant plant → change_of plant at source ≡ Some change → IsChangeOf plant change
change_of-IsChangeOf plant at source change is h =
    let parts = change_of-is plant at source change h in
    record {
      dest = dest_at-below plant at.matrix at.level at.dest change.dest is parts.0;
      source = wanted-IfSome plant at source change.source change.dest parts.0 parts.1;
    }

-- a destination that is found is of the plant
pub found-below : (plant : PlantData) (matrix level number : ℕ) (found : Option ℕ) → IsPlant plant → found ≡ dest_at plant matrix level number → IfSome found (λ dest. dest < destinations_of plant)
found-below plant matrix level number None is h = tt
found-below plant matrix level number (Some dest) is h = dest_at-below plant matrix level number dest is (sym h)
