-- The demand of a list of changes that is put in change by change, and taken out again.
use Rattle.std.proofs.Common.{◌≡◌, ◌≢◌, ◌⊎◌, ℕ, ◌+◌, ◌<◌, ◌==◌, nat_eq, Bool, true, false, not, ◌&&◌, cond, List, [], ◌∷◌, length, get_or, take, drop, find, Option, Some, None, zero, suc, inl, inr, refl, sym, ap, subst, ◌∙◌, arith, eq-eqb, eqb-true}
use Rattle.std.proofs.lemmas.Bool.{cases_eq, ne_eqb}
use Rattle.std.proofs.lemmas.List.{drop_more}
use Rattle.std.proofs.lemmas.List.Elements.{Contains-get_or}
use Rattle.std.specs.Option.{option_eq}
use Rattle.std.specs.FinMap as finite
use Rattle.number_tables.specs.Table.{put}
use Rattle.number_tables.proofs.PutLemmas.{get-put_same, get-put_other}
use Rattle.plant_config.specs.declared.records.Change.{Change}
use Rattle.plant_config.specs.Plant.{PlantData, destinations_of}
use Rattle.plant_config.specs.IsPlant.{IsPlant}
use Rattle.crosspoint_state.specs.declared.spot.Spot.{Spot}
use Rattle.crosspoint_state.specs.Crosspoints.{Crosspoints, source_of, NamesOnce}
use Rattle.crosspoint_state.specs.Applied.{untied, put_all}
use Rattle.crosspoint_state.specs.Laws.{AreInside}
use Rattle.crosspoint_state.proofs.ChangeLists.{names, NamesOnce-tail, NamesOnce-drop, find-tail, find-contained}
use Rattle.crosspoint_state.proofs.AppliedLemmas.{source_at, aim, source-put_all}
use Rattle.tie_pools.specs.CountsInside.{Demand}
use Rattle.tie_pools.specs.DemandInside.{AreDemandOf, route_of, left, taken, HasRoomFor}
use Rattle.tie_pools.proofs.DemandLemmas.{same_demand}
use Rattle.tie_pools.proofs.RouteLemmas.{demand_released, demand_moved, has_room}

pub untied_source : (source : Option ℕ) → source_at (untied source) ≡ source
untied_source None = refl
untied_source (Some source) = refl

-- what isn't different is the same
pub not_other : (one other : Option ℕ) → false ≡ not (option_eq (λ x y. nat_eq x y && true) one other) → one ≡ other
not_other None None e = refl
not_other None (Some y) e = cc
not_other (Some x) None e = cc
not_other (Some x) (Some y) e = ap Some (eqb-true x y (by (nat_eq x y) e))
  where
    by : (b : Bool) → false ≡ not (b && true) → b ≡ true
    by true e = refl
    by false e = cc

-- what a destination carries is put with another tie
same_source : (points : Crosspoints) (dest : ℕ) (value : Option Spot) → source_at value ≡ source_of points dest → (at : ℕ) → source_of (put points dest value) at ≡ source_of points at
same_source points dest value same at = by (cases_eq at dest)
  where
    by : (at ≡ dest) ⊎ (at ≢ dest) → source_of (put points dest value) at ≡ source_of points at
    by (inl here) =
        ap (source_of (put points dest value)) here
        ∙ ap source_at (get-put_same points dest value)
        ∙ same
        ∙ ap (source_of points) (sym here)
    by (inr there) = ap source_at (get-put_other points dest value at there)

-- one more change put in
put_more : (points : Crosspoints) (changes : List Change) (i : ℕ) (d : Change) → i < length changes → put_all points (take (suc i) changes) ≡ put (put_all points (take i changes)) (get_or changes i d).dest (untied (get_or changes i d).source)
put_more points [] i d within = absurd (omega (arith, within))
put_more points (change ∷ changes) zero d within = refl
put_more points (change ∷ changes) (suc i) d within = put_more (put points change.dest (untied change.source)) changes i d (omega (arith, within))

-- a change of a list is of another destination than the one before the list
apart_from : (change : Change) (changes : List Change) (i : ℕ) (d : Change) → NamesOnce (change ∷ changes) → i < length changes → (get_or changes i d).dest ≢ change.dest
apart_from change changes i d once within same =
    let found : find (names (get_or changes i d).dest) changes ≡ Some (get_or changes i d) = find-contained (get_or changes i d) changes (NamesOnce-tail change changes once) (Contains-get_or changes i d within) in
    let none : find (names change.dest) changes ≡ None = find-tail change changes once in
    let both : None ≡ Some (get_or changes i d) = sym none ∙ ap (λ dest. find (names dest) changes) (sym same) ∙ found in
    cc

-- the changes before one leave the source of its destination
source_before : (points : Crosspoints) (changes : List Change) (i : ℕ) (d : Change) → NamesOnce changes → i < length changes → source_of (put_all points (take i changes)) (get_or changes i d).dest ≡ source_of points (get_or changes i d).dest
source_before points [] i d once within = absurd (omega (arith, within))
source_before points (change ∷ changes) zero d once within = refl
source_before points (change ∷ changes) (suc i) d once within =
    let below : i < length changes = omega (arith, within) in
    source_before (put points change.dest (untied change.source)) changes i d (NamesOnce-tail change changes once) below
    ∙ ap source_at (get-put_other points change.dest (untied change.source) (get_or changes i d).dest (apart_from change changes i d once below))

-- one more change is put in: each count has room, and the demand behind it
module _ (plant : PlantData) (points : Crosspoints) (changes : List Change) (i : ℕ) (change : Change) (source : Option ℕ) (demand : Demand) (once : NamesOnce changes) (inside : AreInside plant changes) (within : i < length changes) (is : change ≡ get_or changes i change) (stands : source ≡ source_of points change.dest) (counted : AreDemandOf plant (put_all points (take i changes)) demand) where
  its_dest : (get_or changes i change).dest ≡ change.dest
  its_dest = ap (λ (change : Change). change.dest) (sym is)

  source_put : source_of (put_all points (take i changes)) change.dest ≡ source
  source_put =
      subst (λ dest. source_of (put_all points (take i changes)) dest ≡ source_of points dest) its_dest (source_before points changes i change once within)
      ∙ sym stands

  is_inside : change.dest < destinations_of plant
  is_inside = subst (λ dest. dest < destinations_of plant) its_dest (inside i change within)

  after_put : put_all points (take (i + 1) changes) ≡ put (put_all points (take i changes)) change.dest (untied change.source)
  after_put =
      let next : suc i ≡ i + 1 = omega arith in
      ap (λ count. put_all points (take count changes)) (sym next)
      ∙ put_more points changes i change within
      ∙ ap (λ (change : Change). put (put_all points (take i changes)) change.dest (untied change.source)) (sym is)

  pub room_put : IsPlant plant → HasRoomFor (left demand (route_of plant source)) (route_of plant change.source)
  room_put plant_is =
      subst (λ source. HasRoomFor (left demand (route_of plant source)) (route_of plant change.source)) source_put
      (has_room plant (put (put_all points (take i changes)) change.dest None) (left demand (route_of plant (source_of (put_all points (take i changes)) change.dest))) change.source plant_is
      (demand_released plant (put_all points (take i changes)) change.dest demand is_inside counted))

  pub demand_put : AreDemandOf plant (put_all points (take (i + 1) changes)) (taken (left demand (route_of plant source)) (route_of plant change.source))
  demand_put =
      let moved = demand_moved plant (put_all points (take i changes)) change.dest demand (untied change.source) is_inside counted in
      let left_same = subst (λ source. AreDemandOf plant (put (put_all points (take i changes)) change.dest (untied change.source)) (taken (left demand (route_of plant source)) (route_of plant (source_at (untied change.source))))) source_put moved in
      let taken_same = subst (λ aim. AreDemandOf plant (put (put_all points (take i changes)) change.dest (untied change.source)) (taken (left demand (route_of plant source)) (route_of plant aim))) (untied_source change.source) left_same in
      subst (λ after. AreDemandOf plant after (taken (left demand (route_of plant source)) (route_of plant change.source))) (sym after_put) taken_same

  -- an idle change leaves the demand
  pub demand_idle : source ≡ change.source → AreDemandOf plant (put_all points (take (i + 1) changes)) demand
  demand_idle idle =
      let before : Crosspoints = put_all points (take i changes) in
      let same : source_at (untied change.source) ≡ source_of before change.dest = untied_source change.source ∙ sym idle ∙ sym source_put in
      subst (λ after. AreDemandOf plant after demand) (sym after_put)
      (same_demand plant before (put before change.dest (untied change.source)) demand
      (λ at. sym (same_source before change.dest (untied change.source) same at)) counted)

-- the first change of a list with its source taken out again
module _ (points : Crosspoints) (change : Change) (changes : List Change) (once : NamesOnce (change ∷ changes)) where
  named : find (names change.dest) (change ∷ changes) ≡ Some change
  named = ap (λ b. cond b (Some change) (find (names change.dest) changes)) (eq-eqb change.dest change.dest refl)

  source_first : source_of (put_all points (change ∷ changes)) change.dest ≡ change.source
  source_first =
      source-put_all points (change ∷ changes) change.dest once
      ∙ ap (λ found. aim found (source_of points change.dest)) named

  source_without : (dest : ℕ) → source_of (put (put_all points (change ∷ changes)) change.dest (finite.get points change.dest)) dest ≡ source_of (put_all points changes) dest
  source_without dest = by (cases_eq dest change.dest)
    where
      by : (dest ≡ change.dest) ⊎ (dest ≢ change.dest) → source_of (put (put_all points (change ∷ changes)) change.dest (finite.get points change.dest)) dest ≡ source_of (put_all points changes) dest
      by (inl here) =
          ap (source_of (put (put_all points (change ∷ changes)) change.dest (finite.get points change.dest))) here
          ∙ ap source_at (get-put_same (put_all points (change ∷ changes)) change.dest (finite.get points change.dest))
          ∙ sym (source-put_all points changes change.dest (NamesOnce-tail change changes once) ∙ ap (λ found. aim found (source_of points change.dest)) (find-tail change changes once))
          ∙ ap (source_of (put_all points changes)) (sym here)
      by (inr there) =
          let other : (change.dest == dest) ≡ false = ne_eqb change.dest dest (λ same. there (sym same)) in
          ap source_at (get-put_other (put_all points (change ∷ changes)) change.dest (finite.get points change.dest) dest there)
          ∙ source-put_all points (change ∷ changes) dest once
          ∙ ap (λ b. aim (cond b (Some change) (find (names dest) changes)) (source_of points dest)) other
          ∙ sym (source-put_all points changes dest (NamesOnce-tail change changes once))

  demand_back_first : (plant : PlantData) (demand : Demand) → change.dest < destinations_of plant → AreDemandOf plant (put_all points (change ∷ changes)) demand → AreDemandOf plant (put_all points changes) (taken (left demand (route_of plant change.source)) (route_of plant (source_of points change.dest)))
  demand_back_first plant demand inside counted =
      let moved = demand_moved plant (put_all points (change ∷ changes)) change.dest demand (finite.get points change.dest) inside counted in
      same_demand plant (put (put_all points (change ∷ changes)) change.dest (finite.get points change.dest)) (put_all points changes) (taken (left demand (route_of plant change.source)) (route_of plant (source_of points change.dest))) source_without
      (subst (λ source. AreDemandOf plant (put (put_all points (change ∷ changes)) change.dest (finite.get points change.dest)) (taken (left demand (route_of plant source)) (route_of plant (source_of points change.dest)))) source_first moved)

  demand_idle_first : (plant : PlantData) (demand : Demand) → source_of points change.dest ≡ change.source → AreDemandOf plant (put_all points (change ∷ changes)) demand → AreDemandOf plant (put_all points changes) demand
  demand_idle_first plant demand idle counted =
      let before : Crosspoints = put_all points (change ∷ changes) in
      same_demand plant before (put_all points changes) demand
      (λ at. sym (same_source before change.dest (finite.get points change.dest) (idle ∙ sym source_first) at) ∙ source_without at) counted

  room_back_first : (plant : PlantData) (demand : Demand) → IsPlant plant → change.dest < destinations_of plant → AreDemandOf plant (put_all points (change ∷ changes)) demand → HasRoomFor (left demand (route_of plant change.source)) (route_of plant (source_of points change.dest))
  room_back_first plant demand plant_is inside counted =
      subst (λ source. HasRoomFor (left demand (route_of plant source)) (route_of plant (source_of points change.dest))) source_first
      (has_room plant (put (put_all points (change ∷ changes)) change.dest None) (left demand (route_of plant (source_of (put_all points (change ∷ changes)) change.dest))) (source_of points change.dest) plant_is
      (demand_released plant (put_all points (change ∷ changes)) change.dest demand inside counted))

-- one more change is taken out
module _ (plant : PlantData) (points : Crosspoints) (changes : List Change) (i : ℕ) (change : Change) (source : Option ℕ) (demand : Demand) (once : NamesOnce changes) (inside : AreInside plant changes) (within : i < length changes) (is : change ≡ get_or changes i change) (stands : source ≡ source_of points change.dest) (counted : AreDemandOf plant (put_all points (drop i changes)) demand) where
  parts : drop i changes ≡ change ∷ drop (i + 1) changes
  parts = drop_more changes i change within ∙ ap (λ (change : Change). change ∷ drop (i + 1) changes) (sym is)

  once_more : NamesOnce (change ∷ drop (i + 1) changes)
  once_more = subst NamesOnce parts (NamesOnce-drop i changes once)

  is_back_inside : change.dest < destinations_of plant
  is_back_inside = subst (λ (change : Change). change.dest < destinations_of plant) (sym is) (inside i change within)

  counted_first : AreDemandOf plant (put_all points (change ∷ drop (i + 1) changes)) demand
  counted_first = subst (λ changes. AreDemandOf plant (put_all points changes) demand) parts counted

  pub room_back : IsPlant plant → HasRoomFor (left demand (route_of plant change.source)) (route_of plant source)
  room_back plant_is =
      subst (λ source. HasRoomFor (left demand (route_of plant change.source)) (route_of plant source)) (sym stands)
      (room_back_first points change (drop (i + 1) changes) once_more plant demand plant_is is_back_inside counted_first)

  pub demand_back : AreDemandOf plant (put_all points (drop (i + 1) changes)) (taken (left demand (route_of plant change.source)) (route_of plant source))
  demand_back =
      subst (λ source. AreDemandOf plant (put_all points (drop (i + 1) changes)) (taken (left demand (route_of plant change.source)) (route_of plant source))) (sym stands)
      (demand_back_first points change (drop (i + 1) changes) once_more plant demand is_back_inside counted_first)

  -- an idle change leaves the demand
  pub demand_idle_back : source ≡ change.source → AreDemandOf plant (put_all points (drop (i + 1) changes)) demand
  demand_idle_back idle =
      demand_idle_first points change (drop (i + 1) changes) once_more plant demand (sym stands ∙ idle) counted_first
