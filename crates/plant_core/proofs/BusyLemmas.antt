-- Of a list of changes those that aren't idle are all that matter.
use Rattle.std.proofs.Common.{◌≡◌, All, ℕ, ◌+◌, ◌<◌, Bool, true, false, not, cond, List, [], ◌∷◌, ◌++◌, filter, length, get_or, drop, suc, refl, sym, ap, ◌∙◌, add-one, append_assoc, append-nil, drop-cons}
use Rattle.std.proofs.lemmas.List.Elements.{filter_passes}
use Rattle.plant_config.specs.Plant.{PlantData}
use Rattle.plant_config.specs.declared.records.Change.{Change}
use Rattle.plant_config.proofs.Groups.{filter_all}
use Rattle.crosspoint_state.specs.Crosspoints.{Crosspoints, is_idle, NamesOnce}
use Rattle.crosspoint_state.specs.Applied.{applied, released, all_given}
use Rattle.crosspoint_state.proofs.ChangeLists.{NamesOnce-filter}
use Rattle.tally.specs.Update.{AreMoves}
use Rattle.plant_core.specs.StateInside.{busy_of}
use Rattle.plant_core.proofs.Changes.{moves-applied}

-- an idle change isn't put into a list
pub busy_idle : (points : Crosspoints) (before : List Change) (change : Change) → is_idle points change ≡ true → before ≡ before ++ busy_of points (change ∷ [])
busy_idle points before change is = sym (ap (λ b. before ++ cond (not b) (change ∷ []) []) is ∙ append-nil before)

pub busy_other : (points : Crosspoints) (before : List Change) (change : Change) → is_idle points change ≡ false → before ++ change ∷ [] ≡ before ++ busy_of points (change ∷ [])
busy_other points before change is = sym (ap (λ b. before ++ cond (not b) (change ∷ []) []) is)

first_of : (keep : Change → Bool) (change : Change) (rest : List Change) → filter keep (change ∷ []) ++ filter keep rest ≡ filter keep (change ∷ rest)
first_of keep change rest = elim (keep change) as (λ b. cond b (change ∷ []) [] ++ filter keep rest ≡ cond b (change ∷ filter keep rest) (filter keep rest)) [ true ↦ refl | false ↦ refl ]

-- one more is looked at
pub busy_more : (points : Crosspoints) (before all changes : List Change) (index : ℕ) (change : Change) → index < length changes → change ≡ get_or changes index change → before ++ busy_of points (drop index changes) ≡ all →
    (before ++ busy_of points (change ∷ [])) ++ busy_of points (drop (index + 1) changes) ≡ all
busy_more points before all changes index change within is was =
    let rest : List Change = drop (index + 1) changes in
    let here : drop index changes ≡ change ∷ rest = drop-cons changes index change within ∙ (ap (λ first. first ∷ drop (suc index) changes) (sym is) ∙ ap (λ n. change ∷ drop n changes) (sym (add-one index))) in
    append_assoc before (busy_of points (change ∷ [])) (busy_of points rest)
    ∙ ap (λ list. before ++ list) (first_of (λ change. not (is_idle points change)) change rest ∙ ap (busy_of points) (sym here))
    ∙ was

-- what is made of a list is made of those alone
pub applied_busy : (plant : PlantData) (points : Crosspoints) (changes : List Change) → applied plant points changes ≡ applied plant points (busy_of points changes)
applied_busy plant points changes =
    sym (ap (λ busy. all_given plant (released points busy) busy) (filter_all (λ change. not (is_idle points change)) (busy_of points changes) (filter_passes (λ change. not (is_idle points change)) changes)))

-- none of them is idle
pub busy_all : (points : Crosspoints) (changes : List Change) → All (λ change. is_idle points change ≡ false) (busy_of points changes)
busy_all points changes k d below = by (is_idle points (get_or (busy_of points changes) k d)) (filter_passes (λ change. not (is_idle points change)) changes k d below)
  where
    by : (b : Bool) → not b ≡ true → b ≡ false
    by true is = cc
    by false is = refl

-- those of a list that are no idle changes move what they name
pub busy_moves : (plant : PlantData) (old new : Crosspoints) (changes : List Change) → NamesOnce changes → new ≡ applied plant old changes → AreMoves old new (busy_of old changes)
busy_moves plant old new changes once made =
    moves-applied plant old new (busy_of old changes) (NamesOnce-filter (λ change. not (is_idle old change)) changes once) (busy_all old changes) (made ∙ applied_busy plant old changes)
