-- Valid ties stay valid while sources are given one after another.
use Rattle.std.proofs.Common.{◌≡◌, ◌≢◌, ◌⊎◌, ◌↔◌, ℕ, ◌<◌, ◌≤◌, List, [], ◌∷◌, Option, Some, None, inl, inr, refl, sym, ap, subst, ◌∙◌}
use Rattle.std.proofs.lemmas.Bool.{cases_eq}
use Rattle.std.specs.Option.{option_and_then, option_or, MatchOption, IsSomeAnd}
use Rattle.std.specs.List.{AllByRecursion}
use Rattle.std.specs.FinMap as finite
use Rattle.std.specs.Ordering.{nat_cmp}
use Rattle.number_tables.specs.Table.{put}
use Rattle.number_tables.proofs.PutLemmas.{get-put_same, get-put_other}
use Rattle.plant_config.specs.declared.records.Change.{Change}
use Rattle.plant_config.specs.Plant.{PlantData, destinations_of}
use Rattle.plant_config.specs.Sources.{origin_of, pool_of}
use Rattle.crosspoint_state.specs.declared.spot.Spot.{Spot}
use Rattle.crosspoint_state.specs.Crosspoints.{Crosspoints, source_of}
use Rattle.crosspoint_state.specs.Ties.{size_of, wanted, tie_beside, lowest_free, chosen_tie, Carries, HasItsTie, HaveValidTies}
use Rattle.crosspoint_state.specs.Applied.{given, all_given}
use Rattle.crosspoint_state.proofs.RoomLemmas.{Keeps, good_tie}

none_some : (x : ℕ) → None ≡ Some x → ⊥
none_some x e = cc

some_number : (a b : ℕ) → Some a ≡ Some b → a ≡ b
some_number a b e = cc

-- nothing is carried, so all ties are valid
pub valid_empty : (plant : PlantData) → HaveValidTies plant finite.empty
valid_empty plant = record {
  tied = λ dest spot carries. absurd (nothing dest spot carries);
  shared = λ first second one other carries. absurd (nothing first one carries);
}
  where
    nothing : (dest : ℕ) (spot : Spot) → Carries plant finite.empty dest spot → ⊥
    nothing dest spot carries =
        let both : None ≡ Some spot = sym (finite.get-empty nat_cmp dest) ∙ carries.carried in
        cc

-- crosspoints that carry no more than others
pub valid_fewer : (plant : PlantData) (all fewer : Crosspoints) → ((dest : ℕ) (spot : Spot) → finite.get fewer dest ≡ Some spot → finite.get all dest ≡ Some spot) → HaveValidTies plant all → HaveValidTies plant fewer
valid_fewer plant all fewer within valid = record {
  tied = λ dest spot carries. valid.tied dest spot (up dest spot carries);
  shared = λ first second one other first_carries second_carries.
      valid.shared first second one other (up first one first_carries) (up second other second_carries);
}
  where
    up : (dest : ℕ) (spot : Spot) → Carries plant fewer dest spot → Carries plant all dest spot
    up dest spot carries = record { inside = carries.inside; carried = within dest spot carries.carried }

-- A spot is the new one at its destination, or was carried before.
abbrev Stands : PlantData → Crosspoints → ℕ → Spot → ℕ → Spot → Type 0
Stands plant crosspoints at new dest spot = ((dest ≡ at) × (new ≡ spot)) ⊎ Carries plant crosspoints dest spot

-- Two spots share as they should, by this pool.
abbrev Share : PlantData → ℕ → Spot → Spot → Type 0
Share plant pool one other = pool_of plant one.source ≡ Some pool → pool_of plant other.source ≡ Some pool → (one.tie ≡ other.tie) ↔ (origin_of plant one.source ≡ origin_of plant other.source)

-- what is carried after a put is the new one, or was carried before
put_cases : (plant : PlantData) (crosspoints : Crosspoints) (at dest : ℕ) (new spot : Spot) → Carries plant (put crosspoints at (Some new)) dest spot → Stands plant crosspoints at new dest spot
put_cases plant crosspoints at dest new spot carries = by (cases_eq dest at)
  where
    by : (dest ≡ at) ⊎ (dest ≢ at) → ((dest ≡ at) × (new ≡ spot)) ⊎ Carries plant crosspoints dest spot
    by (inl here) =
        let both : Some new ≡ Some spot = sym (get-put_same crosspoints at (Some new)) ∙ ap (finite.get (put crosspoints at (Some new))) (sym here) ∙ carries.carried in
        let same : new ≡ spot = cc in
        inl (here, same)
    by (inr there) = inr (record { inside = carries.inside; carried = sym (get-put_other crosspoints at (Some new) dest there) ∙ carries.carried })

-- Of a new spot, each other one of its pool has its tie exactly where it has its origin.
abbrev IsAlone : PlantData → Crosspoints → Spot → Type 0
IsAlone plant crosspoints new = (pool : ℕ) → pool_of plant new.source ≡ Some pool → (dest : ℕ) (spot : Spot) → Carries plant crosspoints dest spot → pool_of plant spot.source ≡ Some pool → (spot.tie ≡ new.tie) ↔ (origin_of plant spot.source ≡ origin_of plant new.source)

valid_put : (plant : PlantData) (crosspoints : Crosspoints) (at : ℕ) (new : Spot) → HaveValidTies plant crosspoints → HasItsTie plant new → IsAlone plant crosspoints new → HaveValidTies plant (put crosspoints at (Some new))
valid_put plant crosspoints at new valid has alone = record {
  tied = λ dest spot carries. tied dest spot (put_cases plant crosspoints at dest new spot carries);
  shared = λ first second one other first_carries second_carries pool.
      shared first second one other (put_cases plant crosspoints at first new one first_carries) (put_cases plant crosspoints at second new other second_carries) pool;
}
  where
    tied : (dest : ℕ) (spot : Spot) → Stands plant crosspoints at new dest spot → HasItsTie plant spot
    tied dest spot (inl here) = subst (HasItsTie plant) here.1 has
    tied dest spot (inr there) = valid.tied dest spot there

    new_first : (second : ℕ) (other : Spot) (pool : ℕ) → Carries plant crosspoints second other → Share plant pool new other
    new_first second other pool carries pooled other_pooled =
        let share = alone pool pooled second other carries other_pooled in
        (λ e. sym (share.0 (sym e)), λ e. sym (share.1 (sym e)))

    shared : (first second : ℕ) (one other : Spot) → Stands plant crosspoints at new first one → Stands plant crosspoints at new second other → (pool : ℕ) → Share plant pool one other
    shared first second one other (inl here) (inl here_too) pool = λ pooled other_pooled.
        let same : one ≡ other = sym here.1 ∙ here_too.1 in
        (λ e. ap (λ (spot : Spot). origin_of plant spot.source) same, λ e. ap (λ (spot : Spot). spot.tie) same)
    shared first second one other (inl here) (inr there) pool =
        subst (λ spot. Share plant pool spot other) here.1 (new_first second other pool there)
    shared first second one other (inr there) (inl here) pool =
        subst (λ spot. Share plant pool one spot) here.1 (λ pooled new_pooled. alone pool new_pooled first one there pooled)
    shared first second one other (inr there) (inr there_too) pool = valid.shared first second one other there there_too pool

-- The pools are enough for all sources of these crosspoints.
abbrev pub ArePoolsEnough : PlantData → Crosspoints → Type 0
ArePoolsEnough plant all = (source pool : ℕ) → pool_of plant source ≡ Some pool → wanted plant all pool ≤ size_of plant pool

abbrev with_chosen : PlantData → Crosspoints → ℕ → Spot
with_chosen plant crosspoints source = record { source = source; tie = chosen_tie plant crosspoints source }

local_tie : (plant : PlantData) (crosspoints : Crosspoints) (source : ℕ) → pool_of plant source ≡ None → chosen_tie plant crosspoints source ≡ None
unfolding chosen_tie
local_tie plant crosspoints source local = ap (λ p. option_and_then (λ pool. option_or (option_and_then (tie_beside plant crosspoints pool) (origin_of plant source)) (lowest_free plant crosspoints pool)) p) local

valid_given : (plant : PlantData) (crosspoints all : Crosspoints) (dest source : ℕ) → HaveValidTies plant crosspoints → Keeps plant crosspoints all → ArePoolsEnough plant all → dest < destinations_of plant → source_of all dest ≡ Some source → HaveValidTies plant (put crosspoints dest (Some (with_chosen plant crosspoints source)))
valid_given plant crosspoints all dest source valid keeps enough inside aimed = by (pool_of plant source) refl
  where
    by : (pool : Option ℕ) → pool_of plant source ≡ pool → HaveValidTies plant (put crosspoints dest (Some (with_chosen plant crosspoints source)))
    by None local =
        valid_put plant crosspoints dest (with_chosen plant crosspoints source) valid
        (subst (λ o. MatchOption o (chosen_tie plant crosspoints source ≡ None) (λ pool. IsSomeAnd (chosen_tie plant crosspoints source) (λ tie. tie < size_of plant pool))) (sym local) (local_tie plant crosspoints source local))
        (λ pool pooled.
        let both : None ≡ Some pool = sym local ∙ pooled in
        absurd (none_some pool both))
    by (Some pool) pooled =
        let is = good_tie plant crosspoints all pool dest source valid keeps inside aimed pooled (enough source pool pooled) in
        valid_put plant crosspoints dest (with_chosen plant crosspoints source) valid
        (subst (λ o. MatchOption o (chosen_tie plant crosspoints source ≡ None) (λ pool. IsSomeAnd (chosen_tie plant crosspoints source) (λ tie. tie < size_of plant pool))) (sym pooled)
        (subst (λ o. IsSomeAnd o (λ tie. tie < size_of plant pool)) (sym is.chosen) is.good.fits))
        (λ other other_pooled dest spot carries spot_pooled.
        let same : other ≡ pool = some_number other pool (sym other_pooled ∙ pooled) in
        let share = is.good.alone dest spot carries (spot_pooled ∙ ap Some same) in
        (λ e. share.0 (e ∙ is.chosen), λ e. share.1 e ∙ sym is.chosen))

-- other crosspoints still have all sources behind one that they have too
keeps_given : (plant : PlantData) (crosspoints all : Crosspoints) (dest source : ℕ) → Keeps plant crosspoints all → source_of all dest ≡ Some source → Keeps plant (put crosspoints dest (Some (with_chosen plant crosspoints source))) all
keeps_given plant crosspoints all dest source keeps aimed = λ at spot carries. by at spot (put_cases plant crosspoints dest at (with_chosen plant crosspoints source) spot carries)
  where
    by : (at : ℕ) (spot : Spot) → ((at ≡ dest) × (with_chosen plant crosspoints source ≡ spot)) ⊎ Carries plant crosspoints at spot → source_of all at ≡ Some spot.source
    by at spot (inl here) = ap (source_of all) here.0 ∙ aimed ∙ ap (λ (spot : Spot). Some spot.source) here.1
    by at spot (inr there) = keeps at spot there

-- A change is of a destination of the plant, and these crosspoints have its source there.
pub record IsAimed (plant : PlantData) (all : Crosspoints) (change : Change) : Type 0 where
  pub inside : change.dest < destinations_of plant
  pub aimed : source_of all change.dest ≡ change.source

-- the ties stay valid while sources are given that other crosspoints have all at once, with pools that are enough
pub valid_all_given : (plant : PlantData) (all : Crosspoints) (changes : List Change) (crosspoints : Crosspoints) → ArePoolsEnough plant all → HaveValidTies plant crosspoints → Keeps plant crosspoints all → AllByRecursion (IsAimed plant all) changes → HaveValidTies plant (all_given plant crosspoints changes)
valid_all_given plant all [] crosspoints enough valid keeps aimed = valid
valid_all_given plant all (change ∷ changes) crosspoints enough valid keeps aimed = by change.source refl (λ crosspoints valid keeps. valid_all_given plant all changes crosspoints enough valid keeps aimed.1)
  where
    by : (source : Option ℕ) → change.source ≡ source → ((crosspoints : Crosspoints) → HaveValidTies plant crosspoints → Keeps plant crosspoints all → HaveValidTies plant (all_given plant crosspoints changes)) → HaveValidTies plant (all_given plant (given plant crosspoints change.dest source) changes)
    by None e behind = behind crosspoints valid keeps
    by (Some source) e behind =
        let is = aimed.0.aimed ∙ e in
        behind (put crosspoints change.dest (Some (with_chosen plant crosspoints source)))
        (valid_given plant crosspoints all change.dest source valid keeps enough aimed.0.inside is)
        (keeps_given plant crosspoints all change.dest source keeps is)
