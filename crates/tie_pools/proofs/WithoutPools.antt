-- A plant without pools: no source comes by a tie, and a list of changes is made by putting its sources in.
use Rattle.std.proofs.Common.{◌≡◌, ◌≢◌, ℕ, ◌<◌, ◌==◌, nat_eq, true, false, cond, List, [], ◌∷◌, find, length, slice_get, Option, Some, None, refl, sym, ap, subst, ◌∙◌, arith, eqb-true}
use Rattle.std.proofs.lemmas.Bool.{eqb-false}
use Rattle.std.proofs.lemmas.Option.{slice_get_past}
use Rattle.std.specs.Option.{option_map, option_and_then, option_eq, MatchOption, IsSomeAnd}
use Rattle.std.specs.FinMap as finite
use Rattle.number_tables.specs.Table.{put}
use Rattle.number_tables.proofs.PutLemmas.{same_entries, get-put_same, get-put_other}
use Rattle.plant_config.specs.declared.records.Change.{Change}
use Rattle.plant_config.specs.Plant.{PlantData, destinations_of}
use Rattle.plant_config.specs.Sources.{origin_of, pool_of}
use Rattle.plant_config.specs.IsPlant.{IsPlant, IsSomeSo}
use Rattle.plant_config.specs.Origins.{LeadsAcross}
use Rattle.plant_config.proofs.Found.{All-find}
use Rattle.plant_config.proofs.OriginLemmas.{pools_lead_across}
use Rattle.crosspoint_state.specs.declared.spot.Spot.{Spot}
use Rattle.crosspoint_state.specs.Crosspoints.{Crosspoints, source_of, NamesOnce}
use Rattle.crosspoint_state.specs.Ties.{size_of, feed_of, occupied, HaveValidTies}
use Rattle.crosspoint_state.specs.Applied.{applied, untied, put_all, are_enough}
use Rattle.crosspoint_state.specs.Laws.{AreInside}
use Rattle.crosspoint_state.proofs.ChangeLists.{names, passing, NamesOnce-tail, find-tail, found-is}
use Rattle.crosspoint_state.proofs.AppliedLemmas.{source_at, is_busy, get-applied, source-applied}
use Rattle.crosspoint_state.proofs.LawLemmas.{TiesStayValid-applied}
use Rattle.crosspoint_state.proofs.TieLemmas.{remote_origin, feed_with}
use Rattle.tie_pools.specs.Counts.{Counts, AreCountsOf}
use Rattle.tie_pools.proofs.EmptyLemmas.{nothing_found}
use Rattle.tie_pools.proofs.CommitLemmas.{same_counts}

-- what stands at a destination, once the change that names it is put in
abbrev put_at : Option Change → Option Spot → Option Spot
put_at None stands = stands
put_at (Some change) stands = untied change.source

get-put_all : (points : Crosspoints) (changes : List Change) (dest : ℕ) → NamesOnce changes → finite.get (put_all points changes) dest ≡ put_at (find (names dest) changes) (finite.get points dest)
get-put_all points [] dest once = refl
get-put_all points (change ∷ changes) dest once =
    let rest = get-put_all (put points change.dest (untied change.source)) changes dest (NamesOnce-tail change changes once) in
    elim (change.dest == dest) as (λ b. (change.dest == dest) ≡ b → finite.get (put_all (put points change.dest (untied change.source)) changes) dest ≡ put_at (cond b (Some change) (find (names dest) changes)) (finite.get points dest)) [
      | true ↦ λ here.
          let same : change.dest ≡ dest = eqb-true change.dest dest here in
          let none : find (names dest) changes ≡ None = subst (λ d. find (names d) changes ≡ None) same (find-tail change changes once) in
          rest
          ∙ ap (λ found. put_at found (finite.get (put points change.dest (untied change.source)) dest)) none
          ∙ subst (λ d. finite.get (put points change.dest (untied change.source)) d ≡ untied change.source) same (get-put_same points change.dest (untied change.source))
      | false ↦ λ there.
          let other : dest ≢ change.dest = λ same. eqb-false change.dest dest there (sym same) in
          rest ∙ ap (put_at (find (names dest) changes)) (get-put_other points change.dest (untied change.source) dest other)
    ] refl

abbrev spot_by : ℕ → Option ℕ → Spot
spot_by source tie = record { source = source; tie = tie }

module _ (plant : PlantData) (is : IsPlant plant) (without : length plant.pools ≡ 0) where
  -- a source whose picture comes by a pool would have one to come by
  all_local : (source : ℕ) → pool_of plant source ≡ None
  all_local source = by (pool_of plant source) refl
    where
      by : (pool : Option ℕ) → pool_of plant source ≡ pool → pool ≡ None
      by None e = refl
      by (Some pool) e =
          let from = remote_origin plant source pool e in
          let missing : slice_get plant.pools pool ≡ None = slice_get_past plant.pools pool (omega (arith, without)) in
          absurd (subst (λ found. IsSomeSo found (LeadsAcross plant from.0 source)) missing (pools_lead_across plant is source from.0 pool from.1 e))

  -- nothing is held of any pool
  none_occupied : (points : Crosspoints) (pool : ℕ) → occupied plant points pool ≡ []
  unfolding occupied
  none_occupied points pool = nothing_found (λ dest. option_and_then (feed_of plant pool) (finite.get points dest)) 0 (destinations_of plant) (λ dest. by (finite.get points dest))
    where
      by : (stands : Option Spot) → option_and_then (feed_of plant pool) stands ≡ None
      by None = refl
      by (Some spot) = ap (λ o. cond (option_eq nat_eq o (Some pool)) (option_map (λ origin. feed_with spot origin) (origin_of plant spot.source)) None) (all_local spot.source)

  -- so the counts are those of any crosspoints
  pub counts_of_any : (one other : Crosspoints) (counts : Counts) → AreCountsOf plant one counts → AreCountsOf plant other counts
  counts_of_any one other counts = same_counts plant one other counts (λ pool. none_occupied one pool ∙ sym (none_occupied other pool))

  -- a destination of the plant has its source by no tie
  stands_untied : (points : Crosspoints) (dest : ℕ) → dest < destinations_of plant → HaveValidTies plant points → finite.get points dest ≡ untied (source_of points dest)
  stands_untied points dest inside valid = by (finite.get points dest) refl
    where
      by : (stands : Option Spot) → finite.get points dest ≡ stands → stands ≡ untied (source_at stands)
      by None e = refl
      by (Some spot) e =
          let tied : spot.tie ≡ None = subst (λ pool. MatchOption pool (spot.tie ≡ None) (λ pool. IsSomeAnd spot.tie (λ tie. tie < size_of plant pool))) (all_local spot.source) (valid.tied dest spot (record { inside = inside; carried = e })) in
          ap (λ tie. Some (spot_by spot.source tie)) tied

  -- changes that are made as one
  module _ (points : Crosspoints) (changes : List Change) (once : NamesOnce changes) (inside : AreInside plant changes) (valid : HaveValidTies plant points) (enough : are_enough plant points changes ≡ true) where
    pub applied_valid : HaveValidTies plant (applied plant points changes)
    applied_valid = TiesStayValid-applied plant points changes once inside is valid enough

    pub applied_put_all : applied plant points changes ≡ put_all points changes
    applied_put_all = same_entries (applied plant points changes) (put_all points changes) (λ dest. by dest (find (names dest) changes) refl)
      where
        by : (dest : ℕ) (found : Option Change) → find (names dest) changes ≡ found → finite.get (applied plant points changes) dest ≡ finite.get (put_all points changes) dest
        by dest None unnamed =
            get-applied plant points changes dest once (ap (passing (is_busy points)) unnamed)
            ∙ sym (get-put_all points changes dest once ∙ ap (λ found. put_at found (finite.get points dest)) unnamed)
        by dest (Some change) named =
            let within : dest < destinations_of plant = subst (λ dest. dest < destinations_of plant) (found-is dest change changes named).1 (All-find (λ (change : Change). change.dest < destinations_of plant) (names dest) changes change inside named) in
            stands_untied (applied plant points changes) dest within applied_valid
            ∙ ap untied (source-applied plant points changes dest change once named)
            ∙ sym (get-put_all points changes dest once ∙ ap (λ found. put_at found (finite.get points dest)) named)
