-- The demand stays that of the crosspoints where a destination takes a source or leaves one.
use Rattle.std.proofs.Common.{◌≡◌, ◌≢◌, ◌⊎◌, ℕ, ◌+◌, ◌-◌, ◌<◌, nat_eq, Bool, true, false, cond, Option, Some, None, zero, suc, inl, inr, refl, sym, ap, ◌∙◌, arith}
use Rattle.std.proofs.lemmas.Bool.{and_parts, cases_eq, ne_eqb}
use Rattle.std.specs.Option.{option_map_or, option_eq}
use Rattle.std.specs.Set.{distinct_count}
use Rattle.std.specs.FinMap as finite
use Rattle.number_tables.specs.Table.{Entries, put}
use Rattle.number_tables.proofs.PutLemmas.{get-put_same, get-put_other}
use Rattle.plant_config.specs.Plant.{PlantData, destinations_of}
use Rattle.plant_config.specs.Sources.{origin_of, pool_of}
use Rattle.crosspoint_state.specs.declared.spot.Spot.{Spot}
use Rattle.crosspoint_state.specs.Crosspoints.{Crosspoints, source_of}
use Rattle.crosspoint_state.specs.Ties.{wanted}
use Rattle.crosspoint_state.proofs.TieLemmas.{same_option}
use Rattle.tie_pools.specs.Counts.{count_at, fed_by}
use Rattle.tie_pools.specs.Ways.{comes_by, way_of}
use Rattle.tie_pools.specs.CountsInside.{Demand, more_at, fewer_at, fed_more, fed_less}
use Rattle.tie_pools.specs.DemandInside.{AreDemandOf}
use Rattle.tie_pools.proofs.WayLemmas.{ways_differ}
use Rattle.tie_pools.proofs.FedLemmas.{fed_put_other, fed_put_own, wanted_put_other, wanted_put_own, same_origins, same_fed}

abbrev number_in : Option ℕ → ℕ
number_in found = option_map_or (λ count. count) found 0

pub count_same : (counts : Entries ℕ) (number count : ℕ) → count_at (finite.insert counts number count) number ≡ count
count_same counts number count = ap number_in (get-put_same counts number (Some count))

pub count_other : (counts : Entries ℕ) (number count n : ℕ) → n ≢ number → count_at (finite.insert counts number count) n ≡ count_at counts n
count_other counts number count n other = ap number_in (get-put_other counts number (Some count) n other)

-- counts with one more, or one fewer, where a test says so
more_if : (counts : Entries ℕ) (number : ℕ) (b : Bool) → count_at (cond b (more_at counts number) counts) number ≡ count_at counts number + cond b 1 0
more_if counts number true = count_same counts number (count_at counts number + 1)
more_if counts number false = omega arith

pub more_if_other : (counts : Entries ℕ) (number n : ℕ) (b : Bool) → n ≢ number → count_at (cond b (more_at counts number) counts) n ≡ count_at counts n
more_if_other counts number n true other = count_other counts number (count_at counts number + 1) n other
more_if_other counts number n false other = refl

pub fewer_if : (counts : Entries ℕ) (number : ℕ) (b : Bool) → count_at (cond b (fewer_at counts number) counts) number ≡ count_at counts number - cond b 1 0
fewer_if counts number true = count_same counts number (count_at counts number - 1)
fewer_if counts number false = omega arith

pub fewer_if_other : (counts : Entries ℕ) (number n : ℕ) (b : Bool) → n ≢ number → count_at (cond b (fewer_at counts number) counts) n ≡ count_at counts n
fewer_if_other counts number n true other = count_other counts number (count_at counts number - 1) n other
fewer_if_other counts number n false other = refl

one_more : (n : ℕ) → nat_eq (n + 1) 1 ≡ nat_eq n 0
one_more zero = refl
one_more (suc n) = ne_eqb (suc n + 1) 1 (λ e. omega (arith, e)) ∙ sym (ne_eqb (suc n) 0 (λ e. omega (arith, e)))

pub some_number : (a b : ℕ) → Some a ≡ Some b → a ≡ b
some_number a b e = cc

-- a destination with a source that comes by this way, and without one
module _ (plant : PlantData) (points : Crosspoints) (dest : ℕ) (spot : Spot) (pool origin way : ℕ) (inside : dest < destinations_of plant) (pooled : pool_of plant spot.source ≡ Some pool) (stands : origin_of plant spot.source ≡ Some origin) (is : way_of plant pool origin ≡ Some way) where
  -- by another way it doesn't come
  other_way : (other_pool other_origin other : ℕ) → way_of plant other_pool other_origin ≡ Some other → other ≢ way → comes_by plant other_pool other_origin spot.source ≡ true → ⊥
  other_way other_pool other_origin other e apart comes =
      let both = and_parts (option_eq nat_eq (pool_of plant spot.source) (Some other_pool)) (option_eq nat_eq (origin_of plant spot.source) (Some other_origin)) comes in
      let same_pool : other_pool ≡ pool = some_number other_pool pool (sym (same_option (pool_of plant spot.source) (Some other_pool) both.0) ∙ pooled) in
      let same_origin : other_origin ≡ origin = some_number other_origin origin (sym (same_option (origin_of plant spot.source) (Some other_origin) both.1) ∙ stands) in
      apart (some_number other way (sym e ∙ ap (λ p. way_of plant p other_origin) same_pool ∙ ap (way_of plant pool) same_origin ∙ is))

  apart_pool : (other : ℕ) → other ≢ pool → pool_of plant spot.source ≢ Some other
  apart_pool other apart e = apart (some_number other pool (sym e ∙ pooled))

  fed_own : fed_by plant (put points dest (Some spot)) pool origin ≡ fed_by plant (put points dest None) pool origin + 1
  fed_own = fed_put_own plant points dest spot inside pool origin pooled stands

  fed_other : (other_pool other_origin other : ℕ) → way_of plant other_pool other_origin ≡ Some other → other ≢ way → fed_by plant (put points dest (Some spot)) other_pool other_origin ≡ fed_by plant (put points dest None) other_pool other_origin
  fed_other other_pool other_origin other e apart = fed_put_other plant points dest spot inside other_pool other_origin (other_way other_pool other_origin other e apart)

  wanted_own : wanted plant (put points dest (Some spot)) pool ≡ wanted plant (put points dest None) pool + cond (nat_eq (fed_by plant (put points dest None) pool origin) 0) 1 0
  wanted_own = wanted_put_own plant points dest spot inside pool origin pooled stands

  wanted_other : (other : ℕ) → other ≢ pool → wanted plant (put points dest (Some spot)) other ≡ wanted plant (put points dest None) other
  wanted_other other apart = wanted_put_other plant points dest spot inside other (apart_pool other apart)

  pub demand_fed : (demand : Demand) → AreDemandOf plant (put points dest None) demand → AreDemandOf plant (put points dest (Some spot)) (fed_more demand pool way)
  demand_fed demand counted = record {
    room = record { fed = counted.room.fed; used = counted.room.used; sizes = counted.room.sizes };
    fed = λ p o w e. fed p o w e (cases_eq w way);
    used = λ p. used p (cases_eq p pool);
  }
    where
      fed : (p o w : ℕ) → way_of plant p o ≡ Some w → (w ≡ way) ⊎ (w ≢ way) → count_at (more_at demand.fed.entries way) w ≡ fed_by plant (put points dest (Some spot)) p o
      fed p o w e (inl here) =
          let same = ways_differ plant p o pool origin w e (is ∙ ap Some (sym here)) in
          ap (count_at (more_at demand.fed.entries way)) here
          ∙ count_same demand.fed.entries way (count_at demand.fed.entries way + 1)
          ∙ ap (λ n. n + 1) (counted.fed pool origin way is)
          ∙ sym fed_own
          ∙ ap (λ p. fed_by plant (put points dest (Some spot)) p origin) (sym same.0)
          ∙ ap (fed_by plant (put points dest (Some spot)) p) (sym same.1)
      fed p o w e (inr there) =
          count_other demand.fed.entries way (count_at demand.fed.entries way + 1) w there
          ∙ counted.fed p o w e
          ∙ sym (fed_other p o w e there)

      used : (p : ℕ) → (p ≡ pool) ⊎ (p ≢ pool) → count_at (fed_more demand pool way).used.entries p ≡ wanted plant (put points dest (Some spot)) p
      used p (inl here) =
          ap (count_at (fed_more demand pool way).used.entries) here
          ∙ more_if demand.used.entries pool (nat_eq (count_at demand.fed.entries way) 0)
          ∙ ap (λ n. n + cond (nat_eq (count_at demand.fed.entries way) 0) 1 0) (counted.used pool)
          ∙ ap (λ n. wanted plant (put points dest None) pool + cond (nat_eq n 0) 1 0) (counted.fed pool origin way is)
          ∙ sym wanted_own
          ∙ ap (wanted plant (put points dest (Some spot))) (sym here)
      used p (inr there) =
          more_if_other demand.used.entries pool p (nat_eq (count_at demand.fed.entries way) 0) there
          ∙ counted.used p
          ∙ sym (wanted_other p there)

  pub demand_unfed : (demand : Demand) → AreDemandOf plant (put points dest (Some spot)) demand → AreDemandOf plant (put points dest None) (fed_less demand pool way)
  demand_unfed demand counted = record {
    room = record { fed = counted.room.fed; used = counted.room.used; sizes = counted.room.sizes };
    fed = λ p o w e. fed p o w e (cases_eq w way);
    used = λ p. used p (cases_eq p pool);
  }
    where
      count_was : count_at demand.fed.entries way ≡ fed_by plant (put points dest None) pool origin + 1
      count_was = counted.fed pool origin way is ∙ fed_own

      fed : (p o w : ℕ) → way_of plant p o ≡ Some w → (w ≡ way) ⊎ (w ≢ way) → count_at (fewer_at demand.fed.entries way) w ≡ fed_by plant (put points dest None) p o
      fed p o w e (inl here) =
          let same = ways_differ plant p o pool origin w e (is ∙ ap Some (sym here)) in
          let less : count_at demand.fed.entries way - 1 ≡ fed_by plant (put points dest None) pool origin = omega (arith, count_was) in
          ap (count_at (fewer_at demand.fed.entries way)) here
          ∙ count_same demand.fed.entries way (count_at demand.fed.entries way - 1)
          ∙ less
          ∙ ap (λ p. fed_by plant (put points dest None) p origin) (sym same.0)
          ∙ ap (fed_by plant (put points dest None) p) (sym same.1)
      fed p o w e (inr there) =
          count_other demand.fed.entries way (count_at demand.fed.entries way - 1) w there
          ∙ counted.fed p o w e
          ∙ fed_other p o w e there

      -- it was the only one exactly where none is fed behind
      last : nat_eq (count_at demand.fed.entries way) 1 ≡ nat_eq (fed_by plant (put points dest None) pool origin) 0
      last = ap (λ n. nat_eq n 1) count_was ∙ one_more (fed_by plant (put points dest None) pool origin)

      used : (p : ℕ) → (p ≡ pool) ⊎ (p ≢ pool) → count_at (fed_less demand pool way).used.entries p ≡ wanted plant (put points dest None) p
      used p (inl here) =
          let was = counted.used pool ∙ wanted_own in
          let less : count_at demand.used.entries pool - cond (nat_eq (fed_by plant (put points dest None) pool origin) 0) 1 0 ≡ wanted plant (put points dest None) pool = omega (arith, was) in
          ap (count_at (fed_less demand pool way).used.entries) here
          ∙ fewer_if demand.used.entries pool (nat_eq (count_at demand.fed.entries way) 1)
          ∙ ap (λ b. count_at demand.used.entries pool - cond b 1 0) last
          ∙ less
          ∙ ap (wanted plant (put points dest None)) (sym here)
      used p (inr there) =
          fewer_if_other demand.used.entries pool p (nat_eq (count_at demand.fed.entries way) 1) there
          ∙ counted.used p
          ∙ wanted_other p there

-- crosspoints of which the same is counted have the same demand
same_counts : (plant : PlantData) (one other : Crosspoints) (demand : Demand) → ((pool origin : ℕ) → fed_by plant one pool origin ≡ fed_by plant other pool origin) → ((pool : ℕ) → wanted plant one pool ≡ wanted plant other pool) → AreDemandOf plant one demand → AreDemandOf plant other demand
same_counts plant one other demand fed used counted = record {
  room = counted.room;
  fed = λ pool origin way e. counted.fed pool origin way e ∙ fed pool origin;
  used = λ pool. counted.used pool ∙ used pool;
}

-- the ties make no difference
pub same_demand : (plant : PlantData) (one other : Crosspoints) (demand : Demand) → ((dest : ℕ) → source_of one dest ≡ source_of other dest) → AreDemandOf plant one demand → AreDemandOf plant other demand
same_demand plant one other demand same counted = same_counts plant one other demand
    (λ pool origin. same_fed plant one other pool origin same)
    (λ pool. ap (distinct_count nat_eq) (same_origins plant one other pool same))
    counted

-- a local source makes no difference
module _ (plant : PlantData) (points : Crosspoints) (dest : ℕ) (spot : Spot) (inside : dest < destinations_of plant) (local : pool_of plant spot.source ≡ None) where
  none_pool : (pool : ℕ) → pool_of plant spot.source ≢ Some pool
  none_pool pool e =
      let both : None ≡ Some pool = sym local ∙ e in
      cc

  local_fed : (pool origin : ℕ) → fed_by plant (put points dest (Some spot)) pool origin ≡ fed_by plant (put points dest None) pool origin
  local_fed pool origin = fed_put_other plant points dest spot inside pool origin (λ comes.
      none_pool pool (same_option (pool_of plant spot.source) (Some pool) (and_parts (option_eq nat_eq (pool_of plant spot.source) (Some pool)) (option_eq nat_eq (origin_of plant spot.source) (Some origin)) comes).0))

  local_wanted : (pool : ℕ) → wanted plant (put points dest (Some spot)) pool ≡ wanted plant (put points dest None) pool
  local_wanted pool = wanted_put_other plant points dest spot inside pool (none_pool pool)

  pub demand_local : (demand : Demand) → AreDemandOf plant (put points dest None) demand → AreDemandOf plant (put points dest (Some spot)) demand
  demand_local demand counted = same_counts plant (put points dest None) (put points dest (Some spot)) demand (λ pool origin. sym (local_fed pool origin)) (λ pool. sym (local_wanted pool)) counted

  pub demand_unlocal : (demand : Demand) → AreDemandOf plant (put points dest (Some spot)) demand → AreDemandOf plant (put points dest None) demand
  demand_unlocal demand counted = same_counts plant (put points dest (Some spot)) (put points dest None) demand local_fed local_wanted counted
