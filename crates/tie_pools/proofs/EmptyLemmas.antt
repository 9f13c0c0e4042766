-- Where nothing is carried nothing is counted.
use Rattle.std.proofs.Common.{◌≡◌, ℕ, ◌+◌, ◌==◌, nat_eq, nat_lt, not, ◌&&◌, [], map, find, filter_map, Option, Some, None, zero, suc, refl, sym, ap, ◌∙◌}
use Rattle.std.proofs.Math.Bool.{and-true}
use Rattle.std.specs.Ordering.{nat_cmp}
use Rattle.std.specs.Option.{option_and_then, option_map_or, option_eq}
use Rattle.std.specs.List.{range_with_len, cons_option, list_any, count_by}
use Rattle.std.specs.Set.{distinct_count}
use Rattle.std.specs.FinMap as finite
use Rattle.std.specs.FinSet.{contains}
use Rattle.number_tables.specs.Table.{Entries}
use Rattle.plant_config.specs.Plant.{PlantData, destinations_of}
use Rattle.crosspoint_state.specs.Ties.{Feed, size_of, feed_of, occupied}
use Rattle.tie_pools.specs.Counts.{Counts, free_of, AreWays, AreCountsFor, AreCountsOf}
use Rattle.tie_pools.specs.HoldingsInside.{all_free}
use Rattle.tie_pools.proofs.FreeLemmas.{contains_all}

pub nothing_found : {Y : Type 0} (h : ℕ → Option Y) (a n : ℕ) → ((k : ℕ) → h k ≡ None) → filter_map h (range_with_len a n) ≡ []
nothing_found h a zero none = refl
nothing_found h a (suc n) none =
    ap (λ first. cons_option first (filter_map h (range_with_len (a + 1) n))) (none a) ∙ nothing_found h (a + 1) n none

-- no pool is in use
pub occupied_empty : (plant : PlantData) (pool : ℕ) → occupied plant finite.empty pool ≡ []
unfolding occupied
occupied_empty plant pool =
    nothing_found (λ dest. option_and_then (feed_of plant pool) (finite.get finite.empty dest)) 0 (destinations_of plant)
    (λ dest. ap (option_and_then (feed_of plant pool)) (finite.get-empty nat_cmp dest))

-- nothing is counted, so nothing is at any number
none_at : (counts : Entries ℕ) (number : ℕ) → counts ≡ finite.empty → finite.get counts number ≡ None
none_at counts number empty = ap (λ (counts : Entries ℕ). finite.get counts number) empty ∙ finite.get-empty nat_cmp number

-- the counts at the start
pub counts_empty : (plant : PlantData) (counts : Counts) → AreWays plant counts.ways → AreCountsFor plant counts → counts.fed.entries ≡ finite.empty → counts.used.entries ≡ finite.empty → counts.ties.entries ≡ finite.empty → counts.free ≡ all_free plant → AreCountsOf plant finite.empty counts
counts_empty plant counts ways room fed used ties free = record {
  ways = ways;
  room = room;
  fed = λ pool origin way is.
      ap (λ count. option_map_or (λ (count : ℕ). count) count 0) (none_at counts.fed.entries way fed)
      ∙ sym (ap (λ feeds. count_by (λ (feed : Feed). feed.origin == origin) feeds) (occupied_empty plant pool));
  used = λ pool.
      ap (λ count. option_map_or (λ (count : ℕ). count) count 0) (none_at counts.used.entries pool used)
      ∙ sym (ap (λ feeds. distinct_count nat_eq (map (λ (feed : Feed). feed.origin) feeds)) (occupied_empty plant pool));
  ties = λ pool origin way is.
      none_at counts.ties.entries way ties
      ∙ sym (ap (λ feeds. option_and_then (λ (feed : Feed). feed.tie) (find (λ (feed : Feed). feed.origin == origin) feeds)) (occupied_empty plant pool));
  free = λ pool tie.
      ap (λ free. contains (free_of free pool) tie) free
      ∙ contains_all plant pool tie
      ∙ sym (ap (λ feeds. nat_lt tie (size_of plant pool) && not (list_any (λ (feed : Feed). option_eq nat_eq feed.tie (Some tie)) feeds)) (occupied_empty plant pool) ∙ and-true (nat_lt tie (size_of plant pool)));
}
