-- The free ties of the pools: all of them at the start, and those of one pool that change.
use Rattle.std.proofs.Common.{◌≡◌, ◌≢◌, ◌⊎◌, ℕ, ◌+◌, ◌<◌, ◌≤◌, nat_eq, nat_lt, true, false, not, ◌&&◌, ◌||◌, List, [], ◌∷◌, length, get_or, slice_get, map, set, zero, suc, inl, inr, refl, sym, ap, subst, ◌∙◌, arith, eq-eqb, get_or-set_same, get_or-set_other}
use Rattle.std.proofs.lemmas.Bool.{cases_eq, cases_lt, ne_eqb, lt-ltb, le-ltb}
use Rattle.std.specs.List.{range_with_len, list_any}
use Rattle.std.specs.Option.{option_map_or}
use Rattle.std.specs.Ordering.{nat_cmp}
use Rattle.std.specs.FinSet.{empty, contains, insert, remove, contains-empty, contains-from_list_nat}
use Rattle.number_tables.specs.Numbers.{Numbers}
use Rattle.number_tables.proofs.Members.{in_range, same_members, contains_inserted, contains_removed}
use Rattle.plant_config.specs.declared.records.Pool.{Pool}
use Rattle.plant_config.specs.Plant.{PlantData}
use Rattle.crosspoint_state.specs.Ties.{size_of}
use Rattle.tie_pools.specs.Counts.{free_of}
use Rattle.tie_pools.specs.HoldingsInside.{ties_below, all_free}

past_range : (from count n : ℕ) → from + count ≤ n → list_any (λ y. nat_eq y n) (range_with_len from count) ≡ false
past_range from zero n past = refl
past_range from (suc count) n past =
    ap (λ b. b || list_any (λ y. nat_eq y n) (range_with_len (from + 1) count)) (ne_eqb from n (λ e. omega (arith, past, e)))
    ∙ past_range (from + 1) count n (omega (arith, past))

pub contains_below : (size tie : ℕ) → contains (ties_below size) tie ≡ nat_lt tie size
unfolding ties_below
contains_below size tie =
    contains-from_list_nat (range_with_len 0 size) tie
    ∙ elim (cases_lt tie size) [
      | inl below ↦ in_range 0 size tie (omega arith) (omega (arith, below)) ∙ sym (lt-ltb tie size below)
      | inr past ↦
          past_range 0 size tie (omega (arith, past))
          ∙ sym (le-ltb tie size past)
    ]

pub below_none : empty ≡ ties_below 0
below_none = same_members empty (ties_below 0) (λ n. contains-empty nat_cmp n ∙ sym (contains_below 0 n ∙ le-ltb n 0 (omega arith)))

pub below_more : (size : ℕ) → insert (ties_below size) size ≡ ties_below (size + 1)
below_more size = same_members (insert (ties_below size) size) (ties_below (size + 1)) (λ n.
    contains_inserted (ties_below size) size n ∙ ap (λ b. nat_eq n size || b) (contains_below size n) ∙ by n (cases_eq n size) ∙ sym (contains_below (size + 1) n))
  where
    by : (n : ℕ) → (n ≡ size) ⊎ (n ≢ size) → (nat_eq n size || nat_lt n size) ≡ nat_lt n (size + 1)
    by n (inl same) =
        ap (λ b. b || nat_lt n size) (eq-eqb n size same)
        ∙ sym (lt-ltb n (size + 1) (omega (arith, same)))
    by n (inr apart) =
        ap (λ b. b || nat_lt n size) (ne_eqb n size apart)
        ∙ elim (cases_lt n size) [
          | inl below ↦ lt-ltb n size below ∙ sym (lt-ltb n (size + 1) (omega (arith, below)))
          | inr past ↦
              le-ltb n size past ∙ sym (le-ltb n (size + 1) (omega (arith, past, apart)))
        ]

free_at : (pools : List Pool) (number tie : ℕ) → contains (get_or (map (λ (pool : Pool). ties_below pool.ties) pools) number empty) tie ≡ nat_lt tie (option_map_or (λ (found : Pool). found.ties) (slice_get pools number) 0)
free_at [] number tie = contains-empty nat_cmp tie ∙ sym (le-ltb tie 0 (omega arith))
free_at (pool ∷ pools) zero tie = contains_below pool.ties tie
free_at (pool ∷ pools) (suc number) tie = free_at pools number tie

-- at the start each tie of each pool is free
pub contains_all : (plant : PlantData) (pool tie : ℕ) → contains (free_of (all_free plant) pool) tie ≡ nat_lt tie (size_of plant pool)
contains_all plant pool tie = free_at plant.pools pool tie

-- a pool gets other free ties, which differ from those before in one
module _ (free : List Numbers) (pool tie : ℕ) (within : pool < length free) where
  set_apart : (ties : Numbers) → ((n : ℕ) → n ≢ tie → contains ties n ≡ contains (free_of free pool) n) → (other other_tie : ℕ) → (pool ≡ other → tie ≡ other_tie → ⊥) →
      contains (free_of (set free pool ties) other) other_tie ≡ contains (free_of free other) other_tie
  set_apart ties others other other_tie apart = by (cases_eq pool other)
    where
      by : (pool ≡ other) ⊎ (pool ≢ other) → contains (free_of (set free pool ties) other) other_tie ≡ contains (free_of free other) other_tie
      by (inl same) =
          subst (λ p. contains (free_of (set free pool ties) p) other_tie ≡ contains (free_of free p) other_tie) same
          (ap (λ s. contains s other_tie) (get_or-set_same free pool ties empty within) ∙ others other_tie (λ e. apart same (sym e)))
      by (inr differ) = ap (λ s. contains s other_tie) (get_or-set_other free pool other ties empty (λ e. differ (sym e)))

  pub inserted_here : contains (free_of (set free pool (insert (free_of free pool) tie)) pool) tie ≡ true
  inserted_here =
      ap (λ s. contains s tie) (get_or-set_same free pool (insert (free_of free pool) tie) empty within)
      ∙ contains_inserted (free_of free pool) tie tie
      ∙ ap (λ b. b || contains (free_of free pool) tie) (eq-eqb tie tie refl)

  pub inserted_apart : (other other_tie : ℕ) → (pool ≡ other → tie ≡ other_tie → ⊥) → contains (free_of (set free pool (insert (free_of free pool) tie)) other) other_tie ≡ contains (free_of free other) other_tie
  inserted_apart = set_apart (insert (free_of free pool) tie) (λ n apart.
      contains_inserted (free_of free pool) tie n ∙ ap (λ b. b || contains (free_of free pool) n) (ne_eqb n tie apart))

  pub removed_here : contains (free_of (set free pool (remove (free_of free pool) tie)) pool) tie ≡ false
  removed_here =
      ap (λ s. contains s tie) (get_or-set_same free pool (remove (free_of free pool) tie) empty within)
      ∙ contains_removed (free_of free pool) tie tie
      ∙ ap (λ b. not b && contains (free_of free pool) tie) (eq-eqb tie tie refl)

  pub removed_apart : (other other_tie : ℕ) → (pool ≡ other → tie ≡ other_tie → ⊥) → contains (free_of (set free pool (remove (free_of free pool) tie)) other) other_tie ≡ contains (free_of free other) other_tie
  removed_apart = set_apart (remove (free_of free pool) tie) (λ n apart.
      contains_removed (free_of free pool) tie n ∙ ap (λ b. not b && contains (free_of free pool) n) (ne_eqb n tie apart))
