-- What tables know of a plant file, from how they were made.
use Rattle.std.proofs.Common.{◌≡◌, ℕ, ◌+◌, ◌<◌, max, Bool, true, false, ◌==◌, ◌&&◌, ◌||◌, nat_lt, bytes_eq, List, [], ◌∷◌, length, take, get_or, map, Option, Some, None, is_some, unwrap_or, refl, ap, sym, ◌∙◌, cond, arith}
use Rattle.std.specs.Ordering.{is_eq}
use Rattle.std.specs.List.{list_any}
use Rattle.std.specs.BTreeMap.{BTreeMap}
use Rattle.std.specs.BTreeMap as table
use Rattle.std.specs.Option.{option_map_or}
use Rattle.std.specs.BTreeSet.{BTreeSet}
use Rattle.std.specs.BTreeSet as set
use Rattle.std.proofs.Math.Bool.{or-false, or-true}
use Rattle.std.proofs.lemmas.Bool.Decides.{nat_tests, same_from_decides, Decides-like}
use Rattle.std.proofs.lemmas.List.Folds.{list_any_more}
use Rattle.std.proofs.lemmas.Slice.Eq.{bytes_eq-Decides}
use Rattle.std.proofs.lemmas.Map.Text.{is_eq-slice_cmp}
use Rattle.plant_rules.specs.declared.known.Counts.{Counts}
use Rattle.plant_file.specs.FileData.{LevelData}
use Rattle.plant_file.specs.declared.entries.RemoteEntry.{RemoteEntry}
use Rattle.plant_file.specs.declared.entries.PoolEntry.{PoolEntry}
use Rattle.plant_file.specs.declared.entries.DeviceEntry.{DeviceEntry}
use Rattle.plant_rules.specs.KnownInside.{no_counts, widened, pair_cmp, triple_cmp, name_cmp, remote_place, pool_place, KnowsLevels, KnowsRemotes, KnowsPools, KnowsDevices}

-- equal in the order is equal in each number
pub is_eq-pair_cmp : (a b m l : ℕ) → is_eq (pair_cmp (a, b) (m, l)) ≡ (a == m && b == l)
is_eq-pair_cmp a b m l = grind (arith, nat_tests)

is_eq-triple_cmp : (m l s a b c : ℕ) → is_eq (triple_cmp (m, l, s) (a, b, c)) ≡ (a == m && b == l && c == s)
is_eq-triple_cmp m l s a b c = grind (arith, nat_tests)

-- some key passes, where some entry does
list_any-map : {K X : Type 0} (test : K → Bool) (key : X → K) (passes : X → Bool) → ((x : X) → test (key x) ≡ passes x) → (xs : List X) → list_any test (map key xs) ≡ list_any passes xs
list_any-map test key passes same [] = refl
list_any-map test key passes same (x ∷ xs) = rw (same x, list_any-map test key passes same xs) refl

-- a set that was made of a section knows it
pub KnowsRemotes-from_set : (remotes : List RemoteEntry) (known : BTreeSet (ℕ × ℕ × ℕ)) → set.IsFromIterResult triple_cmp (map remote_place remotes) known → KnowsRemotes known remotes
KnowsRemotes-from_set remotes known is = λ m l s. is.0 (m, l, s) ∙ list_any-map _ remote_place _ (λ remote. is_eq-triple_cmp m l s remote.matrix remote.level remote.source) remotes

pub KnowsPools-from_set : (pools : List PoolEntry) (known : BTreeSet (ℕ × ℕ × ℕ)) → set.IsFromIterResult triple_cmp (map pool_place pools) known → KnowsPools known pools
KnowsPools-from_set pools known is = λ f t l. is.0 (f, t, l) ∙ list_any-map _ pool_place _ (λ pool. is_eq-triple_cmp f t l pool.from pool.to pool.level) pools

-- equal in the order is the same name
is_eq-name_cmp : (name other : List ℕ) → is_eq (name_cmp name other) ≡ bytes_eq other name
is_eq-name_cmp name other = is_eq-slice_cmp name other ∙ same_from_decides _ _ (Decides-like _ sym sym (bytes_eq-Decides name other)) (bytes_eq-Decides other name)

pub KnowsDevices-from_set : (devices : List DeviceEntry) (known : BTreeSet (List ℕ)) → set.IsFromIterResult name_cmp (map (λ device. device.name) devices) known → KnowsDevices known devices
KnowsDevices-from_set devices known is = λ name. is.0 name ∙ list_any-map _ (λ (device : DeviceEntry). device.name) _ (λ device. is_eq-name_cmp name device.name) devices

-- a number is below the greater of two where it is below one of them
nat_lt-max : (s a b : ℕ) → nat_lt s (max a b) ≡ (nat_lt s a || nat_lt s b)
nat_lt-max s a b = grind (arith, nat_tests)

-- what is read of a level where one more is known, which is this level or another
read-more : (reads : Option Counts → Bool) (before after : Option Counts) (counts : Counts) (here passes : Bool) → after ≡ cond here (Some counts) before → (here ≡ true → reads (Some counts) ≡ (reads before || passes)) → (here ≡ false → passes ≡ false) → reads after ≡ (reads before || passes)
read-more reads before after counts true passes updated same other = rw updated (same refl)
read-more reads before after counts false passes updated same other = rw (updated, other refl) (sym (or-false (reads before)))

known-more : (reads : Option Counts → Bool) (is_here passes : LevelData → Bool) (before after : Option Counts) (counts : Counts) (levels : List LevelData) (i : ℕ) (level : LevelData) → reads before ≡ list_any passes (take i levels) → i < length levels → level ≡ get_or levels i level → after ≡ cond (is_here level) (Some counts) before → (is_here level ≡ true → reads (Some counts) ≡ (reads before || passes level)) → (is_here level ≡ false → passes level ≡ false) → reads after ≡ list_any passes (take (i + 1) levels)
known-more reads is_here passes before after counts levels i level known in_levels is updated same other =
    read-more reads before after counts (is_here level) (passes level) updated same other
    ∙ ap (λ before_passes. before_passes || passes level) known
    ∙ ap (λ (one : LevelData). list_any passes (take i levels) || passes one) is
    ∙ sym (list_any_more passes levels i level in_levels)

-- the same matrix and level
same_matrix : (a b m l : ℕ) → (a == m && b == l) ≡ true → a ≡ m
same_matrix a b m l same = grind (arith, nat_tests)

same_level : (a b m l : ℕ) → (a == m && b == l) ≡ true → b ≡ l
same_level a b m l same = grind (arith, nat_tests)

-- what a table knows at a matrix and a level
abbrev counts_at : BTreeMap (ℕ × ℕ) Counts → ℕ → ℕ → Option Counts
counts_at known m l = table.get pair_cmp known (m, l)

-- a level is this one
abbrev is_level : ℕ → ℕ → LevelData → Bool
is_level m l at = at.matrix == m && at.level == l

-- a number is below a count that is known
abbrev is_below : (Counts → ℕ) → ℕ → Option Counts → Bool
is_below count_of number known = option_map_or (λ counts. nat_lt number (count_of counts)) known false

-- the same level is known alike
counts_at-same : (known : BTreeMap (ℕ × ℕ) Counts) (a b m l : ℕ) → (a == m && b == l) ≡ true → counts_at known a b ≡ counts_at known m l
counts_at-same known a b m l same = rw (same_matrix a b m l same, same_level a b m l same) refl

-- a number is below the greater count of a level and of another one
below-max : (count_of : Counts → ℕ) → count_of no_counts ≡ 0 → (before : Option Counts) (number more : ℕ) → nat_lt number (max (count_of (unwrap_or before no_counts)) more) ≡ (is_below count_of number before || nat_lt number more)
below-max count_of none None number more = rw none (ap (nat_lt number) (omega arith))
below-max count_of none (Some counts) number more = nat_lt-max number (count_of counts) more

-- a table that knows the levels in front of one, and that level too in the next state
module _ (known next : BTreeMap (ℕ × ℕ) Counts) (levels : List LevelData) (i : ℕ) (level : LevelData) (own : Option Counts) (in_levels : i < length levels) (is : level ≡ get_or levels i level) (own_is : own ≡ counts_at known level.matrix level.level) (updates : (m l : ℕ) → counts_at next m l ≡ cond (is_level m l level) (Some (widened own level)) (counts_at known m l)) where
  -- one more level is known by its sources, or by its destinations
  counted-more : (count_of : Counts → ℕ) (number_of : LevelData → ℕ) → count_of no_counts ≡ 0 → count_of (widened own level) ≡ max (count_of (unwrap_or own no_counts)) (number_of level) → (m l number : ℕ) → is_below count_of number (counts_at known m l) ≡ list_any (λ at. is_level m l at && nat_lt number (number_of at)) (take i levels) → is_below count_of number (counts_at next m l) ≡ list_any (λ at. is_level m l at && nat_lt number (number_of at)) (take (i + 1) levels)
  counted-more count_of number_of none greater m l number knows =
      known-more (is_below count_of number) (is_level m l) (λ at. is_level m l at && nat_lt number (number_of at)) (counts_at known m l) (counts_at next m l) (widened own level) levels i level knows in_levels is (updates m l)
      (λ same. let here = own_is ∙ counts_at-same known level.matrix level.level m l same in rw (same, greater, ← here) (below-max count_of none own number (number_of level)))
      (λ other. rw other refl)

  -- one more level is known
  pub KnowsLevels-more : KnowsLevels known (take i levels) → KnowsLevels next (take (i + 1) levels)
  KnowsLevels-more knows = record {
    level = λ m l. known-more is_some (is_level m l) (is_level m l) (counts_at known m l) (counts_at next m l) (widened own level) levels i level (knows.level m l) in_levels is (updates m l) (λ same. rw same (sym (or-true (is_some (counts_at known m l))))) (λ other. other);
    source = λ m l s. counted-more (λ counts. counts.sources) (λ at. at.sources) refl refl m l s (knows.source m l s);
    destination = λ m l d. counted-more (λ counts. counts.destinations) (λ at. at.destinations) refl refl m l d (knows.destination m l d);
  }
