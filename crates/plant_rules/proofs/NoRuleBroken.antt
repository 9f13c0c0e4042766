-- What is known of entries that break no rule: no two of them are the same.
use Rattle.std.proofs.Common.{◌≡◌, ℕ, ◌<◌, Bool, true, false, List, [], ◌∷◌, map, length, get_or, take, All, bytes_eq, refl, arith, sym, get_or-take, zero-add}
use Rattle.std.specs.List.{enumerate_from}
use Rattle.std.proofs.lemmas.Bool.{false_from_ne_true, both_ways}
use Rattle.std.proofs.lemmas.List.{get_or-map, take-map, length-take-le, length-map}
use Rattle.std.proofs.lemmas.List.Folds.{list_any_at}
use Rattle.std.proofs.lemmas.List.FromFn.{get_or-enumerate_from, length-enumerate_from}
use Rattle.std.proofs.lemmas.Map.Made.{IsDistinct-from_AllPairs}
use Rattle.std.proofs.lemmas.Slice.Eq.{bytes_eq-Decides}
use Rattle.plant_file.specs.declared.fault.Section.{Section}
use Rattle.plant_file.specs.declared.fault.Field.{Field}
use Rattle.plant_file.specs.declared.fault.Place.{Place}
use Rattle.plant_file.specs.declared.fault.PlantFault.{PlantFault}
use Rattle.plant_file.specs.KeyFaults.{place}
use Rattle.plant_rules.specs.Rules.{key_if, rule_faults, each_faults, is_among, has_twice, twice_at}
use Rattle.plant_rules.specs.Links.{key_unless}
use Rattle.plant_rules.specs.IsFile.{AllDiffer}
use Rattle.plant_file.proofs.NoFault.{map_none, numbered_none}

-- a key that isn't named
pub key_if_none : (is_so : Bool) (field : Field) → key_if is_so field ≡ [] → is_so ≡ false
key_if_none true field none = cc
key_if_none false field none = refl

pub key_unless_none : (is_so : Bool) (field : Field) → key_unless is_so field ≡ [] → is_so ≡ true
key_unless_none true field none = refl
key_unless_none false field none = cc

module _ {X : Type 0} (fault : Place → PlantFault) (section : Section) where
  -- no entry breaks a rule
  pub rule_none : (rule : List X → X → List Field) (entries : List X) → rule_faults fault section rule entries ≡ [] →
      (k : ℕ) (d : X) → k < length entries → rule (take k entries) (get_or entries k d) ≡ []
  rule_none rule entries none k d within =
      map_none _ _ (numbered_none (λ (numbered : ℕ × X). map (λ field. fault (place section numbered.0 field)) (rule (take numbered.0 entries) numbered.1)) entries none k d within)

  pub each_none : (rule : X → List Field) (entries : List X) → each_faults fault section rule entries ≡ [] → All (λ entry. rule entry ≡ []) entries
  each_none rule entries none = rule_none (λ before entry. rule entry) entries none

-- of texts none of which is among those in front of it, no two are the same
differ : (names : List (List ℕ)) → ((k : ℕ) (d : List ℕ) → k < length names → is_among (take k names) (get_or names k d) ≡ false) → AllDiffer names
differ names none =
    IsDistinct-from_AllPairs bytes_eq-Decides names (λ i j d before within same.
    let there : i < length (take j names) = rw (length-take-le j names (omega arith)) before in
    let found : bytes_eq (get_or names j d) (get_or (take j names) i d) ≡ true =
    (bytes_eq-Decides (get_or names j d) (get_or (take j names) i d)).1 (rw (get_or-take j names i d before) (sym same)) in
    both_ways _ (none j d within) (list_any_at (bytes_eq (get_or names j d)) (take j names) i d there found))

pub has_twice_none : (names : List (List ℕ)) → has_twice names ≡ false → AllDiffer names
has_twice_none names none =
    differ names (λ k d within. false_from_ne_true _ (λ among.
    let test : ℕ × List ℕ → Bool = λ numbered. is_among (take numbered.0 names) numbered.1 in
    let there : k < length (enumerate_from 0 names) = rw (length-enumerate_from 0 names) within in
    let found : test (get_or (enumerate_from 0 names) k (0, d)) ≡ true = rw (get_or-enumerate_from 0 names k (0, d) within, zero-add) among in
    both_ways _ none (list_any_at test (enumerate_from 0 names) k (0, d) there found)))

-- entries whose keys are none of those in front have different keys
pub twice_none : {X : Type 0} (field : Field) (same : X → List ℕ) (entries : List X) →
    ((k : ℕ) (d : X) → k < length entries → twice_at field same (take k entries) (get_or entries k d) ≡ []) → AllDiffer (map same entries)
twice_none field same [] none = differ [] (λ k d within. absurd (omega arith))
twice_none field same (x ∷ more) none =
    differ (map same (x ∷ more)) (λ k d within.
    let there : k < length (x ∷ more) = rw length-map at within in
    rw (take-map same k (x ∷ more), get_or-map same (x ∷ more) k x d there) (key_if_none _ field (none k x there)))
