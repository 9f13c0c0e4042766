-- Data that are right break no rule.
use Rattle.std.proofs.Common.{◌≡◌, ℕ, pos, suc, ◌+◌, ◌<◌, ◌≤◌, Bool, true, false, List, [], ◌∷◌, ◌++◌, map, length, get_or, take, All, flat_map, bytes_eq, refl, sym, ⊎_elim, arith, zero-add, add-zero, get_or-take, le-leb, ◌∙◌}
use Rattle.std.specs.List.{enumerate_from, list_any}
use Rattle.std.proofs.lemmas.Bool.{false_from_ne_true, or_cases, or_left, or_right}
use Rattle.std.proofs.lemmas.List.{get_or-map, take-map, length-take-le, length-map, get_or_default}
use Rattle.std.proofs.lemmas.List.Folds.{list_any_none}
use Rattle.std.proofs.lemmas.List.FromFn.{get_or-enumerate_from, length-enumerate_from}
use Rattle.std.proofs.lemmas.Map.Made.{AllPairs-from_IsDistinct}
use Rattle.std.proofs.lemmas.Slice.Eq.{bytes_eq-Decides}
use Rattle.plant_file.specs.declared.fault.Section.{Section}
use Rattle.plant_file.specs.declared.fault.Field.{Field}
use Rattle.plant_file.specs.declared.fault.Place.{Place}
use Rattle.plant_file.specs.declared.fault.PlantFault.{PlantFault}
use Rattle.plant_file.specs.KeyFaults.{place, range_faults}
use Rattle.plant_rules.specs.Rules.{key_if, rule_faults, each_faults, is_among, has_twice, twice_at}
use Rattle.plant_rules.specs.Links.{key_unless}
use Rattle.plant_rules.specs.IsFile.{AllDiffer}

-- two lists that have no element
pub append_empty : {X : Type 0} {front behind : List X} → front ≡ [] → behind ≡ [] → front ++ behind ≡ []
append_empty none other = rw none other

numbered_empty : {X Y : Type 0} (f : ℕ × X → List Y) (first : ℕ) (xs : List X) → ((k : ℕ) (d : X) → k < length xs → f (first + k, get_or xs k d) ≡ []) →
    flat_map f (enumerate_from first xs) ≡ []
numbered_empty f first [] none = refl
numbered_empty f first (x ∷ xs) none =
    append_empty (rw add-zero at (none 0 x (omega arith))) (numbered_empty f (first + 1) xs (λ k d within.
    let same : first + 1 + k ≡ first + suc k = omega arith in
    rw same (none (suc k) d (omega arith))))

pub range_empty : (at : Place) (number low high : ℕ) → low ≤ number → number ≤ high → range_faults at (pos number) low high ≡ []
range_empty at number low high least most = rw (le-leb low number least, le-leb number high most)

pub key_if_empty : (is_so : Bool) (field : Field) → is_so ≡ false → key_if is_so field ≡ []
key_if_empty true field not_so = cc
key_if_empty false field not_so = refl

pub key_unless_empty : (is_so : Bool) (field : Field) → is_so ≡ true → key_unless is_so field ≡ []
key_unless_empty true field so = refl
key_unless_empty false field so = cc

pub rule_empty : {X : Type 0} (fault : Place → PlantFault) (section : Section) (rule : List X → X → List Field) (entries : List X) →
    ((k : ℕ) (d : X) → k < length entries → rule (take k entries) (get_or entries k d) ≡ []) → rule_faults fault section rule entries ≡ []
rule_empty {X} fault section rule entries none =
    numbered_empty (λ (numbered : ℕ × X). map (λ field. fault (place section numbered.0 field)) (rule (take numbered.0 entries) numbered.1)) 0 entries
    (λ k d within. rw (zero-add, none k d within))

pub each_empty : {X : Type 0} (fault : Place → PlantFault) (section : Section) (rule : X → List Field) (entries : List X) →
    All (λ entry. rule entry ≡ []) entries → each_faults fault section rule entries ≡ []
each_empty fault section rule entries none = rule_empty fault section (λ before entry. rule entry) entries none

-- of texts no two of which are the same, none is among those in front of it
differ_empty : (names : List (List ℕ)) → AllDiffer names → (k : ℕ) (d : List ℕ) → k < length names → is_among (take k names) (get_or names k d) ≡ false
differ_empty names differ k d within =
    list_any_none (bytes_eq (get_or names k d)) (take k names) (λ i e in_front. false_from_ne_true _ (λ found.
    let before : i < k = rw (length-take-le k names (omega arith)) at in_front in
    let same : get_or names k d ≡ get_or (take k names) i e = (bytes_eq-Decides _ _).0 found in
    let there : get_or (take k names) i e ≡ get_or names i d = get_or-take k names i e before ∙ get_or_default names i e d (omega arith) in
    AllPairs-from_IsDistinct bytes_eq-Decides names differ i k d before within (sym (same ∙ there))))

pub twice_empty : {X : Type 0} (field : Field) (same : X → List ℕ) (entries : List X) → AllDiffer (map same entries) →
    (k : ℕ) (d : X) → k < length entries → twice_at field same (take k entries) (get_or entries k d) ≡ []
twice_empty field same entries differ k d within =
    key_if_empty _ field (rw (← take-map same k entries, ← get_or-map same entries k d (same d) within)
    (differ_empty (map same entries) differ k (same d) (rw length-map within)))

pub has_twice_empty : (names : List (List ℕ)) → AllDiffer names → has_twice names ≡ false
has_twice_empty names differ =
    list_any_none (λ (numbered : ℕ × List ℕ). is_among (take numbered.0 names) numbered.1) (enumerate_from 0 names) (λ k d within.
    let there : k < length names = rw length-enumerate_from at within in
    rw (get_or-enumerate_from 0 names k d there, zero-add) (differ_empty names differ k d.1 there))

-- what passes one test passes a weaker one
pub any_weaker : {X : Type 0} (one other : X → Bool) → ((x : X) → one x ≡ true → other x ≡ true) → (xs : List X) → list_any one xs ≡ true → list_any other xs ≡ true
any_weaker one other weaker [] any = any
any_weaker one other weaker (x ∷ xs) any =
    ⊎_elim (λ here. or_left _ _ (weaker x here)) (λ behind. or_right _ _ (any_weaker one other weaker xs behind)) (or_cases _ _ any)
