-- The first place at which entries break a rule, and the first fault of the rule.
use Rattle.std.proofs.Common.{◌≡◌, ℕ, ◌+◌, List, [], ◌∷◌, ◌++◌, length, take, map, flat_map, Option, Some, None, option_map, refl, sym, ap, ◌∙◌, arith, append_assoc}
use Rattle.std.specs.List.{enumerate_from, slice_get}
use Rattle.std.specs.Option.{option_or}
use Rattle.std.proofs.lemmas.Grind.{common_steps}
use Rattle.std.proofs.Math.Seq.{take-append_seam}
use Rattle.plant_file.specs.declared.fault.Section.{Section}
use Rattle.plant_file.specs.declared.fault.Field.{Field}
use Rattle.plant_file.specs.declared.fault.Place.{Place}
use Rattle.plant_file.specs.declared.fault.PlantFault.{PlantFault}
use Rattle.plant_file.specs.FirstFault.{first_fault}
use Rattle.plant_file.specs.KeyFaults.{place}
use Rattle.plant_rules.specs.Rules.{rule_faults}
use Rattle.plant_rules.specs.RulesInside.{first_place_from, first_place}
use Rattle.plant_file.proofs.FirstFault.{first_fault-append}

-- the first fault of some keys is at the first key
first_fault-keys : (fault : Place → PlantFault) (section : Section) (number : ℕ) (keys : List Field) → first_fault (map (λ field. fault (place section number field)) keys) ≡ option_map fault (option_map (place section number) (slice_get keys 0))
first_fault-keys fault section number [] = refl
first_fault-keys fault section number (key ∷ more) = refl

pub option_map-option_or : {A B : Type 0} (f : A → B) (first second : Option A) → option_or (option_map f first) (option_map f second) ≡ option_map f (option_or first second)
option_map-option_or f None second = refl
option_map-option_or f (Some value) second = refl

-- the faults of the entries of a list from an index on
abbrev faults_from : {X : Type 0} → (Place → PlantFault) → Section → (List X → X → List Field) → List X → ℕ → List X → List PlantFault
faults_from {X} fault section rule all number entries =
    flat_map (λ (numbered : ℕ × X). map (λ field. fault (place section numbered.0 field)) (rule (take numbered.0 all) numbered.1)) (enumerate_from number entries)

first_fault-from : {X : Type 0} (fault : Place → PlantFault) (section : Section) (rule : List X → X → List Field) (all before entries : List X) (number : ℕ) → all ≡ before ++ entries → number ≡ length before → first_fault (faults_from fault section rule all number entries) ≡ option_map fault (first_place_from section rule before entries)
first_fault-from fault section rule all before [] number all_is number_is = refl
first_fault-from fault section rule all before (entry ∷ more) number all_is number_is =
    let front : take number all ≡ before = ap (λ n. take n all) number_is ∙ ap (take (length before)) all_is ∙ take-append_seam before (entry ∷ more) in
    let rest : first_fault (faults_from fault section rule all (number + 1) more) ≡ option_map fault (first_place_from section rule (before ++ entry ∷ []) more) = first_fault-from fault section rule all (before ++ entry ∷ []) more (number + 1) (all_is ∙ sym (append_assoc before (entry ∷ []) more)) (grind (arith, common_steps)) in
    rw (front, first_fault-append, first_fault-keys fault section number (rule before entry), rest, number_is, option_map-option_or)

pub first_fault-rule_faults : {X : Type 0} (fault : Place → PlantFault) (section : Section) (rule : List X → X → List Field) (entries : List X) → first_fault (rule_faults fault section rule entries) ≡ option_map fault (first_place section rule entries)
first_fault-rule_faults fault section rule entries = first_fault-from fault section rule entries [] entries 0 refl refl
