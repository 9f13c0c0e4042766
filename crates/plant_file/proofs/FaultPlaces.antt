-- Faults have places that are right, in the sense that the lemma's caller gives: list by list, key by key.
use Rattle.std.proofs.Common.{ℕ, ℤ, pos, ◌<◌, Bool, true, false, cond, List, [], ◌∷◌, ◌++◌, length, get_or, All, flat_map, Option, Some, None, IsSomeAnd, arith, zero-add}
use Rattle.std.specs.List.{AllByRecursion, enumerate_from}
use Rattle.std.proofs.lemmas.List.Elements.{All-tail}
use Rattle.std.proofs.lemmas.List.FromFn.{length-enumerate_from, get_or-enumerate_from}
use Rattle.toml.specs.Data.{Data, string, integer, boolean, array, table, Members}
use Rattle.plant_file.specs.declared.fault.Place.{Place}
use Rattle.plant_file.specs.declared.fault.PlantFault.{PlantFault}
use Rattle.plant_file.specs.declared.fault.PlantFault.TheVariants.{Missing, WrongType, OutOfRange}
use Rattle.plant_file.specs.Rows.{Kind, Number, UpTo, Words, Flag, Names, Default, Required, RequiredWith, Given, Optional, Key, Form, Document, OneTable, Entries, first_text_byte, last_text_byte, shortest_name, longest_name}
use Rattle.plant_file.specs.Document.{values, as_number, found_at}
use Rattle.plant_file.specs.KeyFaults.{range_faults, up_to_faults, words_faults, value_faults, absent_faults, found_faults, form_faults}
use Rattle.plant_file.specs.Places.{place_of}

-- Each fault is at a right place.
pub record AreAt (IsRight : Place → Type 0) (faults : List PlantFault) : Type 0 where
  pub each : AllByRecursion (λ fault. IsSomeAnd (place_of fault) IsRight) faults

module _ {IsRight : Place → Type 0} where
  pub none_at : AreAt IsRight []
  none_at = record { each = tt }

  pub one_at : (fault : PlantFault) → IsSomeAnd (place_of fault) IsRight → AreAt IsRight (fault ∷ [])
  one_at fault right = record { each = (right, tt) }

  pub append_at : {front behind : List PlantFault} → AreAt IsRight front → AreAt IsRight behind → AreAt IsRight (front ++ behind)
  append_at {front = []} at more = more
  append_at {front = fault ∷ front} at more =
      let rest : AreAt IsRight front = record { each = at.each.1 } in
      record { each = (at.each.0, (append_at rest more).each) }

  pub flat_map_at : {X : Type 0} (f : X → List PlantFault) (xs : List X) → All (λ x. AreAt IsRight (f x)) xs → AreAt IsRight (flat_map f xs)
  flat_map_at f [] at = none_at
  flat_map_at f (x ∷ xs) at = append_at (at 0 x (omega arith)) (flat_map_at f xs (All-tail (λ x. AreAt IsRight (f x)) x xs at))

  pub numbered_at : {X : Type 0} (f : ℕ × X → List PlantFault) (xs : List X) → ((k : ℕ) (d : X) → k < length xs → AreAt IsRight (f (k, get_or xs k d))) →
      AreAt IsRight (flat_map f (enumerate_from 0 xs))
  numbered_at f xs at =
      flat_map_at f (enumerate_from 0 xs) (λ k d within.
      let there : k < length xs = rw length-enumerate_from at within in
      rw (get_or-enumerate_from 0 xs k d there, zero-add) (at k d.1 there))

  pub cond_at : (test : Bool) {one other : List PlantFault} → AreAt IsRight one → AreAt IsRight other → AreAt IsRight (cond test one other)
  cond_at true at otherwise = at
  cond_at false at otherwise = otherwise

  module _ (at : Place) (right : IsRight at) where
    wrong_at : AreAt IsRight (WrongType at ∷ [])
    wrong_at = one_at (WrongType at) right

    pub range_at : (value : ℤ) (low high : ℕ) → AreAt IsRight (range_faults at value low high)
    range_at value low high = cond_at _ none_at (one_at (OutOfRange at value (pos low) (pos high)) right)

    up_to_at : (high bound : ℕ) (value : Data) → AreAt IsRight (up_to_faults at high bound value)
    up_to_at high bound (integer value) = append_at (range_at value 0 high) (range_at value 0 bound)
    up_to_at high bound value = wrong_at

    words_at : (low high : ℕ) (value : Data) → AreAt IsRight (words_faults at low high value)
    words_at low high (string text) =
        append_at (range_at (pos (length text)) low high) (flat_map_at (λ byte. range_faults at (pos byte) first_text_byte last_text_byte) text (λ k d within. range_at (pos (get_or text k d)) first_text_byte last_text_byte))
    words_at low high value = wrong_at

    value_at : (entry : Members) (kind : Kind) (value : Data) → AreAt IsRight (value_faults at entry kind value)
    value_at entry (Number low high) (integer value) = range_at value low high
    value_at entry (UpTo high limit) value = up_to_at high (as_number (found_at limit entry)) value
    value_at entry (Words low high) value = words_at low high value
    value_at entry Flag (boolean flag) = none_at
    value_at entry (Names limit) (array names) =
        append_at (range_at (pos (length (values names))) 0 (as_number (found_at limit entry)))
        (flat_map_at (words_faults at shortest_name longest_name) (values names) (λ k d within. words_at shortest_name longest_name (get_or (values names) k d)))
    value_at entry kind value = wrong_at

    absent_at : (default : Default) → AreAt IsRight (absent_faults at default)
    absent_at Required = one_at (Missing at) right
    absent_at (RequiredWith other) = one_at (Missing at) right
    absent_at (Given value) = none_at
    absent_at Optional = none_at

    pub found_faults_at : (entry : Members) (row : Key) (found : Option Data) → AreAt IsRight (found_faults at entry row found)
    found_faults_at entry row (Some value) = value_at entry row.kind value
    found_faults_at entry row None = absent_at row.default

    pub form_at : (form : Form) (found : Option Data) → AreAt IsRight (form_faults at form found)
    form_at Document found = none_at
    form_at OneTable (Some (table entry)) = none_at
    form_at OneTable (Some value) = wrong_at
    form_at OneTable None = none_at
    form_at (Entries least most) (Some (array items)) = cond_at _ (range_at (pos (length (values items))) least most) wrong_at
    form_at (Entries least most) (Some value) = wrong_at
    form_at (Entries least most) None = range_at (pos 0) least most
