-- What has one text is one thing, field by field.
use Rattle.std.proofs.Common.{◌≡◌, ℕ, ◌+◌, ◌*◌, ◌^◌, ◌<◌, ◌≤◌, zero, suc, Bool, true, false, List, [], ◌∷◌, ◌++◌, length, map, drop, get_or, All, Option, Some, None, IfSome, inl, inr, refl, sym, ap, ◌∙◌, arith}
use Rattle.std.proofs.lemmas.Bool.{cases_eq, cases_lt, false_from_ne_true}
use Rattle.std.proofs.lemmas.List.{same_lists}
use Rattle.std.proofs.lemmas.Nat.{from_le_bytes-to_le_bytes_2, from_le_bytes-to_le_bytes_4}
use Rattle.std.proofs.lemmas.Option.{slice_get-get_or}
use Rattle.std.specs.Prelude.{slice_get}
use Rattle.std.specs.Cmp.{nat_cmp_total}
use Rattle.std.specs.Int.{w16, w32, from_le_bytes}
use Rattle.std.specs.List.{range_with_len}
use Rattle.std.specs.Option.{option_map, option_and_then}
use Rattle.std.specs.FinMap.{nat_cmp-IsAntisymmetric}
use Rattle.std.specs.FinSet.{same_set}
use Rattle.plant_config.specs.declared.records.Change.{Change}
use Rattle.crosspoint_state.specs.declared.spot.Spot.{Spot}
use Rattle.salvo_groups.specs.Limits.{group_limit}
use Rattle.salvo_groups.specs.Groups.{Group}
use Rattle.change_boards.specs.Board.{Board, has_notice}
use Rattle.change_boards.specs.Laws.{IsBelow}
use Rattle.change_boards.specs.declared.sort.Sort.{Sort}
use Rattle.change_boards.specs.declared.sort.Sort.TheVariants.{Source, Protect}
use Rattle.change_boards.specs.declared.value.Value.{Value}
use Rattle.plant_core.specs.StateText.{four, two, four_or_none, two_or_none, bit, texts_of, spot_text, entry_text, group_text, notices_of, panel_text, display_text}
use Rattle.plant_core.proofs.TextLengths.{same_parts, texts_same, number_long, entry_long}

-- numbers
four_same : (one other : ℕ) → one < 2 ^ 32 → other < 2 ^ 32 → four one ≡ four other → one ≡ other
four_same one other fits fits_too same = sym (from_le_bytes-to_le_bytes_4 one fits) ∙ ap (from_le_bytes w32) same ∙ from_le_bytes-to_le_bytes_4 other fits_too

two_same : (one other : ℕ) → one < 2 ^ 16 → other < 2 ^ 16 → two one ≡ two other → one ≡ other
two_same one other fits fits_too same = sym (from_le_bytes-to_le_bytes_2 one fits) ∙ ap (from_le_bytes w16) same ∙ from_le_bytes-to_le_bytes_2 other fits_too

abbrev pub IsSmall : Option ℕ → Type 0
IsSmall number = IfSome number (λ number. number < 4294967295)

number_same : (one other : Option ℕ) → IsSmall one → IsSmall other → four_or_none one ≡ four_or_none other → one ≡ other
number_same None None small small_too same = refl
number_same None (Some other) small small_too same =
    let is : 4294967295 ≡ other = four_same 4294967295 other (omega arith) (omega arith) same in
    absurd (omega arith)
number_same (Some one) None small small_too same =
    let is : one ≡ 4294967295 = four_same one 4294967295 (omega arith) (omega arith) same in
    absurd (omega arith)
number_same (Some one) (Some other) small small_too same = ap Some (four_same one other (omega arith) (omega arith) same)

pub device_same : (one other : Option ℕ) → IfSome one (λ device. device < 65535) → IfSome other (λ device. device < 65535) → two_or_none one ≡ two_or_none other → one ≡ other
device_same None None small small_too same = refl
device_same None (Some other) small small_too same =
    let is : 65535 ≡ other = two_same 65535 other (omega arith) (omega arith) same in
    absurd (omega arith)
device_same (Some one) None small small_too same =
    let is : one ≡ 65535 = two_same one 65535 (omega arith) (omega arith) same in
    absurd (omega arith)
device_same (Some one) (Some other) small small_too same = ap Some (two_same one other (omega arith) (omega arith) same)

-- what a destination carries
abbrev pub source_told : Option Spot → Option ℕ
source_told spot = option_map (λ (spot : Spot). spot.source) spot

abbrev pub tie_told : Option Spot → Option ℕ
tie_told spot = option_and_then (λ (spot : Spot). spot.tie) spot

spot_parts : (spot : Option Spot) → spot_text spot ≡ four_or_none (source_told spot) ++ four_or_none (tie_told spot)
spot_parts None = refl
spot_parts (Some spot) = refl

fields_same : (one other : Spot) → one.source ≡ other.source → one.tie ≡ other.tie → one ≡ other
fields_same one other sources ties =
    ap (λ (source : ℕ). let spot : Spot = record { source = source; tie = one.tie } in spot) sources
    ∙ ap (λ (tie : Option ℕ). let spot : Spot = record { source = other.source; tie = tie } in spot) ties

told_same : (one other : Option Spot) → source_told one ≡ source_told other → tie_told one ≡ tie_told other → one ≡ other
told_same None None sources ties = refl
told_same None (Some other) sources ties = (cc)
told_same (Some one) None sources ties = (cc)
told_same (Some one) (Some other) sources ties = let source : one.source ≡ other.source = (cc) in ap Some (fields_same one other source ties)

pub spot_same : (one other : Option Spot) → IsSmall (source_told one) → IsSmall (tie_told one) → IsSmall (source_told other) → IsSmall (tie_told other) → spot_text one ≡ spot_text other → one ≡ other
spot_same one other source tie source_too tie_too same =
    let parts = same_parts (four_or_none (source_told one)) (four_or_none (tie_told one)) (four_or_none (source_told other)) (four_or_none (tie_told other))
    (number_long (source_told one) ∙ sym (number_long (source_told other)))
    (sym (spot_parts one) ∙ same ∙ spot_parts other) in
    told_same one other (number_same (source_told one) (source_told other) source source_too parts.0) (number_same (tie_told one) (tie_told other) tie tie_too parts.1)

-- a change, and a group of changes
changes_same : (one other : Change) → one.dest ≡ other.dest → one.source ≡ other.source → one ≡ other
changes_same one other dests sources =
    ap (λ (dest : ℕ). let change : Change = record { dest = dest; source = one.source } in change) dests
    ∙ ap (λ (source : Option ℕ). let change : Change = record { dest = other.dest; source = source } in change) sources

pub record IsSmallChange (change : Change) : Type 0 where
  pub dest : change.dest < 2 ^ 32
  pub source : IsSmall change.source

entry_same : (one other : Change) → IsSmallChange one → IsSmallChange other → entry_text (Some one) ≡ entry_text (Some other) → one ≡ other
entry_same one other small small_too same =
    let parts = same_parts (four one.dest) (four_or_none one.source) (four other.dest) (four_or_none other.source) refl same in
    changes_same one other (four_same one.dest other.dest small.dest small_too.dest parts.0) (number_same one.source other.source small.source small_too.source parts.1)

pub group_same : (one other : Group) → length one ≤ group_limit → length other ≤ group_limit → All IsSmallChange one → All IsSmallChange other → group_text one ≡ group_text other → one ≡ other
group_same one other few few_too small small_too same =
    let parts = same_parts (two (length one)) (texts_of group_limit (λ index. entry_text (slice_get one index))) (two (length other)) (texts_of group_limit (λ index. entry_text (slice_get other index))) refl same in
    let count : length one ≡ length other = two_same (length one) (length other) (omega arith) (omega arith) parts.0 in
    same_lists one other count each
  where
    each : (index : ℕ) (default : Change) → index < length one → get_or one index default ≡ get_or other index default
    each index default below =
        let parts = same_parts (two (length one)) (texts_of group_limit (λ index. entry_text (slice_get one index))) (two (length other)) (texts_of group_limit (λ index. entry_text (slice_get other index))) refl same in
        let count : length one ≡ length other = two_same (length one) (length other) (omega arith) (omega arith) parts.0 in
        let below_too : index < length other = omega arith in
        let texts : entry_text (slice_get one index) ≡ entry_text (slice_get other index) =
        texts_same group_limit 8 (λ index. entry_text (slice_get one index)) (λ index. entry_text (slice_get other index)) (λ index. entry_long (slice_get one index)) (λ index. entry_long (slice_get other index)) parts.1 index (omega arith) in
        entry_same (get_or one index default) (get_or other index default) (small index default below) (small_too index default below_too)
        (ap entry_text (sym (slice_get-get_or one index default below)) ∙ texts ∙ ap entry_text (slice_get-get_or other index default below_too))

-- a panel
bits_same : (one other : Bool) → bit one ≡ bit other → one ≡ other
bits_same true true same = refl
bits_same true false same = absurd (omega arith)
bits_same false true same = absurd (omega arith)
bits_same false false same = refl

two_bits : (one two other too : Bool) → bit one + 2 * bit two ≡ bit other + 2 * bit too → (one ≡ other) × (two ≡ too)
two_bits one two other too same =
    let low : bit one ≡ bit other = omega (arith, few one, few other) in
    let high : bit two ≡ bit too = omega (arith, few one, few other) in
    (bits_same one other low, bits_same two too high)
  where
    few : (is : Bool) → bit is ≤ 1
    few true = omega arith
    few false = omega arith

boards_same : (one other : Board) → one.source ≡ other.source → one.protect ≡ other.protect → one.left ≡ other.left → one ≡ other
boards_same one other sources protects left =
    ap (λ dests. let board : Board = record { source = dests; protect = one.protect; left = one.left } in board) sources
    ∙ ap (λ dests. let board : Board = record { source = other.source; protect = dests; left = one.left } in board) protects
    ∙ ap (λ is. let board : Board = record { source = other.source; protect = other.protect; left = is } in board) left

map_same : (from count : ℕ) (one two : ℕ → ℕ) → map one (range_with_len from count) ≡ map two (range_with_len from count) → (number : ℕ) → from ≤ number → number < from + count → one number ≡ two number
map_same from zero one two same number low high = absurd (omega arith)
map_same from (suc count) one two same number low high =
    let first : one from ≡ two from = ap (λ (list : List ℕ). get_or list 0 0) same in
    let rest : map one (range_with_len (from + 1) count) ≡ map two (range_with_len (from + 1) count) = ap (drop 1) same in
    elim (cases_eq number from) [
      | inl here ↦ ap one here ∙ first ∙ ap two (sym here)
      | inr other ↦ map_same (from + 1) count one two rest number (omega arith) (omega arith)
    ]

-- a display
values_same : (one other : Value) → one.source ≡ other.source → one.air ≡ other.air → one.preview ≡ other.preview → one ≡ other
values_same one other sources air preview =
    ap (λ (source : Option ℕ). let value : Value = record { source = source; air = one.air; preview = one.preview } in value) sources
    ∙ ap (λ (is : Bool). let value : Value = record { source = other.source; air = is; preview = one.preview } in value) air
    ∙ ap (λ (is : Bool). let value : Value = record { source = other.source; air = other.air; preview = is } in value) preview

differ : (one other : ℕ) → one ≡ other → one < other → ⊥
differ one other same less = omega arith

pub display_same : (one other : Option Value) → IfSome one (λ value. IsSmall value.source) → IfSome other (λ value. IsSmall value.source) → display_text one ≡ display_text other → one ≡ other
display_same None None small small_too same = refl
display_same None (Some other) small small_too same = absurd (differ 0 1 (ap (λ (list : List ℕ). get_or list 0 5) same) (omega arith))
display_same (Some one) None small small_too same = absurd (differ 0 1 (sym (ap (λ (list : List ℕ). get_or list 0 5) same)) (omega arith))
display_same (Some one) (Some other) small small_too same =
    let parts = same_parts (1 ∷ four_or_none one.source) (bit one.air ∷ bit one.preview ∷ []) (1 ∷ four_or_none other.source) (bit other.air ∷ bit other.preview ∷ [])
    (ap suc (number_long one.source ∙ sym (number_long other.source))) same in
    let sources : four_or_none one.source ≡ four_or_none other.source = ap (drop 1) parts.0 in
    let air : bit one.air ≡ bit other.air = ap (λ (list : List ℕ). get_or list 0 0) parts.1 in
    let preview : bit one.preview ≡ bit other.preview = ap (λ (list : List ℕ). get_or list 1 0) parts.1 in
    ap Some (values_same one other (number_same one.source other.source small small_too sources) (bits_same one.air other.air air) (bits_same one.preview other.preview preview))

pub board_same : (destinations : ℕ) (one other : Board) → IsBelow one destinations → IsBelow other destinations → panel_text destinations one ≡ panel_text destinations other → one ≡ other
board_same destinations one other below below_too same = boards_same one other sources protects left
  where
    left : one.left ≡ other.left
    left = bits_same one.left other.left (ap (λ (list : List ℕ). get_or list 0 0) same)

    notices : (dest : ℕ) → dest < destinations → (has_notice one dest Source ≡ has_notice other dest Source) × (has_notice one dest Protect ≡ has_notice other dest Protect)
    notices dest inside =
        two_bits (has_notice one dest Source) (has_notice one dest Protect) (has_notice other dest Source) (has_notice other dest Protect)
        (map_same 0 destinations (notices_of one) (notices_of other) (ap (drop 1) same) dest (omega arith) (omega arith))

    none : (board : Board) (dest : ℕ) (sort : Sort) → IsBelow board destinations → destinations ≤ dest → has_notice board dest sort ≡ false
    none board dest sort rule above = false_from_ne_true (has_notice board dest sort) (λ is. let low : dest < destinations = rule dest sort is in absurd (omega arith))

    sources : one.source ≡ other.source
    sources = same_set nat_cmp_total nat_cmp-IsAntisymmetric one.source other.source
        (λ dest. elim (cases_lt dest destinations) [
          | inl inside ↦ (notices dest inside).0
          | inr above ↦ none one dest Source below above ∙ sym (none other dest Source below_too above)
        ])

    protects : one.protect ≡ other.protect
    protects = same_set nat_cmp_total nat_cmp-IsAntisymmetric one.protect other.protect
        (λ dest. elim (cases_lt dest destinations) [
          | inl inside ↦ (notices dest inside).1
          | inr above ↦ none one dest Protect below above ∙ sym (none other dest Protect below_too above)
        ])
