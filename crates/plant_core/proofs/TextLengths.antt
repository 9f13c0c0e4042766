-- How long texts are, and texts that are one where their parts are.
use Rattle.std.proofs.Common.{◌≡◌, ℕ, ◌+◌, ◌*◌, ◌<◌, ◌≤◌, zero, suc, List, [], ◌∷◌, ◌++◌, length, map, take, drop, Option, Some, None, inl, inr, refl, sym, ap, ◌∙◌, arith}
use Rattle.std.proofs.lemmas.Bool.{cases_eq}
use Rattle.std.proofs.lemmas.List.{length-append, take_at, drop_at}
use Rattle.std.proofs.lemmas.List.FromFn.{length-map-range_with_len}
use Rattle.std.specs.Prelude.{slice_get}
use Rattle.std.specs.List.{flat_map, range_with_len}
use Rattle.std.specs.FinMap.{get}
use Rattle.plant_config.specs.declared.records.Change.{Change}
use Rattle.crosspoint_state.specs.declared.spot.Spot.{Spot}
use Rattle.crosspoint_state.specs.Crosspoints.{Crosspoints}
use Rattle.protects.specs.Owners.{Owners}
use Rattle.salvo_groups.specs.Limits.{group_limit}
use Rattle.salvo_groups.specs.Groups.{Group}
use Rattle.change_boards.specs.Board.{Board}
use Rattle.change_boards.specs.declared.value.Value.{Value}
use Rattle.plant_core.specs.StateText.{four, two, four_or_none, two_or_none, bit, texts_of, spot_text, dest_text, entry_text, group_text, notices_of, panel_text, display_text}

-- two lists that begin with as many
pub same_parts : (a b c d : List ℕ) → length a ≡ length c → a ++ b ≡ c ++ d → (a ≡ c) × (b ≡ d)
same_parts a b c d long same =
    let front : a ≡ c = sym (take_at a b (length a) refl) ∙ ap (take (length a)) same ∙ take_at c d (length a) (sym long) in
    let behind : b ≡ d = sym (drop_at a b (length a) refl) ∙ ap (drop (length a)) same ∙ drop_at c d (length a) (sym long) in
    (front, behind)

-- texts of one width are one where all of them are
some_same : (from count width : ℕ) (one two : ℕ → List ℕ) → ((number : ℕ) → length (one number) ≡ width) → ((number : ℕ) → length (two number) ≡ width) → flat_map one (range_with_len from count) ≡ flat_map two (range_with_len from count) →
    (number : ℕ) → from ≤ number → number < from + count → one number ≡ two number
some_same from zero width one two long long_too same number low high = absurd (omega arith)
some_same from (suc count) width one two long long_too same number low high =
    let parts = same_parts (one from) (flat_map one (range_with_len (from + 1) count)) (two from) (flat_map two (range_with_len (from + 1) count)) (long from ∙ sym (long_too from)) same in
    elim (cases_eq number from) [
      | inl here ↦ ap one here ∙ parts.0 ∙ ap two (sym here)
      | inr other ↦ some_same (from + 1) count width one two long long_too parts.1 number (omega arith) (omega arith)
    ]

pub texts_same : (count width : ℕ) (one two : ℕ → List ℕ) → ((number : ℕ) → length (one number) ≡ width) → ((number : ℕ) → length (two number) ≡ width) → texts_of count one ≡ texts_of count two → (number : ℕ) → number < count → one number ≡ two number
unfolding texts_of
texts_same count width one two long long_too same number below = some_same 0 count width one two long long_too same number (omega arith) (omega arith)

-- how long texts are
some_long : (from count width : ℕ) (text : ℕ → List ℕ) → ((number : ℕ) → length (text number) ≡ width) → length (flat_map text (range_with_len from count)) ≡ count * width
some_long from zero width text each = omega arith
some_long from (suc count) width text each =
    let front : length (text from) ≡ width = each from in
    let rest : length (flat_map text (range_with_len (from + 1) count)) ≡ count * width = some_long (from + 1) count width text each in
    let more : suc count * width ≡ width + count * width = omega arith in
    length-append (text from) (flat_map text (range_with_len (from + 1) count))
    ∙ ap (λ (long : ℕ). long + length (flat_map text (range_with_len (from + 1) count))) front
    ∙ ap (λ (long : ℕ). width + long) rest
    ∙ sym more

pub texts_long : (count width : ℕ) (text : ℕ → List ℕ) → ((number : ℕ) → length (text number) ≡ width) → length (texts_of count text) ≡ count * width
unfolding texts_of
texts_long count width text each = some_long 0 count width text each

pub number_long : (number : Option ℕ) → length (four_or_none number) ≡ 4
number_long None = refl
number_long (Some number) = refl

pub spot_long : (spot : Option Spot) → length (spot_text spot) ≡ 8
spot_long None = refl
spot_long (Some spot) = length-append (four spot.source) (four_or_none spot.tie) ∙ ap (λ (long : ℕ). 4 + long) (number_long spot.tie)

device_long : (device : Option ℕ) → length (two_or_none device) ≡ 2
device_long None = refl
device_long (Some device) = refl

pub dest_long : (points : Crosspoints) (owners : Owners) (dest : ℕ) → length (dest_text points owners dest) ≡ 10
dest_long points owners dest =
    length-append (spot_text (get points dest)) (two_or_none (get owners dest))
    ∙ ap (λ (long : ℕ). long + length (two_or_none (get owners dest))) (spot_long (get points dest))
    ∙ ap (λ (long : ℕ). 8 + long) (device_long (get owners dest))

pub entry_long : (entry : Option Change) → length (entry_text entry) ≡ 8
entry_long None = refl
entry_long (Some change) = length-append (four change.dest) (four_or_none change.source) ∙ ap (λ (long : ℕ). 4 + long) (number_long change.source)

pub group_long : (group : Group) → length (group_text group) ≡ 2 + 8 * group_limit
group_long group =
    length-append (two (length group)) (texts_of group_limit (λ index. entry_text (slice_get group index)))
    ∙ ap (λ (long : ℕ). 2 + long) (texts_long group_limit 8 (λ index. entry_text (slice_get group index)) (λ index. entry_long (slice_get group index)))

pub panel_long : (destinations : ℕ) (board : Board) → length (panel_text destinations board) ≡ 1 + destinations
panel_long destinations board =
    let each : length (map (notices_of board) (range_with_len 0 destinations)) ≡ destinations = length-map-range_with_len (notices_of board) 0 destinations in
    ap suc each ∙ omega arith

pub display_long : (value : Option Value) → length (display_text value) ≡ 7
display_long None = refl
display_long (Some value) =
    length-append (1 ∷ four_or_none value.source) (bit value.air ∷ bit value.preview ∷ [])
    ∙ ap (λ (long : ℕ). suc long + 2) (number_long value.source)

-- five parts of two texts
long_both : (a b c d : List ℕ) → length a ≡ length c → length b ≡ length d → length (a ++ b) ≡ length (c ++ d)
long_both a b c d front behind = length-append a b ∙ ap (λ (long : ℕ). long + length b) front ∙ ap (λ (long : ℕ). length c + long) behind ∙ sym (length-append c d)

pub record SameFive (a b c d e f g h i j : List ℕ) : Type 0 where
  pub first : a ≡ f
  pub second : b ≡ g
  pub third : c ≡ h
  pub fourth : d ≡ i
  pub fifth : e ≡ j

pub five_same : (a b c d e f g h i j : List ℕ) → length a ≡ length f → length b ≡ length g → length c ≡ length h → length d ≡ length i → a ++ b ++ c ++ d ++ e ≡ f ++ g ++ h ++ i ++ j → SameFive a b c d e f g h i j
five_same a b c d e f g h i j long second third fourth same =
    let to_two = long_both a b f g long second in
    let to_three = long_both (a ++ b) c (f ++ g) h to_two third in
    let last = same_parts (a ++ b ++ c ++ d) e (f ++ g ++ h ++ i) j (long_both (a ++ b ++ c) d (f ++ g ++ h) i to_three fourth) same in
    let before = same_parts (a ++ b ++ c) d (f ++ g ++ h) i to_three last.0 in
    let front = same_parts (a ++ b) c (f ++ g) h to_two before.0 in
    let begin = same_parts a b f g long front.0 in
    record { first = begin.0; second = begin.1; third = front.1; fourth = before.1; fifth = last.1 }
