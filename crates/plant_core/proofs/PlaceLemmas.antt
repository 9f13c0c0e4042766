-- The notices that a panel has of 64 destinations are read.
use Rattle.std.proofs.Common.{◌≡◌, ◌≢◌, ℕ, ◌+◌, ◌*◌, ◌/◌, ◌%◌, ◌<◌, ◌≤◌, true, false, List, length, None, inl, inr, ap, sym, subst, ◌∙◌, arith}
use Rattle.std.proofs.lemmas.Bool.{cases_eq, cases_lt, both_ways}
use Rattle.std.specs.Int.{bit_at}
use Rattle.std.specs.FinSet.{contains}
use Rattle.plant_config.specs.Plant.{PlantData, destinations_of}
use Rattle.change_boards.specs.declared.sort.Sort.{Sort}
use Rattle.change_boards.specs.declared.sort.Sort.TheVariants.{Source, Protect}
use Rattle.change_boards.specs.Destinations.{Destinations, HasBitsOf}
use Rattle.change_boards.specs.Board.{Board, IsEmpty, has_notice}
use Rattle.change_boards.specs.Notices.{board_of, has_left}
use Rattle.change_boards.specs.Words.{HasNone, PutsWord}
use Rattle.change_boards.specs.Laws.{AreBoards}
use Rattle.plant_core.specs.StateText.{notices_of}
use Rattle.plant_core.specs.StateFields.{byte_at, place_of_panel, place_of_notices}
use Rattle.plant_core.specs.StateFault.{first_fault}
use Rattle.plant_core.specs.ReadParts.{IsReadTo, SameBoardsBut}
use Rattle.plant_core.specs.MarksInside.{HasMarks}
use Rattle.plant_core.proofs.HoldLemmas.{notices_held}
use Rattle.plant_core.proofs.NoticeTextLemmas.{notices_told}
use Rattle.plant_core.proofs.PanelPartLemmas.{notices_same, none_there, most_few}

source_other : Source ≢ Protect
source_other e = absurd (cc)

protect_other : Protect ≢ Source
protect_other e = absurd (cc)

-- a board that is read up to a destination has no notice of those above
none_above : (plant : PlantData) (bytes : List ℕ) (panel count dest : ℕ) (board : Board) (sort : Sort) → IsReadTo plant bytes panel board count → count ≤ dest → has_notice board dest sort ≡ false
none_above plant bytes panel count dest board Source read above = (none_there board dest (read.above dest above)).0
none_above plant bytes panel count dest board Protect read above = (none_there board dest (read.above dest above)).1

pub none_yet : (plant : PlantData) (bytes : List ℕ) (panel place : ℕ) (boards : List Board) (sort : Sort) → IsReadTo plant bytes panel (board_of boards panel) (64 * place) → HasNone boards panel place sort
none_yet plant bytes panel place boards sort read dest there = none_above plant bytes panel (64 * place) dest (board_of boards panel) sort read (omega (arith, there))

-- the source notices were put before the protect notices
pub none_still : (plant : PlantData) (bytes : List ℕ) (panel place word : ℕ) (old mid : List Board) → IsReadTo plant bytes panel (board_of old panel) (64 * place) → PutsWord old mid panel place Source word → HasNone mid panel place Protect
none_still plant bytes panel place word old mid read puts dest there =
    ap (λ (dests : Destinations). contains dests dest) (puts.sorts Protect protect_other) ∙ none_yet plant bytes panel place old Protect read dest there

-- Words were put of both sorts.
record PutBoth (plant : PlantData) (bytes : List ℕ) (panel place source protect : ℕ) (old mid new : List Board) : Type 0 where
  pub first : PutsWord old mid panel place Source source
  pub second : PutsWord mid new panel place Protect protect
  pub sources : HasMarks bytes (place_of_panel plant panel + 1 + 64 * place) Source 64 source
  pub protects : HasMarks bytes (place_of_panel plant panel + 1 + 64 * place) Protect 64 protect

here_read : (plant : PlantData) (bytes : List ℕ) (panel place source protect : ℕ) (old mid new : List Board) → PutBoth plant bytes panel place source protect old mid new → (dest : ℕ) → dest / 64 ≡ place → byte_at bytes (place_of_notices plant panel dest) ≤ 3 →
    notices_of (board_of new panel) dest ≡ byte_at bytes (place_of_notices plant panel dest)
here_read plant bytes panel place source protect old mid new put dest there few =
    let at : ℕ = dest % 64 in
    let parts : 64 * place + at ≡ dest = omega (arith, there) in
    let stands : place_of_panel plant panel + 1 + 64 * place + at ≡ place_of_notices plant panel dest = omega (arith, parts) in
    let has_sources : HasBitsOf (board_of new panel).source place source = subst (λ (dests : Destinations). HasBitsOf dests place source) (sym (put.second.sorts Source source_other)) put.first.bits in
    let byte : ℕ = byte_at bytes (place_of_panel plant panel + 1 + 64 * place + at) in
    let is : byte ≡ byte_at bytes (place_of_notices plant panel dest) = ap (byte_at bytes) stands in
    let low : bit_at byte 0 + 2 * bit_at byte 1 ≡ byte = omega (arith, is, few) in
    ap (notices_of (board_of new panel)) (sym parts)
    ∙ sym (notices_told (board_of new panel) place source protect at has_sources put.second.bits (omega arith))
    ∙ omega (arith, put.sources at (omega arith), put.protects at (omega arith), low, is)

other_kept : (plant : PlantData) (bytes : List ℕ) (panel place source protect : ℕ) (old mid new : List Board) → PutBoth plant bytes panel place source protect old mid new → (dest : ℕ) → dest / 64 ≢ place → notices_of (board_of new panel) dest ≡ notices_of (board_of old panel) dest
other_kept plant bytes panel place source protect old mid new put dest other =
    notices_same (board_of old panel) (board_of new panel) dest
    (ap (λ (dests : Destinations). contains dests dest) (put.second.sorts Source source_other) ∙ put.first.others dest other)
    (put.second.others dest other ∙ ap (λ (dests : Destinations). contains dests dest) (put.first.sorts Protect protect_other))

both_read : (plant : PlantData) (bytes : List ℕ) (panel place source protect : ℕ) (old mid new : List Board) → PutBoth plant bytes panel place source protect old mid new → IsReadTo plant bytes panel (board_of old panel) (64 * place) →
    ((dest : ℕ) → dest < 64 * place + 64 → byte_at bytes (place_of_notices plant panel dest) ≤ 3) → IsReadTo plant bytes panel (board_of new panel) (64 * place + 64)
both_read plant bytes panel place source protect old mid new put read few = record {
  left = put.second.left ∙ put.first.left ∙ read.left;
  below = λ dest below. elim (cases_eq (dest / 64) place) [
    | inl here ↦ here_read plant bytes panel place source protect old mid new put dest here (few dest below)
    | inr other ↦ other_kept plant bytes panel place source protect old mid new put dest other ∙ read.below dest (omega (arith, below, other))
  ];
  above = λ dest above. other_kept plant bytes panel place source protect old mid new put dest (λ e. omega (arith, above, e)) ∙ read.above dest (omega (arith, above));
}

-- the board of a panel after both words were put
pub place_read : (plant : PlantData) (bytes : List ℕ) (panel place first source protect : ℕ) (old mid new : List Board) → first_fault plant bytes ≡ None → panel < length plant.panels → 64 * place + 64 ≤ destinations_of plant → first ≡ place_of_panel plant panel + 1 + 64 * place →
    HasMarks bytes first Source 64 source → HasMarks bytes first Protect 64 protect → PutsWord old mid panel place Source source → PutsWord mid new panel place Protect protect → IsReadTo plant bytes panel (board_of old panel) (64 * place) → IsReadTo plant bytes panel (board_of new panel) (64 * place + 64)
place_read plant bytes panel place first source protect old mid new none inside within at sources protects one two read =
    both_read plant bytes panel place source protect old mid new
    (record {
      first = one;
      second = two;
      sources = subst (λ (from : ℕ). HasMarks bytes from Source 64 source) at sources;
      protects = subst (λ (from : ℕ). HasMarks bytes from Protect 64 protect) at protects;
    })
    read (λ dest below. omega (arith, notices_held plant bytes panel dest inside (omega (arith, below, within)) none, most_few plant bytes panel dest))

-- boards of which one is read up to a destination that the plant has
read_below : (plant : PlantData) (bytes : List ℕ) (panel count : ℕ) (board : Board) → count ≤ destinations_of plant → IsReadTo plant bytes panel board count → (dest : ℕ) (sort : Sort) → has_notice board dest sort ≡ true → dest < destinations_of plant
read_below plant bytes panel count board few read dest sort is = elim (cases_lt dest (destinations_of plant)) [
  | inl below ↦ below
  | inr above ↦ absurd (both_ways (has_notice board dest sort) (none_above plant bytes panel count dest board sort read (omega (arith, few, above))) is)
]

pub boards_read : (plant : PlantData) (bytes : List ℕ) (panel count : ℕ) (old new : List Board) → count ≤ destinations_of plant → length new ≡ length old → SameBoardsBut old new panel → IsReadTo plant bytes panel (board_of new panel) count → AreBoards old (length plant.panels) (destinations_of plant) → AreBoards new (length plant.panels) (destinations_of plant)
boards_read plant bytes panel count old new few same others read are = record {
  count = same ∙ are.count;
  below = λ p. elim (cases_eq p panel) [
    | inl here ↦ subst (λ (at : ℕ). (dest : ℕ) (sort : Sort) → has_notice (board_of new at) dest sort ≡ true → dest < destinations_of plant) (sym here) (read_below plant bytes panel count (board_of new panel) few read)
    | inr other ↦ subst (λ (b : Board). (dest : ℕ) (sort : Sort) → has_notice b dest sort ≡ true → dest < destinations_of plant) (sym (others p other)) (are.below p)
  ];
  left = λ p left. elim (cases_eq p panel) [
    | inl here ↦ absurd (both_ways (has_left new p) (ap (has_left new) here ∙ read.left) left)
    | inr other ↦ subst IsEmpty (sym (others p other)) (are.left p (sym (ap (λ (b : Board). b.left) (others p other)) ∙ left))
  ];
}
