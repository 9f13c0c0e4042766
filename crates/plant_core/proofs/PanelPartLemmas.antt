-- The boards that a text tells, destination by destination and panel by panel.
use Rattle.std.proofs.Common.{◌≡◌, ◌≢◌, ℕ, ◌+◌, ◌*◌, ◌<◌, ◌≤◌, ◌==◌, nat_lt, ◌||◌, zero, suc, Bool, true, false, if◌then◌else◌, List, [], ◌∷◌, ◌++◌, length, map, None, inl, inr, refl, ap, sym, subst, ◌∙◌, arith, eq-eqb}
use Rattle.std.proofs.lemmas.Bool.{cases_eq, cases_lt, both_ways}
use Rattle.std.proofs.lemmas.List.{get_or_past, length-set}
use Rattle.std.proofs.lemmas.List.FromFn.{map-range_with_len_more}
use Rattle.std.specs.Ordering.{nat_cmp}
use Rattle.std.specs.FinSet.{contains-empty, insert}
use Rattle.std.specs.List.{range_with_len}
use Rattle.plant_config.specs.Plant.{PlantData, destinations_of}
use Rattle.change_boards.specs.Board.{Board, blank, abandoned, dests_of, has_notice, marked}
use Rattle.change_boards.specs.Notices.{board_of, has, with_mark, with_leave}
use Rattle.change_boards.specs.Laws.{AreBoards}
use Rattle.change_boards.specs.declared.sort.Sort.{Sort}
use Rattle.change_boards.specs.declared.sort.Sort.TheVariants.{Source, Protect}
use Rattle.change_boards.proofs.OneNotice.{given, given_other, same_left, board_same, board_other, marked_open}
use Rattle.change_boards.proofs.StayBoards.{AreBoards-mark}
use Rattle.plant_core.specs.Short.{IsShortDest}
use Rattle.plant_core.specs.StateText.{bit, notices_of, panel_text}
use Rattle.plant_core.specs.StateFields.{byte_at, place_of_panel, place_of_notices}
use Rattle.plant_core.specs.StateFault.{has_short_number, most_notices, first_fault}
use Rattle.plant_core.specs.ReadInside.{part, AreBoardsIn}
use Rattle.plant_core.specs.ReadParts.{IsBoardIn, IsReadTo, SameBoardsBut, with_marks_by}
use Rattle.plant_core.proofs.HoldLemmas.{left_held, notices_held}
use Rattle.plant_core.proofs.LevelLemmas.{short_dest}
use Rattle.plant_core.proofs.StateTextLemmas.{room_for_one}
use Rattle.plant_core.proofs.PartLemmas.{part_none, part_byte, part_behind, part_texts, parts_join}

-- one board

marked_stays : (board : Board) (dest : ℕ) (sort : Sort) → board.left ≡ false → (marked board dest sort).left ≡ false
marked_stays board dest sort stays =
    ap (λ (b : Board). b.left) (marked_open board dest sort stays) ∙ same_left board sort (insert (dests_of board sort) dest) ∙ stays

marked_has : (board : Board) (dest : ℕ) (sort : Sort) → board.left ≡ false → has_notice (marked board dest sort) dest sort ≡ true
marked_has board dest sort stays = ap (λ (b : Board). has_notice b dest sort) (marked_open board dest sort stays) ∙ given board dest sort

marked_same : (board : Board) (dest : ℕ) (sort : Sort) (d : ℕ) (s : Sort) → board.left ≡ false → (let notice : ℕ × Sort = (d, s) in notice ≢ (dest, sort)) → has_notice (marked board dest sort) d s ≡ has_notice board d s
marked_same board dest sort d s stays other = ap (λ (b : Board). has_notice b d s) (marked_open board dest sort stays) ∙ given_other board dest sort d s other

-- Of one destination a board has the notices of a byte, and of the others those of before.
record Marks (old new : Board) (dest byte : ℕ) : Type 0 where
  pub left : new.left ≡ false
  pub here : notices_of new dest ≡ byte
  pub others : (d : ℕ) → d ≢ dest → notices_of new d ≡ notices_of old d

pub notices_same : (old new : Board) (d : ℕ) → has_notice new d Source ≡ has_notice old d Source → has_notice new d Protect ≡ has_notice old d Protect → notices_of new d ≡ notices_of old d
notices_same old new d source protect =
    ap (λ (is : Bool). bit is + 2 * bit (has_notice new d Protect)) source ∙ ap (λ (is : Bool). bit (has_notice old d Source) + 2 * bit is) protect

notices_are : (board : Board) (d : ℕ) (s p : Bool) → has_notice board d Source ≡ s → has_notice board d Protect ≡ p → notices_of board d ≡ bit s + 2 * bit p
notices_are board d s p source protect =
    ap (λ (is : Bool). bit is + 2 * bit (has_notice board d Protect)) source ∙ ap (λ (is : Bool). bit s + 2 * bit is) protect

zero_by : (source protect : Bool) → bit source + 2 * bit protect ≡ 0 → (source ≡ false) × (protect ≡ false)
zero_by false false is = (refl, refl)
zero_by true false is = absurd (omega (arith, is))
zero_by false true is = absurd (omega (arith, is))
zero_by true true is = absurd (omega (arith, is))

pub none_there : (board : Board) (d : ℕ) → notices_of board d ≡ 0 → (has_notice board d Source ≡ false) × (has_notice board d Protect ≡ false)
none_there board d none = zero_by (has_notice board d Source) (has_notice board d Protect) none

other_dest : (d dest : ℕ) (s sort : Sort) → d ≢ dest → (let notice : ℕ × Sort = (d, s) in notice ≢ (dest, sort))
other_dest d dest s sort other = λ e. other (λ i. (e i).0)

other_sort : (dest : ℕ) → (let notice : ℕ × Sort = (dest, Protect) in notice ≢ (dest, Source))
other_sort dest = λ e. let same : Protect ≡ Source = λ i. (e i).1 in absurd (cc)

other_sort_too : (dest : ℕ) → (let notice : ℕ × Sort = (dest, Source) in notice ≢ (dest, Protect))
other_sort_too dest = λ e. let same : Source ≡ Protect = λ i. (e i).1 in absurd (cc)

one_mark : (board : Board) (dest : ℕ) (sort : Sort) (d : ℕ) → board.left ≡ false → d ≢ dest → notices_of (marked board dest sort) d ≡ notices_of board d
one_mark board dest sort d stays other =
    notices_same board (marked board dest sort) d
    (marked_same board dest sort d Source stays (other_dest d dest Source sort other))
    (marked_same board dest sort d Protect stays (other_dest d dest Protect sort other))

marks_source : (board : Board) (dest : ℕ) → board.left ≡ false → notices_of board dest ≡ 0 → Marks board (marked board dest Source) dest 1
marks_source board dest stays none = record {
  left = marked_stays board dest Source stays;
  here =
      notices_are (marked board dest Source) dest true false (marked_has board dest Source stays)
      (marked_same board dest Source dest Protect stays (other_sort dest) ∙ (none_there board dest none).1);
  others = λ d other. one_mark board dest Source d stays other;
}

marks_protect : (board : Board) (dest : ℕ) → board.left ≡ false → notices_of board dest ≡ 0 → Marks board (marked board dest Protect) dest 2
marks_protect board dest stays none = record {
  left = marked_stays board dest Protect stays;
  here =
      notices_are (marked board dest Protect) dest false true
      (marked_same board dest Protect dest Source stays (other_sort_too dest) ∙ (none_there board dest none).0) (marked_has board dest Protect stays);
  others = λ d other. one_mark board dest Protect d stays other;
}

marks_both : (board : Board) (dest : ℕ) → board.left ≡ false → notices_of board dest ≡ 0 → Marks board (marked (marked board dest Source) dest Protect) dest 3
marks_both board dest stays none =
    let first : Board = marked board dest Source in
    let stays_too : first.left ≡ false = marked_stays board dest Source stays in
    record {
      left = marked_stays first dest Protect stays_too;
      here =
          notices_are (marked first dest Protect) dest true true
          (marked_same first dest Protect dest Source stays_too (other_sort_too dest) ∙ marked_has board dest Source stays)
          (marked_has first dest Protect stays_too);
      others = λ d other. one_mark first dest Protect d stays_too other ∙ one_mark board dest Source d stays other;
    }

source_by : Board → ℕ → ℕ → Board
source_by board dest byte = if byte == 1 || byte == 3 then marked board dest Source else board

marked_by : Board → ℕ → ℕ → Board
marked_by board dest byte = if nat_lt 1 byte then marked (source_by board dest byte) dest Protect else source_by board dest byte

marks_by : (board : Board) (dest byte : ℕ) → board.left ≡ false → notices_of board dest ≡ 0 → byte ≤ 3 → Marks board (marked_by board dest byte) dest byte
unfolding marked_by source_by
marks_by board dest zero stays none few = record { left = stays; here = none; others = λ d other. refl }
marks_by board dest (suc zero) stays none few = marks_source board dest stays none
marks_by board dest (suc (suc zero)) stays none few = marks_protect board dest stays none
marks_by board dest (suc (suc (suc zero))) stays none few = marks_both board dest stays none
marks_by board dest (suc (suc (suc (suc byte)))) stays none few = absurd (omega (arith, few))

-- all boards

mark_same : (boards : List Board) (panel dest : ℕ) (sort : Sort) → panel < length boards → board_of (with_mark boards panel dest sort) panel ≡ marked (board_of boards panel) dest sort
mark_same boards panel dest sort within = board_same boards panel (marked (board_of boards panel) dest sort) within

length-mark : (boards : List Board) (panel dest : ℕ) (sort : Sort) → length (with_mark boards panel dest sort) ≡ length boards
length-mark boards panel dest sort = length-set boards panel (marked (board_of boards panel) dest sort)

here_by : (boards : List Board) (panel dest : ℕ) (source protect : Bool) → panel < length boards →
    board_of (if protect then with_mark (if source then with_mark boards panel dest Source else boards) panel dest Protect else (if source then with_mark boards panel dest Source else boards)) panel
    ≡ (if protect then marked (if source then marked (board_of boards panel) dest Source else board_of boards panel) dest Protect else (if source then marked (board_of boards panel) dest Source else board_of boards panel))
here_by boards panel dest true true within =
    mark_same (with_mark boards panel dest Source) panel dest Protect (omega (arith, within, length-mark boards panel dest Source))
    ∙ ap (λ (b : Board). marked b dest Protect) (mark_same boards panel dest Source within)
here_by boards panel dest false true within = mark_same boards panel dest Protect within
here_by boards panel dest true false within = mark_same boards panel dest Source within
here_by boards panel dest false false within = refl

marked_here : (boards : List Board) (panel dest byte : ℕ) → panel < length boards → board_of (with_marks_by boards panel dest byte) panel ≡ marked_by (board_of boards panel) dest byte
unfolding marked_by source_by
marked_here boards panel dest byte within = here_by boards panel dest (byte == 1 || byte == 3) (nat_lt 1 byte) within

mark_other : (boards : List Board) (panel dest : ℕ) (sort : Sort) → SameBoardsBut boards (with_mark boards panel dest sort) panel
mark_other boards panel dest sort p other = board_other boards panel p (marked (board_of boards panel) dest sort) other

other_by : (boards : List Board) (panel dest : ℕ) (source protect : Bool) →
    SameBoardsBut boards (if protect then with_mark (if source then with_mark boards panel dest Source else boards) panel dest Protect else (if source then with_mark boards panel dest Source else boards)) panel
other_by boards panel dest true true p other = mark_other (with_mark boards panel dest Source) panel dest Protect p other ∙ mark_other boards panel dest Source p other
other_by boards panel dest false true p other = mark_other boards panel dest Protect p other
other_by boards panel dest true false p other = mark_other boards panel dest Source p other
other_by boards panel dest false false p other = refl

pub others_marked : (old boards : List Board) (panel dest byte : ℕ) → SameBoardsBut old boards panel → SameBoardsBut old (with_marks_by boards panel dest byte) panel
others_marked old boards panel dest byte same p other = other_by boards panel dest (byte == 1 || byte == 3) (nat_lt 1 byte) p other ∙ same p other

are_by : (boards : List Board) (panels destinations panel dest : ℕ) (source protect : Bool) → dest < destinations → AreBoards boards panels destinations →
    AreBoards (if protect then with_mark (if source then with_mark boards panel dest Source else boards) panel dest Protect else (if source then with_mark boards panel dest Source else boards)) panels destinations
are_by boards panels destinations panel dest true true below are =
    AreBoards-mark (with_mark boards panel dest Source) panels destinations panel dest Protect below (AreBoards-mark boards panels destinations panel dest Source below are)
are_by boards panels destinations panel dest false true below are = AreBoards-mark boards panels destinations panel dest Protect below are
are_by boards panels destinations panel dest true false below are = AreBoards-mark boards panels destinations panel dest Source below are
are_by boards panels destinations panel dest false false below are = are

pub are_marked : (boards : List Board) (panels destinations panel dest byte : ℕ) → dest < destinations → AreBoards boards panels destinations → AreBoards (with_marks_by boards panel dest byte) panels destinations
are_marked boards panels destinations panel dest byte below are = are_by boards panels destinations panel dest (byte == 1 || byte == 3) (nat_lt 1 byte) below are

blank_has : (dest : ℕ) → notices_of blank dest ≡ 0
blank_has dest = notices_are blank dest false false (contains-empty nat_cmp dest) (contains-empty nat_cmp dest)

pub read_none : (plant : PlantData) (bytes : List ℕ) (panel : ℕ) (board : Board) → board ≡ blank → IsReadTo plant bytes panel board 0
read_none plant bytes panel board is = record {
  left = ap (λ (b : Board). b.left) is;
  below = λ dest below. absurd (omega (arith, below));
  above = λ dest above. ap (λ (b : Board). notices_of b dest) is ∙ blank_has dest;
}

step_below : (plant : PlantData) (bytes : List ℕ) (panel dest : ℕ) (old new : Board) → IsReadTo plant bytes panel old dest → Marks old new dest (byte_at bytes (place_of_notices plant panel dest)) → (d : ℕ) → d < dest + 1 → notices_of new d ≡ byte_at bytes (place_of_notices plant panel d)
step_below plant bytes panel dest old new read marks d below = elim (cases_eq d dest) [
  | inl here ↦ ap (λ (at : ℕ). notices_of new at) here ∙ marks.here ∙ sym (ap (λ (at : ℕ). byte_at bytes (place_of_notices plant panel at)) here)
  | inr other ↦ marks.others d other ∙ read.below d (omega (arith, below, other))
]

step_read : (plant : PlantData) (bytes : List ℕ) (panel dest : ℕ) (old new : Board) → IsReadTo plant bytes panel old dest → Marks old new dest (byte_at bytes (place_of_notices plant panel dest)) → IsReadTo plant bytes panel new (dest + 1)
step_read plant bytes panel dest old new read marks = record {
  left = marks.left;
  below = step_below plant bytes panel dest old new read marks;
  above = λ d above. marks.others d (λ e. omega (arith, above, e)) ∙ read.above d (omega (arith, above));
}

few_notices : (left short : Bool) → (if left then 0 else if short then 3 else 1) ≤ 3
few_notices true short = omega arith
few_notices false true = omega arith
few_notices false false = omega arith

pub most_few : (plant : PlantData) (bytes : List ℕ) (panel dest : ℕ) → most_notices plant bytes panel dest ≤ 3
unfolding most_notices
most_few plant bytes panel dest = few_notices (byte_at bytes (place_of_panel plant panel) == 1) (has_short_number plant dest)

-- one destination more
pub read_more : (plant : PlantData) (bytes : List ℕ) (boards : List Board) (panel dest byte : ℕ) → first_fault plant bytes ≡ None → panel < length plant.panels → panel < length boards → dest < destinations_of plant → byte ≡ byte_at bytes (place_of_notices plant panel dest) →
    IsReadTo plant bytes panel (board_of boards panel) dest → IsReadTo plant bytes panel (board_of (with_marks_by boards panel dest byte) panel) (dest + 1)
read_more plant bytes boards panel dest byte none inside within below is read =
    let board : Board = board_of boards panel in
    let few : byte ≤ 3 = omega (arith, is, notices_held plant bytes panel dest inside below none, most_few plant bytes panel dest) in
    let marks : Marks board (marked_by board dest byte) dest byte = marks_by board dest byte read.left (read.above dest (omega arith)) few in
    subst (λ (new : Board). IsReadTo plant bytes panel new (dest + 1)) (sym (marked_here boards panel dest byte within))
    (step_read plant bytes panel dest board (marked_by board dest byte) read (subst (Marks board (marked_by board dest byte) dest) is marks))

-- a board that is read whole, of a panel that hasn't left
pub read_whole : (plant : PlantData) (bytes : List ℕ) (panel count : ℕ) (board : Board) → first_fault plant bytes ≡ None → panel < length plant.panels → byte_at bytes (place_of_panel plant panel) ≢ 1 → destinations_of plant ≤ count → IsReadTo plant bytes panel board count → IsBoardIn plant bytes panel board
read_whole plant bytes panel count board none inside stays all read =
    let zero_is : 0 ≡ byte_at bytes (place_of_panel plant panel) = omega (arith, stays, left_held plant bytes panel inside none) in
    record {
      left = ap bit read.left ∙ zero_is;
      notices = λ dest below. read.below dest (omega (arith, all, below));
    }

most_none : (plant : PlantData) (bytes : List ℕ) (panel dest : ℕ) → byte_at bytes (place_of_panel plant panel) ≡ 1 → most_notices plant bytes panel dest ≡ 0
unfolding most_notices
most_none plant bytes panel dest left = rw (eq-eqb (byte_at bytes (place_of_panel plant panel)) 1 left) refl

-- the board of a panel that has left
pub read_left : (plant : PlantData) (bytes : List ℕ) (boards : List Board) (panel : ℕ) → first_fault plant bytes ≡ None → panel < length plant.panels → panel < length boards → byte_at bytes (place_of_panel plant panel) ≡ 1 → IsBoardIn plant bytes panel (board_of (with_leave boards panel) panel)
read_left plant bytes boards panel none inside within left =
    subst (IsBoardIn plant bytes panel) (sym (board_same boards panel abandoned within)) (record {
      left = sym left;
      notices = λ dest below.
          let zero_is : 0 ≡ byte_at bytes (place_of_notices plant panel dest) = omega (arith, notices_held plant bytes panel dest inside below none, most_none plant bytes panel dest left) in
          notices_are abandoned dest false false (contains-empty nat_cmp dest) (contains-empty nat_cmp dest) ∙ zero_is;
    })

-- the part of a panel

row_below : (bytes : List ℕ) (start all count : ℕ) (byte : ℕ → ℕ) → count ≤ all → start + all ≤ length bytes → ((number : ℕ) → number < all → byte number ≡ byte_at bytes (start + number)) → map byte (range_with_len 0 count) ≡ part bytes start count
row_below bytes start all zero byte few inside each = sym (part_none bytes start)
row_below bytes start all (suc count) byte few inside each =
    let same : suc count ≡ count + 1 = omega arith in
    ap (λ (number : ℕ). map byte (range_with_len 0 number)) same
    ∙ map-range_with_len_more byte 0 count count (omega arith)
    ∙ ap (λ front. front ++ byte count ∷ []) (row_below bytes start all count byte (omega (arith, few)) inside each)
    ∙ ap (λ (last : ℕ). part bytes start count ++ last ∷ []) (each count (omega (arith, few)))
    ∙ ap (λ last. part bytes start count ++ last) (part_byte bytes (start + count) (omega (arith, few, inside)))
    ∙ sym (part_behind bytes start count 1)
    ∙ ap (part bytes start) (sym same)

pub board_text : (plant : PlantData) (bytes : List ℕ) (panel : ℕ) (board : Board) → place_of_panel plant panel + (1 + destinations_of plant) ≤ length bytes → IsBoardIn plant bytes panel board → panel_text (destinations_of plant) board ≡ part bytes (place_of_panel plant panel) (1 + destinations_of plant)
board_text plant bytes panel board inside is =
    let destinations = destinations_of plant in
    parts_join bytes (bit board.left ∷ []) (map (notices_of board) (range_with_len 0 destinations)) (place_of_panel plant panel) (place_of_panel plant panel + 1) 1 destinations
    (ap (λ (byte : ℕ). byte ∷ []) is.left ∙ part_byte bytes (place_of_panel plant panel) (omega (arith, inside)))
    (row_below bytes (place_of_panel plant panel + 1) destinations destinations (notices_of board) (omega arith) (omega (arith, inside)) is.notices) refl

two_at_least : (source protect : Bool) → protect ≡ true → 2 ≤ bit source + 2 * bit protect
two_at_least true true is = omega arith
two_at_least false true is = omega arith
two_at_least source false is = absurd (cc)

short_by_most : (left short : Bool) → 2 ≤ (if left then 0 else if short then 3 else 1) → short ≡ true
short_by_most true short few = absurd (omega (arith, few))
short_by_most false true few = refl
short_by_most false false few = absurd (omega (arith, few))

short_most : (plant : PlantData) (bytes : List ℕ) (panel dest : ℕ) → 2 ≤ most_notices plant bytes panel dest → has_short_number plant dest ≡ true
unfolding most_notices
short_most plant bytes panel dest few = short_by_most (byte_at bytes (place_of_panel plant panel) == 1) (has_short_number plant dest) few

short_inside : (plant : PlantData) (bytes : List ℕ) (panel dest : ℕ) (board : Board) → first_fault plant bytes ≡ None → panel < length plant.panels → dest < destinations_of plant → IsBoardIn plant bytes panel board → has_notice board dest Protect ≡ true → IsShortDest plant dest
short_inside plant bytes panel dest board none inside below is stands =
    short_dest plant dest
    (short_most plant bytes panel dest
    (omega (arith, two_at_least (has_notice board dest Source) (has_notice board dest Protect) stands, is.notices dest below, notices_held plant bytes panel dest inside below none)))

short_notice : (plant : PlantData) (bytes : List ℕ) (boards : List Board) (panel dest : ℕ) → first_fault plant bytes ≡ None → AreBoards boards (length plant.panels) (destinations_of plant) → ((p : ℕ) → p < length plant.panels → IsBoardIn plant bytes p (board_of boards p)) → has boards panel dest Protect ≡ true → IsShortDest plant dest
short_notice plant bytes boards panel dest none are each stands = elim (cases_lt panel (length plant.panels)) [
  | inl inside ↦ short_inside plant bytes panel dest (board_of boards panel) none inside (are.below panel dest Protect stands) (each panel inside) stands
  | inr past ↦
      let gone : board_of boards panel ≡ blank = get_or_past boards panel blank (omega (arith, past, are.count)) in
      absurd (both_ways (has boards panel dest Protect) (ap (λ (b : Board). has_notice b dest Protect) gone ∙ contains-empty nat_cmp dest) stands)
]

pub boards_in : (plant : PlantData) (bytes : List ℕ) (boards : List Board) → first_fault plant bytes ≡ None → place_of_panel plant (length plant.panels) ≤ length bytes → AreBoards boards (length plant.panels) (destinations_of plant) → ((p : ℕ) → p < length plant.panels → IsBoardIn plant bytes p (board_of boards p)) → AreBoardsIn plant bytes boards
boards_in plant bytes boards none inside are each = record {
  text =
      part_texts bytes (place_of_panel plant 0) (1 + destinations_of plant) (length plant.panels) (λ panel. panel_text (destinations_of plant) (board_of boards panel)) (λ panel below.
      let start : place_of_panel plant panel ≡ place_of_panel plant 0 + panel * (1 + destinations_of plant) = omega arith in
      let room : place_of_panel plant panel + (1 + destinations_of plant) ≤ length bytes = omega (arith, inside, room_for_one panel (length plant.panels) (1 + destinations_of plant) below) in
      board_text plant bytes panel (board_of boards panel) room (each panel below) ∙ ap (λ (place : ℕ). part bytes place (1 + destinations_of plant)) start);
  are_boards = are;
  short = λ panel dest stands. short_notice plant bytes boards panel dest none are each stands;
}
