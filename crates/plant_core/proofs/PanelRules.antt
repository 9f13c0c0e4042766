-- The text of a valid state's panels breaks no rule.
use Rattle.std.proofs.Common.{◌≡◌, ℕ, ◌+◌, ◌*◌, ◌<◌, ◌≤◌, ◌==◌, nat_le, suc, Bool, true, false, if◌then◌else◌, List, length, get_or, None, refl, ap, sym, subst, ◌∙◌, arith}
use Rattle.std.proofs.lemmas.Bool.{le-leb, false≢true}
use Rattle.std.proofs.lemmas.List.FromFn.{get_or-map-range_with_len}
use Rattle.std.specs.FinSet.{contains, contains-empty}
use Rattle.std.specs.Ordering.{nat_cmp}
use Rattle.plant_config.specs.Plant.{destinations_of}
use Rattle.change_boards.specs.Board.{Board, has_notice}
use Rattle.change_boards.specs.Notices.{board_of}
use Rattle.change_boards.specs.declared.sort.Sort.TheVariants.{Source, Protect}
use Rattle.plant_core.specs.State.{State, IsValid}
use Rattle.plant_core.specs.Short.{StaysShort}
use Rattle.plant_core.specs.StateText.{bit, notices_of, panel_text}
use Rattle.plant_core.specs.StateFields.{byte_at, place_of_panel, place_of_notices}
use Rattle.plant_core.specs.StateFault.{first_broken, fields_of_each, has_short_number, most_notices, notices_fields, panel_fields}
use Rattle.plant_core.proofs.TextParts.{byte_within}
use Rattle.plant_core.proofs.TextPlaces.{StandIn}
use Rattle.plant_core.proofs.TextRules.{dest_short, holds_before, none_in_all}

pub few_of_bit : (is : Bool) → bit is ≤ 1
few_of_bit true = omega arith
few_of_bit false = omega arith

-- the bytes of a panel
notices_byte : (dests : ℕ) (board : Board) (dest : ℕ) → dest < dests → get_or (panel_text dests board) (1 + dest) 0 ≡ notices_of board dest
notices_byte dests board dest below =
    let same : 0 + dest ≡ dest = omega arith in
    let next : 1 + dest ≡ suc dest = omega arith in
    ap (λ (place : ℕ). get_or (panel_text dests board) place 0) next ∙ get_or-map-range_with_len (notices_of board) 0 dests dest dest 0 below same

left_is : (bytes : List ℕ) (state : State) (panel : ℕ) → StandIn bytes state → panel < length state.plant.panels → byte_at bytes (place_of_panel state.plant panel) ≡ bit (board_of state.boards panel).left
left_is bytes state panel stand below =
    byte_within bytes (panel_text (destinations_of state.plant) (board_of state.boards panel)) (place_of_panel state.plant panel) (1 + destinations_of state.plant) (place_of_panel state.plant panel) 0
    (stand.panel panel below) (omega arith) (omega arith)

notices_is : (bytes : List ℕ) (state : State) (panel dest : ℕ) → StandIn bytes state → panel < length state.plant.panels → dest < destinations_of state.plant → byte_at bytes (place_of_notices state.plant panel dest) ≡ notices_of (board_of state.boards panel) dest
notices_is bytes state panel dest stand below inside =
    byte_within bytes (panel_text (destinations_of state.plant) (board_of state.boards panel)) (place_of_panel state.plant panel) (1 + destinations_of state.plant) (place_of_notices state.plant panel dest) (1 + dest)
    (stand.panel panel below) (omega arith) (omega arith)
    ∙ notices_byte (destinations_of state.plant) (board_of state.boards panel) dest inside

-- no more notices than a panel may have
most_by : (left source protect short : Bool) → (left ≡ true → source ≡ false) → (left ≡ true → protect ≡ false) → (protect ≡ true → short ≡ true) →
    bit source + 2 * bit protect ≤ (if left then 0 else if short then 3 else 1)
most_by true false false short no_source no_protect may = omega arith
most_by true true protect short no_source no_protect may = absurd (false≢true (sym (no_source refl)))
most_by true false true short no_source no_protect may = absurd (false≢true (sym (no_protect refl)))
most_by false source true false no_source no_protect may = absurd (false≢true (may refl))
most_by false true true true no_source no_protect may = omega arith
most_by false false true true no_source no_protect may = omega arith
most_by false true false true no_source no_protect may = omega arith
most_by false false false true no_source no_protect may = omega arith
most_by false true false false no_source no_protect may = omega arith
most_by false false false false no_source no_protect may = omega arith

one_where_left : (left : Bool) → (bit left == 1) ≡ left
one_where_left true = refl
one_where_left false = refl

notices_most : (bytes : List ℕ) (state : State) (panel dest : ℕ) → IsValid state → StaysShort state → StandIn bytes state → panel < length state.plant.panels → dest < destinations_of state.plant →
    notices_of (board_of state.boards panel) dest ≤ most_notices state.plant bytes panel dest
unfolding most_notices
notices_most bytes state panel dest is short stand below inside =
    let board = board_of state.boards panel in
    let left : (byte_at bytes (place_of_panel state.plant panel) == 1) ≡ board.left = ap (λ (byte : ℕ). byte == 1) (left_is bytes state panel stand below) ∙ one_where_left board.left in
    let least : notices_of board dest ≤ (if board.left then 0 else if has_short_number state.plant dest then 3 else 1) =
    most_by board.left (has_notice board dest Source) (has_notice board dest Protect) (has_short_number state.plant dest)
    (λ left. ap (λ dests. contains dests dest) (is.boards.left panel left).source ∙ contains-empty nat_cmp dest)
    (λ left. ap (λ dests. contains dests dest) (is.boards.left panel left).protect ∙ contains-empty nat_cmp dest)
    (λ has. dest_short state.plant dest is.is_plant inside (short.notices panel dest has)) in
    subst (λ (is : Bool). notices_of board dest ≤ (if is then 0 else if has_short_number state.plant dest then 3 else 1)) (sym left) least

notices_whole : (bytes : List ℕ) (state : State) (panel dest : ℕ) → IsValid state → StaysShort state → StandIn bytes state → panel < length state.plant.panels → dest < destinations_of state.plant →
    first_broken (notices_fields state.plant bytes panel dest) ≡ None
unfolding notices_fields
notices_whole bytes state panel dest is short stand below inside =
    let byte = byte_at bytes (place_of_notices state.plant panel dest) in
    let most = most_notices state.plant bytes panel dest in
    holds_before (place_of_notices state.plant panel dest) (nat_le byte most) None
    (ap (λ (byte : ℕ). nat_le byte most) (notices_is bytes state panel dest stand below inside)
    ∙ le-leb (notices_of (board_of state.boards panel) dest) most (notices_most bytes state panel dest is short stand below inside)) refl

pub panel_whole : (bytes : List ℕ) (state : State) (panel : ℕ) → IsValid state → StaysShort state → StandIn bytes state → panel < length state.plant.panels → first_broken (panel_fields state.plant bytes panel) ≡ None
unfolding panel_fields
panel_whole bytes state panel is short stand below =
    let left = (board_of state.boards panel).left in
    holds_before (place_of_panel state.plant panel) (nat_le (byte_at bytes (place_of_panel state.plant panel)) 1) (first_broken (fields_of_each (destinations_of state.plant) (notices_fields state.plant bytes panel)))
    (ap (λ (byte : ℕ). nat_le byte 1) (left_is bytes state panel stand below) ∙ le-leb (bit left) 1 (few_of_bit left))
    (none_in_all (destinations_of state.plant) (notices_fields state.plant bytes panel) (λ dest inside. notices_whole bytes state panel dest is short stand below inside))
