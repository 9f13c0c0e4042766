-- A line has more bytes than its work needs.
use Rattle.std.proofs.Common.{◌≡◌, ℕ, suc, ◌+◌, ◌*◌, ◌≤◌, ◌⊎◌, inl, inr, Bool, true, false, List, [], ◌∷◌, ◌++◌, length, Option, Some, None, refl, sym, ◌∙◌, ap, subst, arith, length-append}
use Rattle.std.specs.Prelude.{codes, filter, ◌==◌, not}
use Rattle.std.specs.Option.{option_map}
use Rattle.std.proofs.lemmas.List.Filters.{length-filter_both}
use Rattle.dle_framing.specs.Numbers.{dle, etx}
use Rattle.dle_framing.specs.Frame.{frame, body, counted, check_byte, doubled}
use Rattle.dle_framing.proofs.Runs.{at_byte, doubled-byte}
use Rattle.swp08_messages.specs.declared.message.Message.{Message}
use Rattle.swp08_messages.specs.declared.point.Point.{Point}
use Rattle.swp08_messages.specs.Text.{text}
use Rattle.hex.proofs.HexLemmas.{decode_of-ok}
use Rattle.plant_config.specs.Plant.{PlantData}
use Rattle.record_replay.specs.Take.{message_frame}
use Rattle.record_replay.specs.Take.{dest_number_named, carried, connect_of, connect_named}
use Rattle.record_replay.specs.Script.{Work, Read, Leave, Show, space, tab, HexSpells, Sends, IsTakeLine, LineSpells}
use Rattle.record_replay.specs.ReplayerInside.{is_end, ends_behind, ends_in, need_of}
use Rattle.record_replay.proofs.ConnectLemmas.{connect_few}
use Rattle.record_replay.proofs.ItemsFew.{more_most, ends_behind-length}

-- what passes a test is no longer than the text
length-filter : (test : ℕ → Bool) (text : List ℕ) → length (filter test text) ≤ length text
length-filter test text = omega (arith, length-filter_both test (λ byte. not (test byte)) (λ byte. refl) text)

length-HexSpells : (hex bytes : List ℕ) → HexSpells hex bytes → 2 * length bytes ≤ length hex
length-HexSpells hex bytes spells =
    let digits = filter (λ byte. not (byte == space)) hex in
    omega (arith, (decode_of-ok digits bytes spells).2, length-filter (λ byte. not (byte == space)) hex)

-- In a body as it is sent each end of an item has two bytes of the body, itself and the DLE before it, and there is one more.
abbrev HasFewEnds : List ℕ → List ℕ → Type 0
HasFewEnds bytes sent =
    (2 * ends_in (sent ++ dle ∷ etx ∷ []) ≤ length bytes + 2) × (2 * ends_behind true (sent ++ dle ∷ etx ∷ []) ≤ length bytes + 3)

body_ends : (bytes : List ℕ) → HasFewEnds bytes (doubled bytes)
body_ends [] = (omega arith, omega arith)
body_ends (a ∷ bytes) =
    let rest = doubled bytes ++ dle ∷ etx ∷ [] in
    let few = body_ends bytes in
    at_byte dle (λ a. HasFewEnds (a ∷ bytes) (doubled (a ∷ bytes))) a
    (omega (arith, few.1), omega (arith, few.1))
    (λ other.
    let behind : ends_behind (a == dle) rest ≡ ends_in rest = ap (λ (dle_before : Bool). ends_behind dle_before rest) other in
    subst (λ (sent : List ℕ). HasFewEnds (a ∷ bytes) sent) (sym (doubled-byte dle a bytes other))
    (omega (arith, few.0, behind), omega (arith, few.0, behind, more_most (is_end a) (ends_behind (a == dle) rest))))

-- A frame of so few DATA needs no more than the shortest line of a take.
frame_need : (bytes : List ℕ) → length bytes ≤ 7 → 2 * suc (ends_in (frame bytes)) ≤ 12
frame_need bytes within =
    omega (arith, within, (body_ends (body bytes)).0, length-append (counted bytes) (check_byte (counted bytes) ∷ []), length-append bytes (length bytes ∷ []))

-- What names ask for is a connect, extended or not.
abbrev IsConnect : Message → Type 0
IsConnect message = (at : Point) × (source : Option ℕ) × (message ≡ connect_of at source)

is_connect : (plant : PlantData) (matrix level : ℕ) (dest source : List ℕ) (message : Message) → connect_named plant matrix level dest source ≡ Some message → IsConnect message
is_connect plant matrix level dest source message is =
    made (dest_number_named plant matrix level dest) (carried plant matrix level source) is
  where
    made : (number : Option ℕ) (found : Option (Option ℕ))
        → (elim number [ Some number ↦ option_map (λ source. connect_of (record { matrix = matrix; level = level; dest = number }) source) found | None ↦ None ]) ≡ Some message → IsConnect message
    made None found is = cc
    made (Some number) None is = cc
    made (Some number) (Some source) is = let same : connect_of (record { matrix = matrix; level = level; dest = number }) source ≡ message = cc in (record { matrix = matrix; level = level; dest = number }, source, sym same)

takes_need : (plant : PlantData) (line digits piece : List ℕ) → IsTakeLine plant line digits piece → 2 * suc (ends_in piece) ≤ 12
takes_need plant line digits piece takes =
    let asks = takes.asks in
    let connect = is_connect plant asks.matrix_number asks.level_number takes.dest takes.source takes.message asks.connect in
    let is : piece ≡ message_frame (connect_of connect.0 connect.1) = takes.piece_is ∙ ap message_frame connect.2 in
    subst (λ (bytes : List ℕ). 2 * suc (ends_in bytes) ≤ 12) (sym is) (frame_need (text (connect_of connect.0 connect.1)) (connect_few connect.0 connect.1))

length-sends : (line digits piece : List ℕ) → Sends line digits piece → 2 * length piece + 3 ≤ length line
length-sends line digits piece sends =
    omega (arith, ap length sends.1, length-append (codes "> " ++ digits ++ codes " ") sends.0, length-append (codes "> " ++ digits) (codes " "), length-HexSpells sends.0 piece sends.2)

length-takes : (plant : PlantData) (line digits piece : List ℕ) → 1 ≤ length digits → IsTakeLine plant line digits piece → 12 ≤ length line
length-takes plant line digits piece some takes =
    let m = takes.asks.matrix_spelled.spelled.some in
    let l = takes.asks.level_spelled.spelled.some in
    let names = tab ∷ (takes.dest ++ tab ∷ takes.source) in
    omega (arith, some, m, l, ap length takes.place, length-append digits (space ∷ (takes.matrix ++ space ∷ (takes.level ++ names))), length-append takes.matrix (space ∷ (takes.level ++ names)), length-append takes.level names, length-append takes.dest (tab ∷ takes.source))

filled_need : (plant : PlantData) (line digits piece : List ℕ) → 1 ≤ length digits → Sends line digits piece ⊎ IsTakeLine plant line digits piece → 2 * suc (ends_in piece) ≤ length line
filled_need plant line digits piece some (inl sends) = omega (arith, length-sends line digits piece sends, ends_behind-length false piece)
filled_need plant line digits piece some (inr takes) = omega (arith, length-takes plant line digits piece some takes, takes_need plant line digits piece takes)

pub need_within : (plant : PlantData) (line : List ℕ) (work : Work) → LineSpells plant line work → need_of work ≤ length line
need_within plant line (Read panel []) spells =
    let some = spells.number.spelled.some in
    omega (arith, ap length spells.form)
need_within plant line (Read panel (byte ∷ bytes)) spells = filled_need plant line spells.digits (byte ∷ bytes) spells.number.spelled.some spells.form
need_within plant line (Leave panel) spells = omega arith
need_within plant line (Show screen refresh) spells = omega arith
