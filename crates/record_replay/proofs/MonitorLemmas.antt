-- What a recorded stream tells, item by item.
use Rattle.std.proofs.Common.{◌≡◌, ℕ, ◌+◌, ◌≤◌, List, [], ◌∷◌, ◌++◌, length, take, drop, ◌-◌, refl, sym, ap, ◌∙◌, arith, append-nil, append_assoc, length-append}
use Rattle.std.specs.Prelude.{Option, Some, None}
use Rattle.std.specs.List.{flat_map}
use Rattle.std.specs.Option.{option_map, option_to_list}
use Rattle.std.proofs.lemmas.List.{take_rest}
use Rattle.std.proofs.lemmas.List.Concat.{flat_map-append}
use Rattle.std.proofs.Math.Seq.{take-add}
use Rattle.tsl_umd5.specs.Layout.{max_packet}
use Rattle.tsl_umd5.specs.Packet.{Contents, Display, word, messages_text, packet_text, counted_text, IsTextOf}
use Rattle.tsl_umd5.proofs.AllAtLemmas.{length-messages_text}
use Rattle.tsl_stream.specs.declared.item.StreamItem.{StreamItem}
use Rattle.tsl_stream.specs.Feeding.{shown_packet}
use Rattle.tsl_stream.specs.Items.{stream_items, stream_reading}
use Rattle.record_replay.specs.Monitor.{item_lines, display_line, displays_lines}

-- An empty stream tells nothing.
pub items_none : stream_items [] ≡ []
unfolding stream_reading
items_none = refl

-- An item more is told by its lines,
pub told_item : (text bytes : List ℕ) (found : Option StreamItem) (item : StreamItem) → stream_items (text ++ bytes) ≡ stream_items text ++ option_to_list (option_map shown_packet found) → found ≡ Some item
    → flat_map item_lines (stream_items (text ++ bytes)) ≡ flat_map item_lines (stream_items text) ++ item_lines (shown_packet item)
told_item text bytes found item adds is =
    ap (flat_map item_lines) (adds ∙ ap (λ (found : Option StreamItem). stream_items text ++ option_to_list (option_map shown_packet found)) is)
    ∙ flat_map-append item_lines (stream_items text) (shown_packet item ∷ [])
    ∙ ap (λ (lines : List ℕ). flat_map item_lines (stream_items text) ++ lines) (append-nil (item_lines (shown_packet item)))

-- and none by none.
pub told_none : (text bytes : List ℕ) (found : Option StreamItem) → stream_items (text ++ bytes) ≡ stream_items text ++ option_to_list (option_map shown_packet found) → found ≡ None
    → flat_map item_lines (stream_items (text ++ bytes)) ≡ flat_map item_lines (stream_items text) ++ []
told_none text bytes found adds is =
    ap (flat_map item_lines) (adds ∙ ap (λ (found : Option StreamItem). stream_items text ++ option_to_list (option_map shown_packet found)) is ∙ append-nil (stream_items text)) ∙ sym (append-nil (flat_map item_lines (stream_items text)))

-- The messages of a packet aren't long.
pub few_messages : (bytes : List ℕ) (packet : Contents) → IsTextOf bytes packet → length (messages_text packet.displays) ≤ max_packet
unfolding packet_text
few_messages bytes packet is =
    let size = is.is_packet.size in
    let counted = counted_text packet.screen (messages_text packet.displays) in
    omega (arith, size, length-append (word (length counted)) counted, length-append (word packet.screen) (messages_text packet.displays))

-- One display more, and what is left.
pub lines_more : (all done left : List Display) (display : Display) → all ≡ done ++ display ∷ left → all ≡ (done ++ display ∷ []) ++ left
lines_more all done left display is = is ∙ sym (append_assoc done (display ∷ []) left)

pub lines_push : (done : List Display) (display : Display) → displays_lines (done ++ display ∷ []) ≡ displays_lines done ++ display_line display
lines_push done display = flat_map-append display_line done (display ∷ []) ∙ ap (λ (lines : List ℕ). displays_lines done ++ lines) (append-nil (display_line display))

-- The messages that are left get shorter by more than one with each display.
pub one_less : (display : Display) (left old : List Display) → old ≡ display ∷ left → (length (messages_text left) + 1 ≤ length (messages_text old)) × (length display.text ≤ length (messages_text old))
one_less display left old is =
    let long = ap (λ (displays : List Display). length (messages_text displays)) is ∙ length-messages_text display left in
    (omega (arith, long), omega (arith, long))

-- A front of what is left of a stream goes on behind what was used.
pub front_more : (stream : List ℕ) (used count : ℕ) → take used stream ++ take count (take (length stream - used) (drop used stream)) ≡ take (used + count) stream
front_more stream used count =
    ap (λ (rest : List ℕ). take used stream ++ take count rest) (take_rest stream used) ∙ sym (take-add used count stream)
