-- The room of the frame of a message, good or bad.
use Rattle.std.proofs.Common.{◌≡◌, ℕ, ◌+◌, ◌*◌, ◌%◌, ◌^◌, ◌≤◌, ◌==◌, true, false, if◌then◌else◌, List, [], ◌∷◌, ◌++◌, length, slice_index_or, refl, ap, ◌∙◌, arith, ◌/◌}
use Rattle.std.proofs.Math.Nat.{div-le_self, mul-div-le}
use Rattle.std.specs.List.{range_with_len}
use Rattle.std.proofs.lemmas.List.{length-append, length_push}
use Rattle.std.proofs.lemmas.List.Concat.{length-flat_map}
use Rattle.std.proofs.lemmas.List.FromFn.{length-map-range_with_len, length-range_with_len}
use Rattle.std.proofs.lemmas.List.Sums.{count_by-le-length, sum_by-le}
use Rattle.ctl_net.specs.declared.link_event.LinkEvent.{LinkEvent}
use Rattle.ctl_net.specs.declared.link_event.LinkEvent.TheVariants.{Piece}
use Rattle.dle_framing.specs.Frame.{check_byte, counted, doubled, enclosed, frame, body}
use Rattle.dle_framing.specs.Numbers.{dle, etx}
use Rattle.dle_framing.proofs.FrameLemmas.{length-doubled, length-body}
use Rattle.swp08_messages.specs.declared.message.Message.{Message}
use Rattle.plant_config.specs.DrillPlant.{drill_plant}
use Rattle.swp08_messages.specs.declared.message.Message.TheVariants.{Interrogate, Connect}
use Rattle.swp08_messages.specs.Text.{text}
use Rattle.drill.specs.Drilled.{most_messages, share_of}
use Rattle.drill.specs.Messages.{message_at}
use Rattle.drill.specs.Pieces.{in_pieces, piece_at, piece_count}
use Rattle.drill.specs.Stream.{bad_frame, framed_as, is_bad, sent_at, stream}

enclosed_room : (spelled : List ℕ) → length spelled ≤ 10 → length (enclosed spelled) ≤ 24
enclosed_room spelled few =
    omega (arith, few, length-append (doubled spelled) (dle ∷ etx ∷ []), length-doubled spelled, count_by-le-length (λ (byte : ℕ). byte == dle) spelled)

pub text_most : (message : Message) → length (text message) ≤ 8
text_most (Interrogate at) = omega arith
text_most (Connect at source) = omega arith
text_most message = omega arith

pub good_room : (message : Message) (bytes : List ℕ) → bytes ≡ text message → length (frame bytes) ≤ 24
good_room message bytes is = enclosed_room (body bytes) (omega (arith, length-body bytes, ap (length {A = ℕ}) is, text_most message))

pub bad_room : (message : Message) (bytes : List ℕ) → bytes ≡ text message → length (bad_frame bytes) ≤ 24
bad_room message bytes is =
    let wrong = (check_byte (counted bytes) + 1) % 256 in
    enclosed_room (counted bytes ++ wrong ∷ []) (omega (arith, length_push (counted bytes) wrong, length_push bytes (length bytes), ap (length {A = ℕ}) is, text_most message))

framed_room : (at : ℕ) (message : Message) → length (framed_as at (text message)) ≤ 24
framed_room at message =
    elim (is_bad at) as (λ b. length (if b then bad_frame (text message) else frame (text message)) ≤ 24) [
      | true ↦ bad_room message (text message) refl
      | false ↦ good_room message (text message) refl
    ]

-- The bytes of a panel are few, and so are their pieces.
stream_room : (number panel count : ℕ) → length (stream number panel count) ≤ count * 24
stream_room number panel count =
    let ats = range_with_len 0 count in
    let sent = sent_at number panel in
    omega (
      arith,
      length-flat_map sent ats,
      sum_by-le (λ (at : ℕ). length (sent at)) 24 ats (λ k default below. framed_room (slice_index_or ats k default) (message_at number panel (slice_index_or ats k default))),
      ap (λ (n : ℕ). n * 24) (length-range_with_len 0 count),
    )

pub few_pieces : (bytes : List ℕ) (number panel each : ℕ) → bytes ≡ stream number panel each → each ≤ most_messages → length (in_pieces bytes) ≤ 4800000
few_pieces bytes number panel each is few =
    omega (
      arith,
      length-map-range_with_len (λ (at : ℕ). Piece (piece_at bytes at)) 0 (piece_count bytes),
      ap (length {A = ℕ}) is,
      stream_room number panel each,
    )

-- the same of their count
pub few_piece_count : (number panel each : ℕ) → each ≤ most_messages → piece_count (stream number panel each) ≤ 4800000
few_piece_count number panel each few =
    let bytes = stream number panel each in
    omega (arith, length-map-range_with_len (λ (at : ℕ). Piece (piece_at bytes at)) 0 (piece_count bytes), few_pieces bytes number panel each refl few)

-- The events of a panel's link are few.
pub events_few : (now events : List LinkEvent) (bytes : List ℕ) (number panel each : ℕ) → now ≡ events → events ≡ in_pieces bytes → bytes ≡ stream number panel each → each ≤ most_messages → length now ≤ 4800000
events_few now events bytes number panel each same are is few =
    omega (arith, ap (length {A = LinkEvent}) (same ∙ are), few_pieces bytes number panel each is few)

-- The drill's plant gives a session so many turns.
pub drill_turns : (panels : ℕ) → (drill_plant panels).server.turns ≡ 2 ^ 40
unfolding drill_plant
drill_turns panels = refl

-- The messages of a panel are few, and so are those of all.
pub share_few : (messages panels : ℕ) → messages ≤ most_messages → share_of messages panels ≤ most_messages
share_few messages panels few = omega (arith, div-le_self messages panels)

pub shares_few : (messages panels : ℕ) → messages ≤ most_messages → panels * share_of messages panels ≤ most_messages
shares_few messages panels few = omega (arith, mul-div-le messages panels)
