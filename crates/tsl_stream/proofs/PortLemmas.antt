-- A text to which a packet is written, whole or in part.
use Rattle.std.proofs.Common.{◌≡◌, ℕ, zero, suc, ◌≤◌, ◌<◌, ⊎_elim, ◌⊎◌, inl, inr, Bool, true, false, List, [], ◌∷◌, ◌++◌, length, take, Option, Some, None, refl, sym, ap, ◌∙◌, subst, arith}
use Rattle.std.proofs.lemmas.Bool.{cases_lt}
use Rattle.std.proofs.lemmas.List.{append-nil, append_assoc, length-take-le, map-append}
use Rattle.std.proofs.lemmas.List.Concat.{flat_map-append}
use Rattle.std.specs.Prelude.{IfSome}
use Rattle.ctl_io.specs.Faults.{one_more}
use Rattle.ctl_io.specs.Sink.{IsUnwritten}
use Rattle.tsl_umd5.specs.Packet.{IsPacketText}
use Rattle.tsl_stream.specs.Numbers.{tsl_dle, tsl_stx}
use Rattle.tsl_stream.specs.Stream.{stuffed, stream_text}
use Rattle.doubled_bytes.specs.Reading.{only_rest, with_item}
use Rattle.tsl_stream.specs.Items.{PacketItem, Packet, StreamReading, stream_reading, stream_items, stream_rest}
use Rattle.tsl_stream.specs.Kept.{IsOpen}
use Rattle.tsl_stream.specs.WritingInside.{half_after}
use Rattle.tsl_stream.specs.Laws.{stream_texts}
use Rattle.tsl_stream.specs.Port.{LeavesRest, HasPackets, IsJust}
use Rattle.tsl_stream.specs.WritingInside.{sent_text}
use Rattle.doubled_bytes.proofs.Runs.{at_byte, doubled-byte}
use Rattle.tsl_stream.proofs.Packets.{IsWhole, packet_size-short, packet_size-take}
use Rattle.tsl_stream.proofs.Readings.{stream_reading-by_packet_start, stream_reading-noise, stream_reading-noise_dle, stream_reading-open, stream_reading-broken}
use Rattle.tsl_stream.proofs.LawLemmas.{reads_on_lem, reads_back_lem, packet_whole}
use Rattle.tsl_stream.proofs.StepLemmas.{stream_reading-kept}
use Rattle.tsl_stream.proofs.HalfLemmas.{half_after-append, half_after-doubled}

-- ---- what a port left

left_is : (half : Bool) (left : List ℕ) → LeavesRest half left → stream_reading left ≡ only_rest left
left_is false left leaves = ⊎_elim
    (λ (none : left ≡ []). rw none (stream_reading-by_packet_start []))
    (λ (kept : (front : List ℕ) × IsOpen front × (left ≡ tsl_dle ∷ tsl_stx ∷ stuffed front)). rw kept.2 (stream_reading-kept kept.0 kept.1))
    leaves
left_is true left leaves = ⊎_elim
    (λ (lone : left ≡ tsl_dle ∷ []). rw lone (stream_reading-by_packet_start (tsl_dle ∷ [])))
    (λ (kept : (front : List ℕ) × IsOpen front × (left ≡ tsl_dle ∷ tsl_stx ∷ (stuffed front ++ tsl_dle ∷ []))). rw kept.2 (stream_reading-open kept.0 (tsl_dle ∷ []) kept.1 refl))
    leaves

-- a start behind what isn't half of a pair
started_anew : (left more : List ℕ) → LeavesRest false left → stream_reading (left ++ tsl_dle ∷ tsl_stx ∷ more) ≡ stream_reading (tsl_dle ∷ tsl_stx ∷ more)
started_anew left more leaves = ⊎_elim
    (λ (none : left ≡ []). rw none refl)
    (λ (kept : (front : List ℕ) × IsOpen front × (left ≡ tsl_dle ∷ tsl_stx ∷ stuffed front)). rw kept.2 (stream_reading-open kept.0 (tsl_dle ∷ tsl_stx ∷ more) kept.1 refl))
    leaves

-- a 00 behind half of a pair
cleared : (left more : List ℕ) → LeavesRest true left → stream_reading (left ++ 0 ∷ more) ≡ stream_reading more
cleared left more leaves = ⊎_elim
    (λ (lone : left ≡ tsl_dle ∷ []). rw lone (stream_reading-noise_dle 0 more refl ∙ stream_reading-noise 0 more refl))
    (λ (kept : (front : List ℕ) × IsOpen front × (left ≡ tsl_dle ∷ tsl_stx ∷ (stuffed front ++ tsl_dle ∷ []))).
    rw kept.2 (ap (λ (text : List ℕ). stream_reading (tsl_dle ∷ tsl_stx ∷ text)) (append_assoc (stuffed kept.0) (tsl_dle ∷ []) (0 ∷ more)) ∙ stream_reading-broken kept.0 0 more kept.1 refl refl))
    leaves

-- a DLE behind what isn't half of a pair
halved : (left : List ℕ) → LeavesRest false left → (stream_reading (left ++ tsl_dle ∷ []) ≡ only_rest (left ++ tsl_dle ∷ [])) × LeavesRest true (left ++ tsl_dle ∷ [])
halved left leaves = ⊎_elim
    (λ (none : left ≡ []). rw none (stream_reading-by_packet_start (tsl_dle ∷ []), inl refl))
    (λ (kept : (front : List ℕ) × IsOpen front × (left ≡ tsl_dle ∷ tsl_stx ∷ stuffed front)). rw kept.2 (stream_reading-open kept.0 (tsl_dle ∷ []) kept.1 refl, inr (kept.0, kept.1, refl)))
    leaves

-- ---- a packet that is cut off

-- a front of doubled bytes: some of them doubled, maybe with the first of a pair
pub record Cut (bytes front : List ℕ) : Type 0 where
  pub count : ℕ
  pub fewer : count < length bytes
  pub is : (front ≡ stuffed (take count bytes)) ⊎ (front ≡ stuffed (take count bytes) ++ tsl_dle ∷ [])

none_cut : (a : ℕ) (bytes : List ℕ) → Cut (a ∷ bytes) []
none_cut a bytes = record { count = 0; fewer = omega arith; is = inl refl }

more_cut : (a : ℕ) (bytes front piece : List ℕ) → stuffed (a ∷ []) ≡ piece → Cut bytes front → Cut (a ∷ bytes) (piece ++ front)
more_cut a bytes front piece is cut =
    let one : (n : ℕ) → stuffed (take (suc n) (a ∷ bytes)) ≡ piece ++ stuffed (take n bytes) =
    λ n. ap (λ (first : List ℕ). first ++ stuffed (take n bytes)) (sym (append-nil _) ∙ is) in
    record {
      count = suc cut.count;
      fewer = omega (arith, cut.fewer);
      is = ⊎_elim
          (λ (whole : front ≡ stuffed (take cut.count bytes)). inl (ap (λ (front : List ℕ). piece ++ front) whole ∙ sym (one cut.count)))
          (λ (half : front ≡ stuffed (take cut.count bytes) ++ tsl_dle ∷ []).
          inr (ap (λ (front : List ℕ). piece ++ front) half ∙ sym (append_assoc piece (stuffed (take cut.count bytes)) (tsl_dle ∷ [])) ∙ ap (λ (front : List ℕ). front ++ tsl_dle ∷ []) (sym (one cut.count))))
          cut.is;
    }

dle_cut : (bytes : List ℕ) (k : ℕ) → ((j : ℕ) → j < length (stuffed bytes) → Cut bytes (take j (stuffed bytes))) → suc k < length (stuffed (tsl_dle ∷ bytes)) → Cut (tsl_dle ∷ bytes) (take (suc k) (stuffed (tsl_dle ∷ bytes)))
dle_cut bytes zero cut few = record { count = 0; fewer = omega arith; is = inr refl }
dle_cut bytes (suc k) cut few = more_cut tsl_dle bytes (take k (stuffed bytes)) (tsl_dle ∷ tsl_dle ∷ []) refl (cut k (omega (arith, few)))

doubled_cut : (bytes : List ℕ) (k : ℕ) → k < length (stuffed bytes) → Cut bytes (take k (stuffed bytes))
doubled_cut [] k few = absurd (omega arith)
doubled_cut (a ∷ bytes) zero few = none_cut a bytes
doubled_cut (a ∷ bytes) (suc k) few =
    at_byte tsl_dle (λ a. suc k < length (stuffed (a ∷ bytes)) → Cut (a ∷ bytes) (take (suc k) (stuffed (a ∷ bytes)))) a
    (dle_cut bytes k (doubled_cut bytes))
    (λ other few.
    let same = doubled-byte tsl_dle a bytes other in
    rw same (more_cut a bytes (take k (stuffed bytes)) (a ∷ []) (doubled-byte tsl_dle a [] other) (doubled_cut bytes k (omega (arith, few, ap (length {A = ℕ}) same)))))
    few

-- fewer bytes of a packet than it has are open
open-take : (packet : List ℕ) (n : ℕ) → IsWhole packet → n < length packet → IsOpen (take n packet)
open-take packet n whole few =
    let count : length (take n packet) ≡ n = length-take-le n packet (omega (arith, few)) in ⊎_elim
    (λ (short : n < 2).
    let two = packet_size-short (take n packet) (omega (arith, count, short)) in
    record { more = omega (arith, count, two, short); fits = omega (arith, two) })
    (λ (counted : 2 ≤ n).
    let same = packet_size-take n packet counted (omega (arith, few)) in
    record { more = omega (arith, count, same, whole.all, few); fits = omega (arith, same, whole.fits) })
    (cases_lt n 2)

-- what a cut packet leaves behind its start
cut_leaves : (packet : List ℕ) (k : ℕ) → IsWhole packet → k < length (stuffed packet)
    → (stream_reading (tsl_dle ∷ tsl_stx ∷ take k (stuffed packet)) ≡ only_rest (tsl_dle ∷ tsl_stx ∷ take k (stuffed packet))) × LeavesRest (half_after false (take k (stuffed packet))) (tsl_dle ∷ tsl_stx ∷ take k (stuffed packet))
cut_leaves packet k whole few =
    let cut = doubled_cut packet k few in
    let front = take cut.count packet in
    let is_open = open-take packet cut.count whole cut.fewer in
    let P : List ℕ → Type 0 = λ sent. (stream_reading (tsl_dle ∷ tsl_stx ∷ sent) ≡ only_rest (tsl_dle ∷ tsl_stx ∷ sent)) × LeavesRest (half_after false sent) (tsl_dle ∷ tsl_stx ∷ sent) in ⊎_elim
    (λ (pairs : take k (stuffed packet) ≡ stuffed front).
    let Q : Bool → Type 0 = λ half. LeavesRest half (tsl_dle ∷ tsl_stx ∷ stuffed front) in
    subst P (sym pairs) (stream_reading-kept front is_open, subst Q (sym (half_after-doubled front)) (inr (front, is_open, refl))))
    (λ (half : take k (stuffed packet) ≡ stuffed front ++ tsl_dle ∷ []).
    let Q : Bool → Type 0 = λ half. LeavesRest half (tsl_dle ∷ tsl_stx ∷ (stuffed front ++ tsl_dle ∷ [])) in
    let ends : half_after false (stuffed front ++ tsl_dle ∷ []) ≡ true = half_after-append false (stuffed front) (tsl_dle ∷ []) ∙ ap (λ (half : Bool). half_after half (tsl_dle ∷ [])) (half_after-doubled front) in
    subst P (sym half) (stream_reading-open front (tsl_dle ∷ []) is_open refl, subst Q (sym ends) (inr (front, is_open, refl))))
    cut.is

-- ---- what is written for a packet

-- Bytes behind what was left add no item, and leave this.
abbrev Part : Bool → List ℕ → List ℕ → Type 0
Part half left sent = (next : List ℕ) × (stream_reading (left ++ sent) ≡ only_rest next) × LeavesRest (half_after half sent) next

part_plain : (left packet : List ℕ) (k : ℕ) → LeavesRest false left → IsWhole packet → k < length (stream_text packet) → Part false left (take k (stream_text packet))
part_plain left packet zero leaves whole few = (left, ap stream_reading (append-nil left) ∙ left_is false left leaves, leaves)
part_plain left packet (suc zero) leaves whole few = (left ++ tsl_dle ∷ [], (halved left leaves).0, (halved left leaves).1)
part_plain left packet (suc (suc k)) leaves whole few =
    let cut = cut_leaves packet k whole (omega (arith, few)) in
    (tsl_dle ∷ tsl_stx ∷ take k (stuffed packet), started_anew left (take k (stuffed packet)) leaves ∙ cut.0, cut.1)

part : (half : Bool) (left packet : List ℕ) (k : ℕ) → LeavesRest half left → IsWhole packet → k < length (sent_text half packet) → Part half left (take k (sent_text half packet))
part false left packet k leaves whole few = part_plain left packet k leaves whole few
part true left packet zero leaves whole few = (left, ap stream_reading (append-nil left) ∙ left_is true left leaves, leaves)
part true left packet (suc k) leaves whole few =
    let on = part_plain [] packet k (inl refl) whole (omega (arith, few)) in
    (on.0, cleared left (take k (stream_text packet)) leaves ∙ on.1, on.2)

reads_alone : (packet : List ℕ) → IsPacketText packet → stream_reading (stream_text packet) ≡ with_item (Packet packet) (only_rest [])
reads_alone packet is = ap stream_reading (sym (append-nil (stream_text packet))) ∙ reads_back_lem packet is [] ∙ ap (with_item (Packet packet)) (stream_reading-by_packet_start [])

whole : (half : Bool) (left packet : List ℕ) → LeavesRest half left → IsPacketText packet → stream_reading (left ++ sent_text half packet) ≡ with_item (Packet packet) (only_rest [])
whole false left packet leaves is = started_anew left (stuffed packet) leaves ∙ reads_alone packet is
whole true left packet leaves is = cleared left (stream_text packet) leaves ∙ reads_alone packet is

-- A front of it is written: the packets stay.
pub part_sent : (packets : List (List ℕ)) (half : Bool) (packet : List ℕ) (k : ℕ) → IsPacketText packet → k < length (sent_text half packet) → (text : List ℕ) → HasPackets text packets half
    → HasPackets (text ++ take k (sent_text half packet)) packets (half_after half (take k (sent_text half packet)))
part_sent packets half packet k is few text has =
    let sent = take k (sent_text half packet) in
    let on = reads_on_lem text sent in
    let adds = part half (stream_rest text) packet k has.leaves (packet_whole packet is) few in
    let P : List ℕ → Type 0 = λ left. LeavesRest (half_after half sent) left in
    record {
      all_items = on.items_go_on ∙ ap (λ (reading : StreamReading). stream_items text ++ reading.items) adds.1 ∙ append-nil (stream_items text) ∙ has.all_items;
      leaves = subst P (sym (on.rest_goes_on ∙ ap (λ (reading : StreamReading). reading.rest) adds.1)) adds.2;
    }

-- All of it is written: there is one packet more.
pub whole_sent : (packets : List (List ℕ)) (half : Bool) (packet : List ℕ) → IsPacketText packet → (text : List ℕ) → HasPackets text packets half → HasPackets (text ++ sent_text half packet) (packets ++ packet ∷ []) false
whole_sent packets half packet is text has =
    let on = reads_on_lem text (sent_text half packet) in
    let adds = whole half (stream_rest text) packet has.leaves is in
    let P : List ℕ → Type 0 = λ left. LeavesRest false left in
    record {
      all_items = on.items_go_on ∙ ap (λ (reading : StreamReading). stream_items text ++ reading.items) adds ∙ ap (λ (all : List PacketItem). all ++ Packet packet ∷ []) has.all_items ∙ sym (map-append Packet packets (packet ∷ []));
      leaves = subst P (sym (on.rest_goes_on ∙ ap (λ (reading : StreamReading). reading.rest) adds)) (inl refl);
    }

-- All of it is written behind the texts of the packets.
pub just_sent : (packets : List (List ℕ)) (half : Bool) (packet text : List ℕ) → IsJust text packets half → IsJust (text ++ sent_text half packet) (packets ++ packet ∷ []) false
just_sent packets half packet text just = record {
  text_is = ap (λ (half : Bool). text ++ sent_text half packet) just.not_half
      ∙ ap (λ (text : List ℕ). text ++ stream_text packet) just.text_is
      ∙ sym (flat_map-append stream_text packets (packet ∷ []) ∙ ap (λ (last : List ℕ). stream_texts packets ++ last) (append-nil (stream_text packet)));
  not_half = refl;
}

-- A count that has risen isn't 0.
pub never_0 : (count : ℕ) → one_more count ≡ 0 → ⊥
never_0 count is = omega (arith, is)

-- nothing was written
pub none_sent : HasPackets [] [] false
none_sent = record { all_items = ap (λ (reading : StreamReading). reading.items) (stream_reading-by_packet_start []); leaves = inl (ap (λ (reading : StreamReading). reading.rest) (stream_reading-by_packet_start [])) }

pub unwritten_has : (written : Option (List ℕ)) (count : ℕ) → IsUnwritten written → IfSome written (λ text. HasPackets text [] false × (count ≡ 0 → IsJust text [] false))
unwritten_has None count none = tt
unwritten_has (Some text) count none = rw none (none_sent, λ is. record { text_is = refl; not_half = refl })
