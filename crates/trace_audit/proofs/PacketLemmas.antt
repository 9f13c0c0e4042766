-- What the packet of a display poll is made of: bytes, at most 18 for each answer and 6 more.
use Rattle.std.proofs.Common.{◌≡◌, ℕ, ◌+◌, ◌*◌, ◌/◌, ◌%◌, ◌≤◌, List, [], ◌∷◌, ◌++◌, length, All, Option, Some, None, IfSome, sym, ap, subst, length-append, arith}
use Rattle.std.specs.Prelude.{slice_get}
use Rattle.std.specs.Option.{option_map, unwrap_or}
use Rattle.std.specs.List.{flat_map}
use Rattle.std.proofs.lemmas.List.Elements.{All-nil, All-cons, All-head, All-tail, All-append, All-weaker}
use Rattle.plant_config.specs.declared.records.Source.{Source}
use Rattle.plant_config.specs.Plant.{PlantData}
use Rattle.plant_config.specs.IsPlant.{IsPlant, IsSource}
use Rattle.tsl_umd5.specs.Packet.{Display, Message, word, message_text, message_of, messages_text, counted_text, packet_text}
use Rattle.tsl_umd5.proofs.AllAtLemmas.{messages_text-nil, messages_text-cons, length-messages_text}
use Rattle.plant_core.specs.declared.answer.Answer.{Answer}
use Rattle.plant_core.specs.declared.answer.Answer.TheVariants.{Say, Dumped, Lamp, Finished}
use Rattle.display_packets.specs.DisplayPacket.{umd_text, lamp_shown, shown_by, packet_of}
use Rattle.trace_audit.proofs.FrameLemmas.{IsByte}

word-bytes : (number : ℕ) → All IsByte (word number)
word-bytes number = All-cons IsByte (number % 256) (number / 256 % 256 ∷ []) (omega arith) (All-cons IsByte (number / 256 % 256) [] (omega arith) (All-nil IsByte))

-- The text of a display is of bytes, and short.
record IsShort (display : Display) : Type 0 where
  each : All IsByte display.text
  few : length display.text ≤ 12

message-bytes : (message : Message) → All IsByte message.text → All IsByte (message_text message)
unfolding message_text
message-bytes message all =
    All-append IsByte (word message.index ++ word message.control ++ word (length message.text)) message.text
    (All-append IsByte (word message.index ++ word message.control) (word (length message.text))
    (All-append IsByte (word message.index) (word message.control) (word-bytes message.index) (word-bytes message.control)) (word-bytes (length message.text))) all

messages-bytes : (displays : List Display) → All IsShort displays → All IsByte (messages_text displays)
messages-bytes [] all = subst (All IsByte) (sym messages_text-nil) (All-nil IsByte)
messages-bytes (display ∷ displays) all =
    subst (All IsByte) (sym (messages_text-cons display displays))
    (All-append IsByte (message_text (message_of display)) (messages_text displays) (message-bytes (message_of display) (All-head IsShort display displays all).each)
    (messages-bytes displays (All-tail IsShort display displays all)))

messages-most : (displays : List Display) → All IsShort displays → length (messages_text displays) ≤ 18 * length displays
messages-most [] all = omega (arith, ap (length {A = ℕ}) messages_text-nil)
messages-most (display ∷ displays) all =
    omega (arith, length-messages_text display displays, (All-head IsShort display displays all).few, messages-most displays (All-tail IsShort display displays all))

-- So is a packet.
counted-bytes : (screen : ℕ) (messages : List ℕ) → All IsByte messages → All IsByte (counted_text screen messages)
counted-bytes screen messages all =
    All-append IsByte (0 ∷ 0 ∷ word screen) messages (All-cons IsByte 0 (0 ∷ word screen) (omega arith) (All-cons IsByte 0 (word screen) (omega arith) (word-bytes screen))) all

packet-bytes : (screen : ℕ) (displays : List Display) → All IsShort displays → All IsByte (packet_text screen displays)
unfolding packet_text
packet-bytes screen displays all =
    All-append IsByte (word (length (counted_text screen (messages_text displays)))) (counted_text screen (messages_text displays))
    (word-bytes (length (counted_text screen (messages_text displays)))) (counted-bytes screen (messages_text displays) (messages-bytes displays all))

packet-length : (screen : ℕ) (displays : List Display) → length (packet_text screen displays) ≡ 6 + length (messages_text displays)
unfolding packet_text
packet-length screen displays =
    omega (
      arith,
      length-append (word (length (counted_text screen (messages_text displays)))) (counted_text screen (messages_text displays)),
      length-append (0 ∷ 0 ∷ word screen) (messages_text displays),
    )

-- The name of a source is short, and of printable bytes.
name-short : (plant : PlantData) (number : ℕ) (found : Option Source) → IfSome found (IsSource plant number)
    → (let text : List ℕ = unwrap_or (option_map (λ (found : Source). found.name) found) [] in All IsByte text × (length text ≤ 12))
name-short plant number None is = (All-nil IsByte, omega arith)
name-short plant number (Some source) is =
    (All-weaker (λ byte. (32 ≤ byte) × (byte ≤ 126)) IsByte (λ byte within. omega (arith, within.1)) source.name is.name.1, omega (arith, is.name.0.1))

text-short : (plant : PlantData) (source : Option ℕ) → IsPlant plant → All IsByte (umd_text plant source) × (length (umd_text plant source) ≤ 12)
text-short plant None is = (All-nil IsByte, omega arith)
text-short plant (Some source) is = name-short plant source (slice_get plant.sources source) (is.named.each_source source)

shown-short : (plant : PlantData) (answers : List Answer) → IsPlant plant → All IsShort (flat_map (shown_by plant) answers) × (length (flat_map (shown_by plant) answers) ≤ length answers)
shown-short plant [] is = (All-nil IsShort, omega arith)
shown-short plant (Say message ∷ others) is = let more = shown-short plant others is in (more.0, omega (arith, more.1))
shown-short plant (Dumped matrix level dest source ∷ others) is = let more = shown-short plant others is in (more.0, omega (arith, more.1))
shown-short plant (Lamp display value ∷ others) is =
    let more = shown-short plant others is in
    let text = text-short plant value.source is in
    (All-cons IsShort (lamp_shown plant display value) (flat_map (shown_by plant) others) (record { each = text.0; few = text.1 }) more.0, omega (arith, more.1))
shown-short plant (Finished ∷ others) is = let more = shown-short plant others is in (more.0, omega (arith, more.1))

-- The packet of answers is of bytes, of some, and of few.
pub record IsPacketOfFew (plant : PlantData) (screen : ℕ) (answers : List Answer) : Type 0 where
  pub each : All IsByte (packet_of plant screen answers)
  pub some : 1 ≤ length (packet_of plant screen answers)
  pub few : length (packet_of plant screen answers) ≤ 6 + 18 * length answers

pub packet-few : (plant : PlantData) (screen : ℕ) (answers : List Answer) → IsPlant plant → IsPacketOfFew plant screen answers
packet-few plant screen answers is =
    let shown = shown-short plant answers is in
    let displays : List Display = flat_map (shown_by plant) answers in
    let long : length (packet_text screen displays) ≡ 6 + length (messages_text displays) = packet-length screen displays in
    let most : length (messages_text displays) ≤ 18 * length displays = messages-most displays shown.0 in
    record { each = packet-bytes screen displays shown.0; some = omega (arith, long); few = omega (arith, long, most, shown.1) }
