-- How long a session's text is.
use Rattle.std.proofs.Common.{◌≡◌, if◌then◌else◌, inl, inr, ◌⊎◌, ℕ, ◌+◌, ◌*◌, ◌≤◌, ◌<◌, ◌==◌, true, false, leb, cond, List, [], ◌∷◌, ◌++◌, All, length, map, Option, Some, None, refl, sym, ap, ◌∙◌, arith, length-append, eqb-true}
use Rattle.std.specs.List.{find}
use Rattle.std.specs.Option.{option_map}
use Rattle.std.specs.Prelude.{IfSome}
use Rattle.std.proofs.lemmas.Bool.{le-leb, leb-true, lt-leb}
use Rattle.std.proofs.lemmas.List.{length-map}
use Rattle.std.proofs.lemmas.List.Concat.{flat_map-append}
use Rattle.std.proofs.lemmas.List.Elements.{All-head, All-tail}
use Rattle.dle_framing.specs.Frame.{frame}
use Rattle.dle_framing.specs.Numbers.{ack, nak}
use Rattle.dle_framing.specs.declared.item.Item.TheVariants.{Good, Bad}
use Rattle.swp08_messages.specs.Dump.{page_text}
use Rattle.swp08_messages.specs.Spelled.{Spells}
use Rattle.swp08_messages.specs.Text.{text, kind_of}
use Rattle.swp08_messages.specs.declared.message.Message.{Message}
use Rattle.swp08_messages.specs.declared.message.MessageKind.TheVariants.{Plant, Names, Report}
use Rattle.swp08_messages.proofs.ReadingLemmas.{one_message}
use Rattle.swp08_messages.proofs.SpelledLemmas.{Spells-text}
use Rattle.plant_config.specs.Plant.{PlantData}
use Rattle.plant_core.specs.declared.answer.Answer.{Answer}
use Rattle.plant_core.specs.declared.answer.Answer.TheVariants.{Say, Dumped, Lamp, Finished}
use Rattle.plant_core.specs.declared.request.Request.{Request}
use Rattle.plant_core.specs.declared.request.Request.TheVariants.{Told, Poll, Leave, DisplayPoll}
use Rattle.panel_session.specs.Asked.{AllAsk, Asks, GoodAsks}
use Rattle.panel_session.specs.Entry.{PlantEntry}
use Rattle.panel_session.specs.Text.{IsText, Output, frames_of, goes_on, no_page, nothing_sent, output_from, page_at, page_frames, polled_at, polled_by, told_at, is_told_at, with_control, with_frames, with_polls, with_source, bytes_in}
use Rattle.panel_session.proofs.EntryLemmas.{length-ask}
use Rattle.panel_session.proofs.FrameRoom.{message_frame-most, page_frame-most}
use Rattle.panel_session.proofs.TraceLemmas.{frames-bytes}
use Rattle.drill.specs.Laws.{MessagesAskThePlant}
use Rattle.drill.specs.Messages.{message_at}
use Rattle.drill.specs.Stream.{is_bad, item_at}
use Rattle.drill.proofs.AskedLemmas.{Asked}

-- Answers are at most one frame of a message, or of a page of one destination.
abbrev pub AreShort : List Answer → Type 0
AreShort answers = length (bytes_in (frames_of answers)) ≤ 24

abbrev pub IsShort : PlantEntry → Type 0
IsShort entry = AreShort entry.answers

one_page : (matrix level dest : ℕ) (source : Option ℕ) → length (bytes_in (page_frames (with_source source (page_at matrix level dest)))) ≤ 24
one_page matrix level dest source =
    let page = with_source source (page_at matrix level dest) in
    omega (arith, length-append (frame (page_text page)) [], page_frame-most page (page_text page) refl)

pub few_short : (answers : List Answer) → length answers ≤ 1 → AreShort answers
few_short [] few = omega arith
few_short (a ∷ b ∷ more) few = absurd (omega arith)
few_short (Say message ∷ []) few = omega (arith, length-append (frame (text message)) [], message_frame-most message (text message) refl)
few_short (Dumped matrix level dest source ∷ []) few =
    elim (goes_on no_page matrix level dest) as (λ b. length (bytes_in (if b then page_frames (with_source source no_page) else page_frames no_page ++ page_frames (with_source source (page_at matrix level dest)))) ≤ 24) [
      | true ↦ one_page 0 0 0 source
      | false ↦ one_page matrix level dest source
    ]
few_short (Lamp display value ∷ []) few = omega arith
few_short (Finished ∷ []) few = omega arith

-- whether a request is a poll behind so many items or more: 1 if it is
abbrev poll_from : ℕ → Request → ℕ
poll_from n (Told panel item message) = 0
poll_from n (Poll panel at turn) = if leb n at then 1 else 0
poll_from n (Leave panel) = 0
poll_from n (DisplayPoll screen refresh) = 0

-- how many polls entries have behind so many items or more
abbrev polls_from : ℕ → List PlantEntry → ℕ
polls_from n [] = 0
polls_from n (entry ∷ later) = poll_from n entry.request + polls_from n later

one_poll : (n : ℕ) (request : Request) → poll_from n request ≤ 1
one_poll n (Told panel item message) = omega arith
one_poll n (Poll panel at turn) = elim (leb n at) as (λ b. (if b then 1 else 0) ≤ 1) [ true ↦ omega arith | false ↦ omega arith ]
one_poll n (Leave panel) = omega arith
one_poll n (DisplayPoll screen refresh) = omega arith

polls_few : (n : ℕ) (entries : List PlantEntry) → polls_from n entries ≤ length entries
polls_few n [] = omega arith
polls_few n (entry ∷ later) = omega (arith, one_poll n entry.request, polls_few n later)

one_polled : (n : ℕ) (request : Request) (answers : List Answer) → AreShort answers → length (bytes_in (frames_of (polled_by n request answers))) + 24 * poll_from (n + 1) request ≤ 24 * poll_from n request
one_polled n (Told panel item message) answers short = omega arith
one_polled n (Leave panel) answers short = omega arith
one_polled n (DisplayPoll screen refresh) answers short = omega arith
one_polled n (Poll panel at turn) answers short =
    elim (at == n) as (λ b. at == n ≡ b → length (bytes_in (frames_of (if b then answers else []))) + 24 * (if leb (n + 1) at then 1 else 0) ≤ 24 * (if leb n at then 1 else 0)) [
      | true ↦ λ is.
          let same : at ≡ n = eqb-true at n is in
          let here : leb n at ≡ true = le-leb n at (omega arith) in
          let gone : leb (n + 1) at ≡ false = lt-leb (n + 1) at (omega arith) in
          rw (here, gone) (omega (arith, short))
      | false ↦ λ other.
          let rest : 24 * (if leb (n + 1) at then 1 else 0) ≤ 24 * (if leb n at then 1 else 0) =
          elim (leb (n + 1) at) as (λ b. leb (n + 1) at ≡ b → 24 * (if b then 1 else 0) ≤ 24 * (if leb n at then 1 else 0)) [
            | true ↦ λ later.
                let here : leb n at ≡ true = le-leb n at (omega (arith, leb-true (n + 1) at later)) in
                rw here (omega arith)
            | false ↦ λ none. omega arith
          ] refl in
          omega (arith, rest)
    ] refl

-- the polls behind so many items, and those behind more
polled_few : (n : ℕ) (entries : List PlantEntry) → All IsShort entries → length (bytes_in (polled_at n entries)) + 24 * polls_from (n + 1) entries ≤ 24 * polls_from n entries
polled_few n [] short = omega arith
polled_few n (entry ∷ later) short =
    let one = frames_of (polled_by n entry.request entry.answers) in
    omega (
      arith,
      ap (length {A = ℕ}) (flat_map-append (λ (sent : List ℕ). sent) one (polled_at n later)),
      length-append (bytes_in one) (bytes_in (polled_at n later)),
      one_polled n entry.request entry.answers (All-head IsShort entry later short),
      polled_few n later (All-tail IsShort entry later short),
    )

-- what was answered to an item is short
told_short : (n : ℕ) (entries : List PlantEntry) → All IsShort entries → IfSome (told_at n entries) AreShort
told_short n [] short = tt
told_short n (entry ∷ later) short =
    elim (is_told_at n entry.request) as (λ b. IfSome (option_map (λ (entry : PlantEntry). entry.answers) (cond b (Some entry) (find (λ (entry : PlantEntry). is_told_at n entry.request) later))) AreShort) [
      | true ↦ All-head IsShort entry later short
      | false ↦ told_short n later (All-tail IsShort entry later short)
    ]

framed_few : (frames : List (List ℕ)) (output : Output) → length (with_frames frames output).bytes ≡ length output.bytes + length (bytes_in frames)
framed_few frames output = ap (length {A = ℕ}) (frames-bytes frames output) ∙ length-append output.bytes (bytes_in frames)

-- the output from an ACK on, by what the plant answered to the message
abbrev told_then : PlantData → Option (List Answer) → List Asked → ℕ → List PlantEntry → Output → Output
told_then plant told others item entries now = elim told [
  | None ↦ with_control ack now
  | (Some answers) ↦ output_from plant (item + 1) others entries (with_frames (frames_of answers) (with_control ack now))
]

-- what is sent for a bad frame
bad_output : (plant : PlantData) (item : ℕ) (a : Asked) (others : List Asked) (entries : List PlantEntry) (output : Output) → Asks Bad a
    → output_from plant item (a ∷ others) entries output ≡ output_from plant (item + 1) others entries (with_control nak (with_polls item entries output))
bad_output plant item a others entries output asks = ap (λ (a : Asked). output_from plant item (a ∷ others) entries output) asks

-- what is sent for a good one that isn't a message for names nor a report
good_output : (plant : PlantData) (item : ℕ) (carried : List ℕ) (a : Asked) (others : List Asked) (entries : List PlantEntry) (output : Output) → GoodAsks carried a
    → (output_from plant item (a ∷ others) entries output ≡ told_then plant (told_at item entries) others item entries (with_polls item entries output))
    ⊎ ((message : Message) × Spells carried message × (kind_of message ≡ Names))
    ⊎ ((message : Message) → Spells carried message → kind_of message ≡ Report)
good_output plant item carried a others entries output asks = grind arith

-- of a bound on what is sent for the other items
abbrev OthersFew : PlantData → ℕ → List Asked → List PlantEntry → ℕ → Type 0
OthersFew plant item others entries most = (output : Output) → length (output_from plant item others entries output).bytes ≤ length output.bytes + most

told_few : (plant : PlantData) (told : Option (List Answer)) (others : List Asked) (item : ℕ) (entries : List PlantEntry) (now : Output) (most : ℕ) → IfSome told AreShort → OthersFew plant (item + 1) others entries most
    → length (told_then plant told others item entries now).bytes ≤ length now.bytes + 26 + most
told_few plant None others item entries now most short few = omega (arith, length-append now.bytes ack)
told_few plant (Some answers) others item entries now most short few =
    let sent = with_frames (frames_of answers) (with_control ack now) in
    omega (arith, few sent, framed_few (frames_of answers) (with_control ack now), length-append now.bytes ack, short)

module _ (ask_plant : MessagesAskThePlant) (plant : PlantData) (number panel : ℕ) (few_panels : panel < 16) (entries : List PlantEntry) (short : All IsShort entries) where
  good_few : (at item : ℕ) (a : Asked) (others : List Asked) (output : Output) (most : ℕ) → GoodAsks (text (message_at number panel at)) a → OthersFew plant (item + 1) others entries most
      → length (output_from plant item (a ∷ others) entries output).bytes ≤ length (with_polls item entries output).bytes + 26 + most
  good_few at item a others output most asks few =
      let message : Message = message_at number panel at in
      let is = ask_plant number panel at few_panels in
      let spelled : Spells (text message) message = Spells-text message is.0 in
      elim (good_output plant item (text message) a others entries output asks) [
        | inl sends ↦
            let now = with_polls item entries output in
            let sent = told_then plant (told_at item entries) others item entries now in
            let bytes : length (output_from plant item (a ∷ others) entries output).bytes ≡ length sent.bytes = ap (λ (output : Output). length output.bytes) sends in
            omega (arith, bytes, told_few plant (told_at item entries) others item entries now most (told_short item entries short) few)
        | inr (inl names) ↦ absurd (
            let same : names.0 ≡ message = one_message (text message) names.0 message names.1 spelled in
            let kinds : Names ≡ Plant = sym names.2 ∙ ap kind_of same ∙ is.1 in cc
            )
        | inr (inr none) ↦ absurd (let kinds : Report ≡ Plant = sym (none message spelled) ∙ is.1 in cc)
      ]

  bad_few : (item : ℕ) (a : Asked) (others : List Asked) (output : Output) (most : ℕ) → Asks Bad a → OthersFew plant (item + 1) others entries most
      → length (output_from plant item (a ∷ others) entries output).bytes ≤ length (with_polls item entries output).bytes + 26 + most
  bad_few item a others output most asks few =
      let now = with_polls item entries output in
      omega (arith, ap (λ (output : Output). length output.bytes) (bad_output plant item a others entries output asks), few (with_control nak now), length-append now.bytes nak)

  output_few : (ats : List ℕ) (asked : List Asked) (item : ℕ) → AllAsk (map (item_at number panel) ats) asked → OthersFew plant item asked entries (26 * length asked + 24 * polls_from item entries)
  output_few [] [] item ask output = omega (arith, framed_few (polled_at item entries) output, polled_few item entries short)
  output_few [] (a ∷ asked) item ask output = absurd ask
  output_few (at ∷ ats) [] item ask output = absurd ask
  output_few (at ∷ ats) (a ∷ asked) item ask output =
      let most = 26 * length asked + 24 * polls_from (item + 1) entries in
      let others : OthersFew plant (item + 1) asked entries most = output_few ats asked (item + 1) ask.1 in
      let one : Asks (item_at number panel at) a → length (output_from plant item (a ∷ asked) entries output).bytes ≤ length (with_polls item entries output).bytes + 26 + most =
      elim (is_bad at) as (λ b. Asks (if b then Bad else Good (text (message_at number panel at))) a → length (output_from plant item (a ∷ asked) entries output).bytes ≤ length (with_polls item entries output).bytes + 26 + most) [
        | true ↦ λ asks. bad_few item a asked output most asks others
        | false ↦ λ asks. good_few at item a asked output most asks others
      ] in
      omega (arith, one ask.0, framed_few (polled_at item entries) output, polled_few item entries short)

  -- The text of a session on the items of a panel's messages is so short: 26 bytes for each item, and 24 for each entry.
  pub text_few : (ats : List ℕ) (text : List ℕ) → IsText plant (map (item_at number panel) ats) entries text → length text ≤ 26 * length ats + 24 * length entries
  text_few ats text is =
      omega (
        arith,
        ap (length {A = ℕ}) is.bytes,
        output_few ats is.asked 0 is.items_ask nothing_sent,
        polls_few 0 entries,
        length-ask (map (item_at number panel) ats) is.asked is.items_ask,
        length-map ats (item_at number panel),
      )
