-- What the frames of answers are made of: bytes, at most 24 for each answer.
use Rattle.std.proofs.Common.{◌≡◌, ℕ, ◌+◌, ◌*◌, ◌<◌, ◌≤◌, ◌==◌, Bool, true, false, ◌&&◌, if◌then◌else◌, List, [], ◌∷◌, ◌++◌, length, All, Option, refl, sym, ap, subst, append-nil, length-append, eqb-true, ltb-true, arith}
use Rattle.std.specs.Prelude.{nat_lt}
use Rattle.std.specs.List.{flat_map}
use Rattle.std.proofs.lemmas.Bool.{false≢true, eqb-false}
use Rattle.std.proofs.lemmas.Grind.{flat_map-append}
use Rattle.std.proofs.lemmas.List.Elements.{All-nil, All-cons, All-head, All-tail, All-push, All-append, recursion_from_All}
use Rattle.dle_framing.specs.Numbers.{dle, stx, etx}
use Rattle.dle_framing.specs.Frame.{doubled, check_byte, counted, body, frame}
use Rattle.swp08_messages.specs.declared.message.Message.{Message}
use Rattle.swp08_messages.specs.declared.message.Message.TheVariants.{Interrogate, Connect}
use Rattle.swp08_messages.specs.Field.{levels, dests}
use Rattle.swp08_messages.specs.Text.{text, IsSource, IsPoint, InRange}
use Rattle.swp08_messages.specs.Dump.{page_dests, Page, IsPage, page_text}
use Rattle.swp08_messages.proofs.SpelledLemmas.{All-text}
use Rattle.swp08_messages.proofs.DumpLemmas.{length-page_text, page_text-bytes}
use Rattle.plant_core.specs.declared.answer.Answer.{Answer}
use Rattle.plant_core.specs.declared.answer.Answer.TheVariants.{Say, Dumped, Lamp, Finished}
use Rattle.plant_core.specs.Answer.{IsSayable}
use Rattle.panel_session.specs.Text.{page_at, no_page, goes_on, with_source, page_frames, frames_behind, frames_of}
use Rattle.panel_session.proofs.FrameRoom.{message_frame-most, page_frame-most}

abbrev pub IsByte : ℕ → Type 0
IsByte byte = byte < 256

-- Each DLE twice,
doubled-bytes : (bytes : List ℕ) → All IsByte bytes → All IsByte (doubled bytes)
doubled-bytes [] all = All-nil IsByte
doubled-bytes (byte ∷ bytes) all =
    let first : IsByte byte = All-head IsByte byte bytes all in
    let one : All IsByte (byte ∷ []) = All-cons IsByte byte [] first (All-nil IsByte) in
    let two : All IsByte (dle ∷ dle ∷ []) = All-cons IsByte dle (dle ∷ []) (omega arith) (All-cons IsByte dle [] (omega arith) (All-nil IsByte)) in
    let piece : All IsByte (if byte == dle then dle ∷ dle ∷ [] else byte ∷ []) =
    elim (byte == dle) as (λ test. All IsByte (if test then dle ∷ dle ∷ [] else byte ∷ [])) [ true ↦ two | false ↦ one ] in
    All-append IsByte (if byte == dle then dle ∷ dle ∷ [] else byte ∷ []) (doubled bytes) piece (doubled-bytes bytes (All-tail IsByte byte bytes all))

-- so a frame is of bytes.
frame-bytes : (bytes : List ℕ) → length bytes < 256 → All IsByte bytes → All IsByte (frame bytes)
frame-bytes bytes short all =
    let whole : All IsByte (body bytes) = All-push IsByte (counted bytes) (check_byte (counted bytes)) (All-push IsByte bytes (length bytes) all short) (omega arith) in
    let begin : All IsByte (dle ∷ stx ∷ []) = All-cons IsByte dle (stx ∷ []) (omega arith) (All-cons IsByte stx [] (omega arith) (All-nil IsByte)) in
    let end : All IsByte (dle ∷ etx ∷ []) = All-cons IsByte dle (etx ∷ []) (omega arith) (All-cons IsByte etx [] (omega arith) (All-nil IsByte)) in
    All-append IsByte ((dle ∷ stx ∷ []) ++ doubled (body bytes)) (dle ∷ etx ∷ [])
    (All-append IsByte (dle ∷ stx ∷ []) (doubled (body bytes)) begin (doubled-bytes (body bytes) whole)) end

text-short : (message : Message) → length (text message) < 256
text-short (Interrogate at) = omega arith
text-short (Connect at source) = omega arith
text-short message = omega arith

-- the bytes of frames
abbrev pub sent : List (List ℕ) → List ℕ
sent frames = flat_map (λ sent. sent) frames

-- Frames are of bytes, and of so many at most.
pub record AreSent (frames : List (List ℕ)) (most : ℕ) : Type 0 where
  pub each : All IsByte (sent frames)
  pub few : length (sent frames) ≤ most

sent-none : AreSent [] 0
sent-none = record { each = All-nil IsByte; few = omega arith }

sent-one : (frame : List ℕ) (most : ℕ) → All IsByte frame → length frame ≤ most → AreSent (frame ∷ []) most
sent-one frame most all few = record {
  each = All-append IsByte frame [] all (All-nil IsByte);
  few = omega (arith, ap (length {A = ℕ}) (append-nil frame));
}

sent-more : (frames others : List (List ℕ)) (most more whole : ℕ) → AreSent frames most → AreSent others more → most + more ≤ whole → AreSent (frames ++ others) whole
sent-more frames others most more whole first second within =
    let same : sent (frames ++ others) ≡ sent frames ++ sent others = flat_map-append (λ (one : List ℕ). one) frames others in
    record {
      each = subst (All IsByte) (sym same) (All-append IsByte (sent frames) (sent others) first.each second.each);
      few = omega (arith, ap (length {A = ℕ}) same, length-append (sent frames) (sent others), first.few, second.few);
    }

sent-wider : (frames : List (List ℕ)) (most whole : ℕ) → AreSent frames most → most ≤ whole → AreSent frames whole
sent-wider frames most whole are within = record { each = are.each; few = omega (arith, are.few) }

-- A page that is gathered is in its ranges.
record IsGathered (page : Page) : Type 0 where
  matrix : page.matrix < levels
  level : page.level < levels
  most : length page.sources ≤ page_dests
  within : page.first + length page.sources ≤ dests
  sources : All IsSource page.sources

page-sent : (page : Page) → IsGathered page → AreSent (page_frames page) (24 * length page.sources)
page-sent page is =
    elim (length page.sources == 0) as (λ test. (length page.sources == 0) ≡ test → AreSent (if test then [] else frame (page_text page) ∷ []) (24 * length page.sources)) [
      | true ↦ λ none. sent-wider [] 0 (24 * length page.sources) sent-none (omega arith)
      | false ↦ λ some.
          let many : length page.sources ≡ 0 → ⊥ = eqb-false (length page.sources) 0 some in
          let is_page : IsPage page = record {
            matrix = is.matrix;
            level = is.level;
            some = omega arith;
            most = is.most;
            within = is.within;
            sources = recursion_from_All IsSource page.sources is.sources;
          } in
          sent-one (frame (page_text page)) (24 * length page.sources)
          (frame-bytes (page_text page) (omega (arith, length-page_text page, is.most)) (page_text-bytes page is_page))
          (omega (arith, page_frame-most page (page_text page) refl))
    ] refl

said-sent : (message : Message) → InRange message → AreSent (frame (text message) ∷ []) 24
said-sent message in_range =
    sent-one (frame (text message)) 24 (frame-bytes (text message) (text-short message) (All-text message in_range)) (message_frame-most message (text message) refl)

no_page-gathered : IsGathered no_page
no_page-gathered = record { matrix = omega arith; level = omega arith; most = omega arith; within = omega arith; sources = All-nil IsSource }

-- What goes on with a page is its next destination, for which it has room.
both : (a b : Bool) → (a && b) ≡ true → (a ≡ true) × (b ≡ true)
both true true is = (refl, refl)
both true false is = absurd (false≢true is)
both false b is = absurd (false≢true is)

goes-gathered : (page : Page) (matrix level dest : ℕ) (source : Option ℕ) → IsGathered page → IsSource source → dest < dests → goes_on page matrix level dest ≡ true → IsGathered (with_source source page)
goes-gathered page matrix level dest source is is_source below goes =
    let last = both (page.matrix == matrix && page.level == level && page.first + length page.sources == dest) (nat_lt (length page.sources) page_dests) goes in
    let place = both (page.matrix == matrix && page.level == level) (page.first + length page.sources == dest) last.0 in
    let few : length page.sources < page_dests = ltb-true (length page.sources) page_dests last.1 in
    let next : page.first + length page.sources ≡ dest = eqb-true (page.first + length page.sources) dest place.1 in
    let long = length-append page.sources (source ∷ []) in
    record {
      matrix = is.matrix;
      level = is.level;
      most = omega (arith, long);
      within = omega (arith, long);
      sources = All-push IsSource page.sources source is.sources is_source;
    }

begun-gathered : (matrix level dest : ℕ) (source : Option ℕ) → IsPoint (record { matrix = matrix; level = level; dest = dest }) → IsSource source → IsGathered (with_source source (page_at matrix level dest))
begun-gathered matrix level dest source is is_source =
    record { matrix = is.matrix; level = is.level; most = omega arith; within = omega (arith, is.dest); sources = All-cons IsSource source [] is_source (All-nil IsSource) }

-- The frames of answers that can be said, behind what a page has.
behind-sent : (answers : List Answer) (page : Page) → IsGathered page → All IsSayable answers → AreSent (frames_behind page answers) (24 * (length page.sources + length answers))
behind-sent [] page is all = sent-wider (page_frames page) (24 * length page.sources) (24 * (length page.sources + 0)) (page-sent page is) (omega arith)
behind-sent (Say message ∷ others) page is all =
    let said = said-sent message (All-head IsSayable (Say message) others all) in
    let more = behind-sent others no_page no_page-gathered (All-tail IsSayable (Say message) others all) in
    sent-more (page_frames page) (frame (text message) ∷ frames_behind no_page others) (24 * length page.sources) (24 + 24 * length others) (24 * (length page.sources + length (Say message ∷ others)))
    (page-sent page is)
    (sent-more (frame (text message) ∷ []) (frames_behind no_page others) 24 (24 * (0 + length others)) (24 + 24 * length others) said more (omega arith))
    (omega arith)
behind-sent (Dumped matrix level dest source ∷ others) page is all =
    let sayable : IsSayable (Dumped matrix level dest source) = All-head IsSayable (Dumped matrix level dest source) others all in
    let rest = All-tail IsSayable (Dumped matrix level dest source) others all in
    let on : Page = with_source source page in
    let anew : Page = with_source source (page_at matrix level dest) in
    let whole : ℕ = 24 * (length page.sources + length (Dumped matrix level dest source ∷ others)) in
    elim (goes_on page matrix level dest) as (λ test. goes_on page matrix level dest ≡ test → AreSent (if test then frames_behind on others else page_frames page ++ frames_behind anew others) whole) [
      | true ↦ λ goes.
          sent-wider (frames_behind on others) (24 * (length on.sources + length others)) whole
          (behind-sent others on (goes-gathered page matrix level dest source is sayable.1 sayable.0.dest goes) rest) (omega (arith, length-append page.sources (source ∷ [])))
      | false ↦ λ goes.
          sent-more (page_frames page) (frames_behind anew others) (24 * length page.sources) (24 * (1 + length others)) whole (page-sent page is)
          (behind-sent others anew (begun-gathered matrix level dest source sayable.0 sayable.1) rest) (omega arith)
    ] refl
behind-sent (Lamp display value ∷ others) page is all =
    sent-wider (frames_behind page others) (24 * (length page.sources + length others)) (24 * (length page.sources + length (Lamp display value ∷ others)))
    (behind-sent others page is (All-tail IsSayable (Lamp display value) others all)) (omega arith)
behind-sent (Finished ∷ others) page is all =
    sent-wider (frames_behind page others) (24 * (length page.sources + length others)) (24 * (length page.sources + length (Finished ∷ others)))
    (behind-sent others page is (All-tail IsSayable Finished others all)) (omega arith)

-- The frames of answers.
pub frames-sent : (answers : List Answer) → All IsSayable answers → AreSent (frames_of answers) (24 * length answers)
frames-sent answers all = sent-wider (frames_of answers) (24 * (0 + length answers)) (24 * length answers) (behind-sent answers no_page no_page-gathered all) (omega arith)
