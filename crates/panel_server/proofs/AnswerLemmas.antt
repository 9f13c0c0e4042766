-- What a lock answers to a poll of a screen.
use Rattle.std.proofs.Common.{◌≡◌, ℕ, ◌<◌, ◌≤◌, Bool, true, List, [], ◌∷◌, ◌++◌, length, All, refl, sym, ap, ◌∙◌, subst, arith}
use Rattle.std.specs.List.{flat_map}
use Rattle.std.proofs.lemmas.List.{length-append}
use Rattle.history_lock.specs.Calls.{SeesAnswers, asked_by}
use Rattle.history_lock.specs.History.{run, IsLegal}
use Rattle.history_lock.proofs.HistoryLemmas.{legal_front}
use Rattle.tsl_umd5.specs.Packet.{counted_text, messages_text, packet_text, word}
use Rattle.plant_config.specs.IsPlant.{IsPlant}
use Rattle.plant_config.specs.Plant.{PlantData}
use Rattle.plant_core.specs.Answer.{IsSayable}
use Rattle.plant_core.specs.Displays.{lamp_limit}
use Rattle.plant_core.specs.State.{State, IsValid, start, Fits as Takes}
use Rattle.plant_core.specs.Short.{StaysShort}
use Rattle.plant_core.specs.Step.{step}
use Rattle.plant_core.specs.declared.answer.Answer.{Answer}
use Rattle.plant_core.specs.declared.answer.Answer.TheVariants.{Say, Dumped, Lamp, Finished}
use Rattle.plant_core.specs.declared.request.Request.{Request}
use Rattle.plant_core.specs.declared.request.Request.TheVariants.{DisplayPoll}
use Rattle.plant_core.proofs.AnswerLemmas.{All-sayable}
use Rattle.plant_core.proofs.CountLemmas.{answer_count}
use Rattle.plant_core.proofs.HistoryLemmas.{run-plant, run-valid, run-short}
use Rattle.plant_core.proofs.ShortLemmas.{StaysShort-start}
use Rattle.plant_core.proofs.Validity.{IsValid-start}
use Rattle.display_packets.specs.DisplayPacket.{AreLamps, packet_of, shown_by}
use Rattle.panel_session.specs.Entry.{PlantEntry}
use Rattle.panel_session.specs.Served.{PlantSeat}
use Rattle.panel_session.specs.Reply.{display_reply, trace_line}
use Rattle.trace_lines.specs.TraceLine.{told_bytes, told_line, entry_text, line_end}
use Rattle.display_packets.proofs.LampLemmas.{display_poll-lamps}
use Rattle.panel_session.proofs.TraceLemmas.{told_some}
use Rattle.panel_server.specs.Driven.{has_lamps}
use Rattle.panel_server.specs.DrivenInside.{packet_bytes}

-- what is behind a front of a legal history is legal there
pub legal_behind : (first : State) (front later : List PlantEntry) → IsLegal step Takes first (front ++ later) → IsLegal step Takes (run step first front) later
legal_behind first [] later legal = legal
legal_behind first (entry ∷ front) later legal = legal_behind (step first entry.request).state front later legal.2

-- These are the answers of a plant to a poll of a screen, in some valid state whose protects, protect notices and groups have
-- numbers that any command can tell.
pub record IsAnswerOf (plant : PlantData) (screen : ℕ) (refresh : Bool) (answers : List Answer) : Type 0 where
  pub state : State
  pub valid : IsValid state
  pub short : StaysShort state
  pub plant_is : state.plant ≡ plant
  pub fits : Takes state (DisplayPoll screen refresh)
  pub answers_are : answers ≡ (step state (DisplayPoll screen refresh)).answers

-- What a seat was answered is that.
pub answer_of : (plant : PlantData) (seat seat_then : PlantSeat) (screen : ℕ) (refresh : Bool) (answers : List Answer) → IsPlant plant → IsLegal step Takes (start plant) seat_then.seen
    → SeesAnswers seat (DisplayPoll screen refresh) answers seat_then → IsAnswerOf plant screen refresh answers
answer_of plant seat seat_then screen refresh answers is legal sees =
    let request : Request = DisplayPoll screen refresh in
    let front = seat.seen ++ sees.0 in
    let Legal : List PlantEntry → Type 0 = λ history. IsLegal step Takes (start plant) history in
    let whole : Legal (front ++ asked_by seat request answers ∷ []) = subst Legal sees.1 legal in
    let last = legal_behind (start plant) front (asked_by seat request answers ∷ []) whole in
    let before = legal_front step Takes (start plant) front (asked_by seat request answers ∷ []) whole in
    record {
      state = run step (start plant) front;
      valid = run-valid (start plant) front (IsValid-start plant is);
      short = run-short (start plant) front (IsValid-start plant is) (StaysShort-start plant) before;
      plant_is = run-plant (start plant) front;
      fits = last.0;
      answers_are = last.1;
    }

-- What was read of an outbox that a lock answered a poll by is that.
pub told_is : (plant : PlantData) (seat seat_then : PlantSeat) (screen : ℕ) (refresh : Bool) (answers told : List Answer) → told ≡ answers → IsPlant plant → seat.first ≡ start plant → IsLegal step Takes seat.first seat_then.seen
    → SeesAnswers seat (DisplayPoll screen refresh) answers seat_then → IsAnswerOf plant screen refresh told
told_is plant seat seat_then screen refresh answers told same is first legal sees =
    let Legal : State → Type 0 = λ first. IsLegal step Takes first seat_then.seen in
    let Is : List Answer → Type 0 = λ answers. IsAnswerOf plant screen refresh answers in
    subst Is (sym same) (answer_of plant seat seat_then screen refresh answers is (subst Legal first legal) sees)

-- It can be said,
pub answer_sayable : (plant : PlantData) (screen : ℕ) (refresh : Bool) (answers : List Answer) → IsAnswerOf plant screen refresh answers → All IsSayable answers
answer_sayable plant screen refresh answers is =
    let Sayable : List Answer → Type 0 = λ answers. All IsSayable answers in
    subst Sayable (sym is.answers_are) (All-sayable is.state (DisplayPoll screen refresh) is.valid is.short is.fits)

-- it isn't long,
pub answer_few : (plant : PlantData) (screen : ℕ) (refresh : Bool) (answers : List Answer) → IsAnswerOf plant screen refresh answers → length answers ≤ lamp_limit
answer_few plant screen refresh answers is =
    let Few : List Answer → Type 0 = λ answers. length answers ≤ lamp_limit in
    subst Few (sym is.answers_are) (answer_count is.state (DisplayPoll screen refresh) is.fits)

-- and its lamps are of the plant.
pub answer_lamps : (plant : PlantData) (screen : ℕ) (refresh : Bool) (answers : List Answer) → IsAnswerOf plant screen refresh answers → AreLamps plant answers
answer_lamps plant screen refresh answers is =
    let Of : PlantData → Type 0 = λ plant. AreLamps plant (step is.state (DisplayPoll screen refresh)).answers in
    let At : List Answer → Type 0 = λ answers. AreLamps plant answers in
    subst At (sym is.answers_are) (subst Of is.plant_is (display_poll-lamps is.state screen refresh is.valid))

-- A packet isn't empty.
pub packet_some : (plant : PlantData) (screen : ℕ) (answers : List Answer) → 0 < length (packet_of plant screen answers)
unfolding packet_text
packet_some plant screen answers =
    let counted : List ℕ = counted_text screen (messages_text (flat_map (shown_by plant) answers)) in
    omega (arith, length-append (word (length counted)) counted)

-- So there are bytes of one where there are lamps,
pub packet_bytes_some : (plant : PlantData) (screen : ℕ) (answers : List Answer) → has_lamps answers ≡ true → 0 < length (packet_bytes plant screen answers)
packet_bytes_some plant screen [] lit = absurd cc
packet_bytes_some plant screen (Finished ∷ others) lit = absurd cc
packet_bytes_some plant screen (Lamp display value ∷ others) lit = packet_some plant screen (Lamp display value ∷ others)
packet_bytes_some plant screen (Say message ∷ others) lit = packet_some plant screen (Say message ∷ others)
packet_bytes_some plant screen (Dumped matrix level dest source ∷ others) lit = packet_some plant screen (Dumped matrix level dest source ∷ others)

-- and where there are some, they are what the line of the poll tells.
reply_bytes : (plant : PlantData) (screen : ℕ) (answers : List Answer) → (packet_bytes plant screen answers ≡ [] → ⊥) → told_bytes (packet_bytes plant screen answers) ≡ display_reply plant screen answers
reply_bytes plant screen [] some = absurd (some refl)
reply_bytes plant screen (Finished ∷ others) some = absurd (some refl)
reply_bytes plant screen (Lamp display value ∷ others) some = told_some (packet_of plant screen (Lamp display value ∷ others)) some
reply_bytes plant screen (Say message ∷ others) some = told_some (packet_of plant screen (Say message ∷ others)) some
reply_bytes plant screen (Dumped matrix level dest source ∷ others) some = told_some (packet_of plant screen (Dumped matrix level dest source ∷ others)) some

pub line_of_packet : (plant : PlantData) (position screen : ℕ) (refresh : Bool) (answers : List Answer) (packet : List ℕ) → packet ≡ packet_bytes plant screen answers → (packet ≡ [] → ⊥)
    → told_line position (DisplayPoll screen refresh) packet ≡ trace_line plant position (DisplayPoll screen refresh) answers
line_of_packet plant position screen refresh answers packet is some =
    ap (λ (reply : List ℕ). entry_text position (DisplayPoll screen refresh) reply ++ line_end ∷ [])
    (ap told_bytes is ∙ reply_bytes plant screen answers (λ none. some (is ∙ none)))
