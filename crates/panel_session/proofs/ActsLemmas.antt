-- What a session stands for, call by call.
use Rattle.std.proofs.Common.{◌≡◌, ◌≢◌, ℕ, ◌+◌, ◌^◌, ◌<◌, ◌≤◌, true, false, Bool, List, [], ◌∷◌, ◌++◌, length, take, drop, Option, Some, None, refl, sym, ap, ◌∙◌, subst, arith, ◌⊎◌, inl, inr}
use Rattle.std.specs.Option.{option_to_list}
use Rattle.std.proofs.lemmas.List.{append_assoc, append-nil, take-append-drop}
use Rattle.dle_framing.specs.Framer as framer
use Rattle.dle_framing.specs.declared.framer.Framer.{Framer}
use Rattle.dle_framing.specs.declared.item.Item.{Item}
use Rattle.dle_framing.specs.Items.{TextReading, items}
use Rattle.dle_framing.proofs.Readings.{reading-by_start}
use Rattle.panel_session.specs.Turns.{bytes_read, IsTurn}
use Rattle.plant_config.specs.Plant.{PlantData}
use Rattle.plant_core.specs.declared.answer.Answer.{Answer}
use Rattle.plant_core.specs.declared.request.Request.TheVariants.{Poll}
use Rattle.panel_session.specs.declared.session.asked.Asked.{Asked}
use Rattle.panel_session.specs.declared.session.asked.Asked.TheVariants.{Nothing, Repeat, Refused, Noted, Named, Sent}
use Rattle.panel_session.specs.declared.session.Session.{Session}
use Rattle.panel_session.specs.declared.session.phase.Phase.TheVariants.{Read, Poll as PollStage, End}
use Rattle.panel_session.specs.Asked.{Asks}
use Rattle.panel_session.specs.AskedInside.{FoundAsks, MayAsk}
use Rattle.panel_session.specs.Counted.{goods_of, bads_of}
use Rattle.panel_session.specs.SoFar.{Progress, read_so_far, with_bytes, with_sent, with_turn, nothing_yet, IsOver, IsSoFar}
use Rattle.panel_session.specs.TakenInside.{taken_phase, sent_by}
use Rattle.panel_session.specs.Text.{nothing_sent}
use Rattle.panel_session.specs.StandsInside.{Kept, Keeps}
use Rattle.panel_session.specs.Session.{Stands, kept_of}
use Rattle.panel_session.specs.ReadingInside.{IsReading, HasTaken}
use Rattle.plant_core.specs.Answer.{room_of}
use Rattle.panel_session.specs.MovesInside.{next, took, took_answers, ended_turn}
use Rattle.panel_session.proofs.KeptTurnLemmas.{keeps_so_far, keeps_polled_more, keeps_turn, keeps_nothing, keeps_text, turn_over, bytes_of-append}
use Rattle.panel_session.proofs.KeptItemLemmas.{reading}
use Rattle.panel_session.proofs.KeepsLemmas.{keeps_polled_last, with_answered}
use Rattle.panel_session.proofs.StandsLemmas.{next-small, fewer_items, phase-is, kept_same, at_phase, stands_item, stands_none, stands_with}

-- The plant answered a poll, and the frames of the answers are sent: it was the last poll of a turn,
pub stands_polled_last : (plant : PlantData) (panel seat : ℕ) (session : Session) (past : Progress) (polls : ℕ) (answers : List Answer) → Stands plant panel session past
    → session.phase ≡ PollStage → polls ≡ session.polls + 1 → (answers ≡ []) ⊎ (polls ≡ 32)
    → Stands plant panel (took_answers answers (record session { phase = End; polls = polls }))
    (with_answered session.sender.output (record { seat = seat; request = Poll session.panel session.items session.counts.turns; answers = answers }) past)
stands_polled_last plant panel seat session past polls answers stands poll is last =
    let KeepsOf : Kept → Type 0 = λ kept. Keeps plant kept past in
    let k = subst KeepsOf (at_phase session PollStage poll) stands.keeps in
    let later = with_answered session.sender.output (record { seat = seat; request = Poll session.panel session.items session.counts.turns; answers = answers }) past in
    let KeepsAt : ℕ → Type 0 = λ polls. Keeps plant (kept_of (took_answers answers (record session { phase = End; polls = polls }))) later in
    let full : (answers ≡ []) ⊎ (session.polls + 1 ≡ 32) = elim last [ (inl none) ↦ inl none | (inr full) ↦ inr (sym is ∙ full) ] in
    stands_with plant panel session (took_answers answers (record session { phase = End; polls = polls })) past later stands refl refl refl refl refl refl refl refl
    (subst KeepsAt (sym is) (keeps_polled_last plant session.panel session.items session.counts.turns session.polls seat session.sender.output past answers k full))

-- or another comes.
pub stands_polled_more : (plant : PlantData) (panel seat : ℕ) (session : Session) (past : Progress) (polls : ℕ) (answers : List Answer) → Stands plant panel session past
    → session.phase ≡ PollStage → polls ≡ session.polls + 1 → answers ≢ [] → polls ≢ 32
    → Stands plant panel (took_answers answers (record session { phase = PollStage; polls = polls }))
    (with_answered session.sender.output (record { seat = seat; request = Poll session.panel session.items session.counts.turns; answers = answers }) past)
stands_polled_more plant panel seat session past polls answers stands poll is one below =
    let KeepsOf : Kept → Type 0 = λ kept. Keeps plant kept past in
    let k = subst KeepsOf (at_phase session PollStage poll) stands.keeps in
    let later = with_answered session.sender.output (record { seat = seat; request = Poll session.panel session.items session.counts.turns; answers = answers }) past in
    let KeepsAt : ℕ → Type 0 = λ polls. Keeps plant (kept_of (took_answers answers (record session { phase = PollStage; polls = polls }))) later in
    stands_with plant panel session (took_answers answers (record session { phase = PollStage; polls = polls })) past later stands refl refl refl refl refl refl refl refl
    (subst KeepsAt (sym is) (keeps_polled_more plant session.panel session.items session.counts.turns session.polls seat session.sender.output past answers k one (λ full. below (is ∙ full))))

-- The turn is over.
pub stands_turn : (plant : PlantData) (panel : ℕ) (session : Session) (past : Progress) → Stands plant panel session past → session.phase ≡ End → length past.turns < 2 ^ 62
    → IsOver plant panel past × Stands plant panel (ended_turn session) (with_turn past)
stands_turn plant panel session past stands over small =
    let KeepsOf : Kept → Type 0 = λ kept. Keeps plant kept past in
    let k = subst KeepsOf (at_phase session End over) stands.keeps in
    let KeepsThen : Kept → Type 0 = λ kept. Keeps plant kept (with_turn past) in
    let turns_are : session.counts.turns ≡ length past.turns = k.turns_are in
    let one_more : next session.counts.turns ≡ session.counts.turns + 1 = next-small session.counts.turns (omega arith) in
    let TurnOf : ℕ → Type 0 = λ panel. IsTurn panel past.turns past.now in
    let read : read_so_far (with_turn past) ≡ read_so_far past = append-nil (bytes_read (past.turns ++ past.now ∷ [])) ∙ bytes_of-append past.turns past.now in (
      record {
        turn = subst TurnOf stands.panel_is (turn_over plant session.panel session.items session.counts.turns session.polls session.sender.output past k);
        text = keeps_text plant (kept_of session) past stands.keeps;
      },
      stands_with plant panel session (ended_turn session) past (with_turn past) stands read refl refl refl refl refl refl refl
          (subst KeepsThen
          (sym (kept_same session.panel 0 session.sender.output Read Read session.items session.items (next session.counts.turns) (session.counts.turns + 1) refl refl one_more))
          (keeps_turn plant session.panel session.items session.counts.turns session.polls session.sender.output past k)),
    )

-- A session to which nothing happened.
pub stands_new : (plant : PlantData) (panel : ℕ) (session : Session) → session.plant.now ≡ plant → session.sender.names ≡ plant → session.panel ≡ panel → panel < length plant.panels → framer.StandsFor session.framer []
    → kept_of session ≡ reading panel 0 0 0 nothing_sent → session.counts.goods ≡ 0 → session.counts.bads ≡ 0 → session.outbox.places ≡ room_of plant
    → Stands plant panel session nothing_yet
stands_new plant panel session plant_is names_are panel_is has_panel fed kept goods bads places =
    let KeepsOf : Kept → Type 0 = λ kept. Keeps plant kept nothing_yet in
    let none : items [] ≡ [] = ap (λ (reading : TextReading). reading.items) (reading-by_start []) in
    record {
      plant_is = plant_is;
      names_are = names_are;
      panel_is = panel_is;
      has_panel = has_panel;
      framer = fed;
      keeps = subst KeepsOf (sym kept) (keeps_nothing plant panel);
      goods = goods ∙ ap goods_of (sym none);
      bads = bads ∙ ap bads_of (sym none);
      places = places;
    }

pub stands_so_far_lem : (plant : PlantData) (panel : ℕ) (session : Session) (past : Progress) → Stands plant panel session past → IsSoFar plant panel past
stands_so_far_lem plant panel session past stands =
    let P : ℕ → Type 0 = λ panel. IsSoFar plant panel past in
    subst P stands.panel_is (keeps_so_far plant (kept_of session) past stands.keeps)

-- fewer items end in a front of a piece
front_small : (text piece : List ℕ) (used : ℕ) → length (items (text ++ piece)) < 2 ^ 62 → length (items (text ++ take used piece)) < 2 ^ 62
front_small text piece used small =
    let whole : (text ++ take used piece) ++ drop used piece ≡ text ++ piece = append_assoc text (take used piece) (drop used piece) ∙ ap (λ (bytes : List ℕ). text ++ bytes) (take-append-drop used piece) in
    let P : List ℕ → Type 0 = λ whole. length (items (text ++ take used piece)) ≤ length (items whole) in
    let less : length (items (text ++ take used piece)) ≤ length (items (text ++ piece)) = subst P whole (fewer_items (text ++ take used piece) (drop used piece)) in
    omega arith

-- the item of which there is something asked
the_item : (item : Option (Item (List ℕ))) (a : Asked) → MayAsk item (Some a) → (one : Item (List ℕ)) × (item ≡ Some one) × Asks one a
the_item None a asks = absurd asks
the_item (Some one) a asks = (one, refl, asks)

no_item : (item : Option (Item (List ℕ))) → MayAsk item None → item ≡ None
no_item None asks = refl
no_item (Some one) asks = absurd asks

no_poll_phase : (a : Asked) → taken_phase a ≡ PollStage → ⊥
no_poll_phase Nothing is = cc
no_poll_phase Repeat is = cc
no_poll_phase Refused is = cc
no_poll_phase Noted is = cc
no_poll_phase (Named message) is = cc
no_poll_phase (Sent message) is = cc

-- An item was taken, and something is to be sent or not.
pub has_taken_item : (plant : PlantData) (panel : ℕ) (session after : Session) (past : Progress) (piece : List ℕ) (used : ℕ) (a : Asked) (framer_then : Framer) (send : Bool) → IsReading plant panel session past
    → length (items (read_so_far past ++ piece)) < 2 ^ 62 → FoundAsks (read_so_far past) piece used (Some a) → framer.StandsFor framer_then (read_so_far past ++ take used piece)
    → after ≡ took plant a (record session { framer = framer_then }) → (send ≡ true → sent_by plant a session.sender.output ≢ []) → (send ≡ true → after.sender.output.bytes ≡ sent_by plant a session.sender.output)
    → (send ≡ false → sent_by plant a session.sender.output ≡ []) → (send ≡ false → after.phase ≡ session.phase)
    → HasTaken plant panel (with_bytes (take used piece) past) send after
has_taken_item plant panel session after past piece used a framer_then send reading small found fed is some sent none quiet =
    let now = with_bytes (take used piece) past in
    let one = the_item found.item a found.asks in
    let adds : items (read_so_far past ++ take used piece) ≡ items (read_so_far past) ++ one.0 ∷ [] =
    found.feeds.adds ∙ ap (λ (item : Option (Item (List ℕ))). items (read_so_far past) ++ option_to_list item) one.1 in
    let At : Session → Type 0 = λ after. Stands plant panel after (with_sent (sent_by plant a session.sender.output) now) in
    let stands : Stands plant panel after (with_sent (sent_by plant a session.sender.output) now) =
    subst At (sym is) (stands_item plant panel session past (take used piece) one.0 a framer_then reading.stands reading.phase adds one.2 fed (front_small (read_so_far past) piece used small)) in
    let SentAt : List ℕ → Type 0 = λ bytes. Stands plant panel after (with_sent bytes now) in
    let empty : after.outbox.items ≡ [] = ap (λ (session : Session). session.outbox.items) is ∙ reading.none_asked in
    let staged : after.phase ≡ taken_phase a = ap (λ (session : Session). session.phase) is ∙ phase-is a session.phase reading.phase in
    (elim send as (λ send. (send ≡ true → sent_by plant a session.sender.output ≢ []) → (send ≡ true → after.sender.output.bytes ≡ sent_by plant a session.sender.output)
    → (send ≡ false → sent_by plant a session.sender.output ≡ []) → (send ≡ false → after.phase ≡ session.phase) → HasTaken plant panel now send after) [
      | true ↦ λ some sent none quiet. (
        subst SentAt (sym (sent refl)) stands,
        empty,
        (λ gone. some refl (sym (sent refl) ∙ gone)),
        (λ poll. no_poll_phase a (sym staged ∙ poll)),
      )
      | false ↦ λ some sent none quiet. record {
        stands = (let NowAt : Progress → Type 0 = λ past. Stands plant panel after past in
            subst NowAt (ap (λ (bytes : List ℕ). record now { sent = bytes }) (append-nil now.sent)) (subst SentAt (none refl) stands));
        none_asked = empty;
        phase = quiet refl ∙ reading.phase;
      }
    ]) some sent none quiet

-- No item ended in the piece.
pub has_read_none : (plant : PlantData) (panel : ℕ) (session : Session) (past : Progress) (piece : List ℕ) (used : ℕ) (framer_then : Framer) → IsReading plant panel session past
    → FoundAsks (read_so_far past) piece used None → framer.StandsFor framer_then (read_so_far past ++ take used piece)
    → IsReading plant panel (record session { framer = framer_then }) (with_bytes (take used piece) past)
has_read_none plant panel session past piece used framer_then reading found fed =
    let adds : items (read_so_far past ++ take used piece) ≡ items (read_so_far past) =
    found.feeds.adds ∙ ap (λ (item : Option (Item (List ℕ))). items (read_so_far past) ++ option_to_list item) (no_item found.item found.asks) ∙ append-nil (items (read_so_far past)) in
    record {
      stands = stands_none plant panel session past (take used piece) framer_then reading.stands reading.phase adds fed;
      none_asked = reading.none_asked;
      phase = reading.phase;
    }
