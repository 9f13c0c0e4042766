-- What a session asks, and how its turns end.
use Rattle.std.proofs.Common.{◌≡◌, ℕ, ◌-◌, ◌^◌, ◌<◌, List, [], ◌∷◌, ◌++◌, length, refl, sym, ap, ◌∙◌, subst, arith}
use Rattle.std.proofs.lemmas.List.{length-append}
use Rattle.dle_framing.specs.Items.{items}
use Rattle.swp08_messages.specs.declared.message.Message.{Message}
use Rattle.panel_session.specs.Turns.{bytes_read}
use Rattle.plant_config.specs.Plant.{PlantData}
use Rattle.history_lock.specs.Places.{Placed}
use Rattle.plant_core.specs.Answer.{room_of}
use Rattle.plant_core.specs.declared.answer.Answer.{Answer}
use Rattle.plant_core.specs.declared.request.Request.{Request}
use Rattle.plant_core.specs.declared.request.Request.TheVariants.{Told, Poll}
use Rattle.panel_session.specs.declared.session.asked.Asked.{Asked}
use Rattle.panel_session.specs.declared.session.asked.Asked.TheVariants.{Sent}
use Rattle.panel_session.specs.declared.session.Session.{Session}
use Rattle.panel_session.specs.declared.session.phase.Phase.{Phase}
use Rattle.panel_session.specs.declared.session.phase.Phase.TheVariants.{Read, Tell, Poll as PollStage, End}
use Rattle.panel_session.specs.SoFar.{Progress, read_so_far, with_turn, IsOver}
use Rattle.panel_session.specs.StandsInside.{IsAtStage}
use Rattle.panel_session.specs.Session.{Stands, StandsFor, Awaits, AsksAt, kept_of}
use Rattle.panel_session.specs.ReadingInside.{IsReading}
use Rattle.panel_session.specs.Acting.{IsAsking, MayGoOn}
use Rattle.panel_session.specs.MovesInside.{ended_turn}
use Rattle.panel_session.proofs.KeptItemLemmas.{length-asked}
use Rattle.panel_session.proofs.KeptTurnLemmas.{keeps_text}
use Rattle.panel_session.proofs.StandsLemmas.{fewer_items, stands_to_poll}
use Rattle.panel_session.proofs.ActsLemmas.{stands_turn}

-- A session that stands for a past reads on, where it is at that phase.
pub is_reading : (plant : PlantData) (panel : ℕ) (session : Session) (past : Progress) → StandsFor plant panel session past → session.phase ≡ Read → IsReading plant panel session past
unfolding StandsFor
is_reading plant panel session past stands read = record { stands = stands.0; none_asked = stands.1; phase = read }

has_panel : (plant : PlantData) (panel : ℕ) (session : Session) (past : Progress) → Stands plant panel session past → session.panel < length plant.panels
has_panel plant panel session past stands = let P : ℕ → Type 0 = λ panel. panel < length plant.panels in subst P (sym stands.panel_is) stands.has_panel

box_is : (box : Placed Answer) (room : ℕ) → box.items ≡ [] → box.places ≡ room → box ≡ record { items = []; places = room }
box_is box room empty places = ap (λ (items : List Answer). record { items = items; places = box.places }) empty ∙ ap (λ (places : ℕ). record { items = []; places = places }) places

-- A poll is asked.
asks_a_poll : (plant : PlantData) (panel : ℕ) (session : Session) (now : Progress) → Stands plant panel session now → session.outbox.items ≡ [] → session.phase ≡ PollStage
    → IsAsking plant panel now [] (Poll session.panel session.items session.counts.turns) session
unfolding Awaits
asks_a_poll plant panel session now stands empty poll =
    let AskAt : Phase → Type 0 = λ phase. AsksAt phase (kept_of session) (Poll session.panel session.items session.counts.turns) in (
      (stands, subst AskAt (sym poll) refl),
      box_is session.outbox (room_of plant) empty stands.places,
      has_panel plant panel session now stands,
      refl,
      keeps_text plant (kept_of session) now stands.keeps,
    )

-- A session that has read the piece polls,
pub asks_first_poll : (plant : PlantData) (panel : ℕ) (session : Session) (now : Progress) → IsReading plant panel session now
    → IsAsking plant panel now [] (Poll session.panel session.items session.counts.turns) (record session { phase = PollStage })
asks_first_poll plant panel session now reading =
    asks_a_poll plant panel (record session { phase = PollStage }) now (stands_to_poll plant panel session now reading.stands reading.phase) reading.none_asked refl

-- and polls again.
pub asks_poll : (plant : PlantData) (panel : ℕ) (session : Session) (now : Progress) → StandsFor plant panel session now → session.phase ≡ PollStage
    → IsAsking plant panel now [] (Poll session.panel session.items session.counts.turns) session
unfolding StandsFor
asks_poll plant panel session now stands poll = asks_a_poll plant panel session now stands.0 stands.1 poll

-- What the last item sends to the plant is asked.
pub asks_told : (plant : PlantData) (panel : ℕ) (session : Session) (past : Progress) (rest : List ℕ) (request : Request) (message : Message) → StandsFor plant panel session past → MayGoOn past rest
    → session.phase ≡ Tell message → (0 < session.items → session.items < 2 ^ 62 → request ≡ Told session.panel (session.items - 1) message)
    → IsAsking plant panel past rest request session
unfolding StandsFor Awaits
asks_told plant panel session past rest request message stands may tell is =
    let k = stands.0.keeps in
    let StageAt : Phase → Type 0 = λ phase. IsAtStage phase session.panel (length (items (bytes_read past.turns))) k.before k.asked past in
    let at = subst StageAt tell k.phase in
    let items_are : session.items ≡ length (items (read_so_far past)) = k.items_are in
    let all = length-asked plant (kept_of session) past k in
    let fewer = fewer_items (read_so_far past) rest in
    let asked_is : k.asked ≡ at.0 ++ Sent message ∷ [] = at.1 in
    let some : 0 < session.items = omega (arith, length-append k.before k.asked, ap (length {A = Asked}) asked_is, length-append at.0 (Sent message ∷ [])) in
    let few : session.items < 2 ^ 62 = omega (arith, may.items) in
    let P : Request → Type 0 = λ request. IsAsking plant panel past rest request session in
    let AskAt : Phase → Type 0 = λ phase. AsksAt phase (kept_of session) (Told session.panel (session.items - 1) message) in
    subst P (sym (is some few)) (
      (stands.0, subst AskAt (sym tell) refl),
      box_is session.outbox (room_of plant) stands.1 stands.0.places,
      (has_panel plant panel session past stands.0, at.6),
      at.3,
      keeps_text plant (kept_of session) past stands.0.keeps,
    )

-- The turn is over.
pub rests : (plant : PlantData) (panel : ℕ) (session : Session) (past : Progress) → StandsFor plant panel session past → length past.turns < 2 ^ 62 → session.phase ≡ End
    → IsOver plant panel past × StandsFor plant panel (ended_turn session) (with_turn past)
unfolding StandsFor
rests plant panel session past stands few over =
    let after = stands_turn plant panel session past stands.0 over few in
    (after.0, (after.1, stands.1, λ poll. cc))
