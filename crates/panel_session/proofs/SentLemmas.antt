-- A session of which the frames of answers are sent.
use Rattle.std.proofs.Common.{◌≡◌, ◌≢◌, ℕ, ◌+◌, ◌-◌, ◌≤◌, true, List, [], ◌∷◌, ◌++◌, length, refl, sym, ap, ◌∙◌, subst, arith, inl, inr}
use Rattle.std.proofs.lemmas.List.{append-nil, length-append}
use Rattle.dle_framing.specs.Items.{items}
use Rattle.history_lock.specs.Places.{Placed}
use Rattle.plant_config.specs.Plant.{PlantData}
use Rattle.plant_core.specs.Answer.{room_of}
use Rattle.plant_core.specs.declared.answer.Answer.{Answer}
use Rattle.plant_core.specs.declared.request.Request.{Request}
use Rattle.plant_core.specs.declared.request.Request.TheVariants.{Told, Poll}
use Rattle.swp08_messages.specs.declared.message.Message.{Message}
use Rattle.panel_session.specs.declared.session.Session.{Session}
use Rattle.panel_session.specs.declared.session.phase.Phase.{Phase}
use Rattle.panel_session.specs.declared.session.phase.Phase.TheVariants.{Read, Name, Tell, Poll as PollStage, End}
use Rattle.panel_session.specs.declared.session.asked.Asked.{Asked}
use Rattle.panel_session.specs.declared.session.asked.Asked.TheVariants.{Sent}
use Rattle.panel_session.specs.Entry.{PlantEntry}
use Rattle.panel_session.specs.MovesInside.{took_answers, answered_too}
use Rattle.panel_session.specs.OutgoingInside.{emptied}
use Rattle.panel_session.specs.PolledInside.{HasPolled}
use Rattle.panel_session.specs.ReadingInside.{IsReading, HasTaken}
use Rattle.panel_session.specs.RoomsInside.{fitting}
use Rattle.panel_session.specs.SenderKept.{sending}
use Rattle.panel_session.specs.Session.{Stands, StandsFor, Awaits, AsksAt, kept_of, made_by, with_outbox}
use Rattle.panel_session.specs.SoFar.{Progress, unstarted, read_so_far, with_sent, with_entry}
use Rattle.panel_session.specs.StandsInside.{IsAtStage}
use Rattle.panel_session.specs.Text.{frames_of, with_frames}
use Rattle.panel_session.specs.Turns.{Turn, bytes_read}
use Rattle.panel_session.proofs.ActsLemmas.{stands_polled_last, stands_polled_more}
use Rattle.panel_session.proofs.KeptItemLemmas.{length-asked, length-before}
use Rattle.panel_session.proofs.RoomLemmas.{fits-all}
use Rattle.panel_session.proofs.StandsLemmas.{stands_told, stands_with}
use Rattle.panel_session.proofs.KeepsLemmas.{keeps_bytes, with_answered}

-- A session stands for the same past, whatever it has sent.
pub stands_whatever : (plant : PlantData) (panel : ℕ) (session : Session) (past : Progress) (bytes : List ℕ) → StandsFor plant panel session past
    → StandsFor plant panel (record session { sender = sending (record session.sender.output { bytes = bytes }) session.sender }) past
unfolding StandsFor
stands_whatever plant panel session past bytes stands = (
  stands_with plant panel session (record session { sender = sending (record session.sender.output { bytes = bytes }) session.sender }) past past stands.0 refl refl refl refl refl refl refl refl
      (keeps_bytes plant (kept_of session) past bytes stands.0.keeps),
  stands.1,
  stands.2,
)

-- There is room for the answers that a session awaits.
pub fits_of : (plant : PlantData) (panel : ℕ) (session : Session) (past : Progress) (request : Request) (answers : List Answer) → Awaits plant panel session past request → length answers ≤ room_of plant → fitting session.sender.names answers ≡ answers
unfolding Awaits
fits_of plant panel session past request answers awaits few = ap (λ (plant : PlantData). fitting plant answers) awaits.0.names_are ∙ fits-all plant answers few

-- what a session asks that is to tell the plant a message
pub told_is : (plant : PlantData) (panel : ℕ) (session : Session) (past : Progress) (request : Request) (message : Message) → Awaits plant panel session past request → session.phase ≡ Tell message
    → request ≡ Told session.panel (session.items - 1) message
unfolding Awaits
told_is plant panel session past request message awaits tell =
    let AskAt : Phase → Type 0 = λ phase. AsksAt phase (kept_of session) request in
    subst AskAt tell awaits.1

-- The plant answered what an item sent to it, and the frames of the answers are sent.
pub told_sent : (plant : PlantData) (panel seat : ℕ) (session : Session) (past : Progress) (request : Request) (message : Message) (answers : List Answer) → Awaits plant panel session past request
    → length answers ≤ room_of plant → session.phase ≡ Tell message
    → StandsFor plant panel (took_answers (fitting session.sender.names answers) (record session { phase = Read }))
    (with_sent (with_frames (frames_of (fitting session.sender.names answers)) (emptied session.sender.output)).bytes (with_entry (record { seat = seat; request = request; answers = answers }) past))
unfolding StandsFor Awaits
told_sent plant panel seat session past request message answers awaits few tell =
    let For : Request → List Answer → Type 0 = λ request fit. StandsFor plant panel (took_answers fit (record session { phase = Read }))
    (with_sent (with_frames (frames_of fit) (emptied session.sender.output)).bytes (with_entry (record { seat = seat; request = request; answers = answers }) past)) in
    let By : Request → Type 0 = λ request. For request answers in
    let stands : By (Told session.panel (session.items - 1) message) = (stands_told plant panel seat session past message answers awaits.0 tell, refl, λ poll. cc) in
    subst (For request) (sym (fits_of plant panel session past request answers awaits few))
    (subst By (sym (told_is plant panel session past request message awaits tell)) stands)

some_polls : (answered : List PlantEntry) (last : PlantEntry) → answered ++ last ∷ [] ≡ [] → ⊥
some_polls answered last none = absurd (omega (arith, ap (length {A = PlantEntry}) none, length-append answered (last ∷ [])))

-- So it is with a poll.
pub polled_sent : (plant : PlantData) (panel seat : ℕ) (session : Session) (past : Progress) (request : Request) (phase : Phase) (polls : ℕ) (answers : List Answer) → Awaits plant panel session past request
    → length answers ≤ room_of plant → session.phase ≡ PollStage → polls ≡ session.polls + 1 → HasPolled answers polls phase
    → StandsFor plant panel (took_answers (fitting session.sender.names answers) (record session { phase = phase; polls = polls }))
    (with_sent (with_frames (frames_of (fitting session.sender.names answers)) (emptied session.sender.output)).bytes (with_entry (record { seat = seat; request = request; answers = answers }) past))
unfolding StandsFor Awaits
polled_sent plant panel seat session past request phase polls answers awaits few poll counted polled =
    let asking = Poll session.panel session.items session.counts.turns in
    let AskAt : Phase → Type 0 = λ phase. AsksAt phase (kept_of session) request in
    let asked : request ≡ asking = subst AskAt poll awaits.1 in
    let For : Request → List Answer → Type 0 = λ request fit. StandsFor plant panel (took_answers fit (record session { phase = phase; polls = polls }))
    (with_sent (with_frames (frames_of fit) (emptied session.sender.output)).bytes (with_entry (record { seat = seat; request = request; answers = answers }) past)) in
    let By : Request → Type 0 = λ request. For request answers in
    let entry : PlantEntry = record { seat = seat; request = asking; answers = answers } in
    let At : Phase → Type 0 = λ phase. Stands plant panel (took_answers answers (record session { phase = phase; polls = polls })) (with_answered session.sender.output entry past) in
    let stood : At phase = elim polled [
      | (inl last) ↦ subst At (sym last.0) (stands_polled_last plant panel seat session past polls answers awaits.0 poll counted last.1)
      | (inr more) ↦ subst At (sym more.0) (stands_polled_more plant panel seat session past polls answers awaits.0 poll counted more.1 more.2)
    ] in
    let stands : By asking = (stood, refl, λ poll. some_polls past.now.polls entry) in
    subst (For request) (sym (fits_of plant panel session past request answers awaits few)) (subst By (sym asked) stands)

-- What was made for an item is sent.
pub taken_stands : (plant : PlantData) (panel : ℕ) (session : Session) (now : Progress) → HasTaken plant panel now true session → StandsFor plant panel session (with_sent (made_by session) now)
unfolding StandsFor
taken_stands plant panel session now has = (has.0, has.1, λ poll. absurd (has.3 poll))

-- A session that reads stands for its past.
pub reading_stands : (plant : PlantData) (panel : ℕ) (session : Session) (past : Progress) → IsReading plant panel session past → StandsFor plant panel session past
unfolding StandsFor
reading_stands plant panel session past reading = (reading.stands, reading.none_asked, λ poll. (let read = reading.phase in cc))

-- The answers were taken from an outbox with as many places.
pub taken_too : (session : Session) (box : Placed Answer) (answers : List Answer) → box.items ≡ answers → box.places ≡ session.outbox.places → answered_too box.items (with_outbox session box) ≡ answered_too answers session
taken_too session box answers items places =
    let taken : ℕ → List Answer → Session = λ places answers. record (answered_too answers session) { outbox = record { items = []; places = places } } in
    ap (λ (places : ℕ). taken places box.items) places ∙ ap (taken session.outbox.places) items

-- a session that reads has not polled in the turn
pub polls_none : (plant : PlantData) (panel : ℕ) (session : Session) (past : Progress) → IsReading plant panel session past → session.polls ≡ 0
polls_none plant panel session past reading =
    let k = reading.stands.keeps in
    let StageAt : Phase → Type 0 = λ phase. IsAtStage phase session.panel (length (items (bytes_read past.turns))) k.before k.asked past in
    let at = subst StageAt reading.phase k.phase in
    let polls_are : session.polls ≡ length past.now.polls = k.polls_are in
    polls_are ∙ ap (length {A = PlantEntry}) at.1

-- A session that stands for a past whose present turn read nothing and made no poll reads.
pub reads_unread : (plant : PlantData) (panel : ℕ) (session : Session) (past : Progress) (phase : Phase) → session.phase ≡ phase → StandsFor plant panel session past → past.now ≡ unstarted → session.phase ≡ Read
unfolding StandsFor
reads_unread plant panel session past Read is stands begins = is
reads_unread plant panel session past (Name page) is stands begins =
    let k = stands.0.keeps in
    let StageAt : Phase → Type 0 = λ phase. IsAtStage phase session.panel (length (items (bytes_read past.turns))) k.before k.asked past in
    absurd (subst StageAt is k.phase)
reads_unread plant panel session past (Tell message) is stands begins =
    let k = stands.0.keeps in
    let StageAt : Phase → Type 0 = λ phase. IsAtStage phase session.panel (length (items (bytes_read past.turns))) k.before k.asked past in
    let at = subst StageAt is k.phase in
    let all = length-asked plant (kept_of session) past k in
    let front = length-before plant (kept_of session) past k in
    let asked_is : k.asked ≡ at.0 ++ Sent message ∷ [] = at.1 in
    let read : read_so_far past ≡ bytes_read past.turns = ap (λ (turn : Turn). bytes_read past.turns ++ turn.piece) begins ∙ append-nil (bytes_read past.turns) in
    absurd (omega (
      arith,
      all,
      front,
      ap (λ (text : List ℕ). length (items text)) read,
      length-append k.before k.asked,
      ap (length {A = Asked}) asked_is,
      length-append at.0 (Sent message ∷ []),
    ))
reads_unread plant panel session past PollStage is stands begins = absurd (stands.2 is (ap (λ (turn : Turn). turn.polls) begins))
reads_unread plant panel session past End is stands begins =
    let k = stands.0.keeps in
    let StageAt : Phase → Type 0 = λ phase. IsAtStage phase session.panel (length (items (bytes_read past.turns))) k.before k.asked past in
    let at = subst StageAt is k.phase in
    let none : past.now.polls ≡ [] = ap (λ (turn : Turn). turn.polls) begins in
    absurd (omega (arith, ap (length {A = PlantEntry}) at.1.polls_are, ap (length {A = PlantEntry}) none, length-append at.1.answered (at.1.last ∷ [])))

-- A poll that isn't the last has answers, and isn't the 32nd.
pub polls_again : (answers : List Answer) (polls : ℕ) (phase : Phase) → HasPolled answers polls phase → (phase ≡ End → ⊥) → (phase ≡ PollStage) × (polls ≢ 32)
polls_again answers polls phase polled goes_on = elim polled [ (inl last) ↦ absurd (goes_on last.0) | (inr more) ↦ (more.0, more.2) ]
