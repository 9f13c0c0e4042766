-- What a turn does when its last item asks the plant something.
use Rattle.std.proofs.Common.{◌≡◌, ℕ, ◌-◌, ◌^◌, ◌<◌, ◌≤◌, true, Bool, List, ◌++◌, length, refl, sym, ap, ◌∙◌, subst}
use Rattle.std.proofs.lemmas.List.{append_assoc}
use Rattle.history_lock.specs.Places.{Placed}
use Rattle.plant_config.specs.Plant.{PlantData}
use Rattle.plant_core.specs.Answer.{room_of}
use Rattle.plant_core.specs.State.{FitsPlant}
use Rattle.plant_core.specs.declared.answer.Answer.{Answer}
use Rattle.plant_core.specs.declared.request.Request.{Request}
use Rattle.plant_core.specs.declared.request.Request.TheVariants.{Told, Poll, Leave, DisplayPoll}
use Rattle.swp08_messages.specs.declared.message.Message.{Message}
use Rattle.panel_session.specs.declared.session.Session.{Session}
use Rattle.panel_session.specs.declared.session.phase.Phase.{Phase}
use Rattle.panel_session.specs.declared.session.phase.Phase.TheVariants.{Read, Tell}
use Rattle.panel_session.specs.Acting.{IsAsking}
use Rattle.panel_session.specs.Answering.{entry_of}
use Rattle.panel_session.specs.EngineInside.{HasAsked, IsOnItsWay, IsUnderWay, bytes_ahead, sent_ahead}
use Rattle.panel_session.specs.Entry.{PlantEntry}
use Rattle.panel_session.specs.MovesInside.{answered_too}
use Rattle.panel_session.specs.RoomsInside.{fitting}
use Rattle.panel_session.specs.Session.{Awaits, made_by, with_outbox}
use Rattle.panel_session.specs.SoFar.{Progress}
use Rattle.trace_lines.specs.TraceLine.{MaySpell}
use Rattle.panel_session.proofs.SentLemmas.{fits_of, taken_too}
use Rattle.panel_session.proofs.AheadLemmas.{ahead_at, all_ahead, answer_frames, made_ahead, made_behind, phase_ahead}
use Rattle.panel_session.proofs.WorkLemmas.{asks_to_tell, told_asked, way_ahead}

-- A request that fits a plant can be spelled.
pub may_spell : (plant : PlantData) (request : Request) → FitsPlant plant request → MaySpell request
may_spell plant (Told panel item message) fits = fits.1.1
may_spell plant (Poll panel item turn) fits = tt
may_spell plant (Leave panel) fits = tt
may_spell plant (DisplayPoll screen refresh) fits = tt

-- It still awaits them where its outbox is the same.
pub awaits_box : (plant : PlantData) (panel : ℕ) (session : Session) (past : Progress) (request : Request) (box : Placed Answer) → box ≡ session.outbox → Awaits plant panel session past request → Awaits plant panel (with_outbox session box) past request
awaits_box plant panel session past request box same awaits =
    let At : Placed Answer → Type 0 = λ box. Awaits plant panel (with_outbox session box) past request in
    subst At (sym same) awaits

-- What was made before, and what the answers make behind it.
told_bytes : (more before made ahead one frames : List ℕ) → more ≡ before ++ made → made ≡ ahead ++ one → more ++ frames ≡ before ++ (ahead ++ (one ++ frames))
told_bytes more before made ahead one frames is split =
    ap (λ (bytes : List ℕ). bytes ++ frames) (is ∙ ap (λ (bytes : List ℕ). before ++ bytes) split)
    ∙ append_assoc before (ahead ++ one) frames
    ∙ ap (λ (bytes : List ℕ). before ++ bytes) (append_assoc ahead one frames)

module _ {Answerer : Type 0} {IsSeat : Answerer → ℕ → Type 0} {Serves : PlantData → Answerer → Type 0} {Answers : Answerer → List PlantEntry → Answerer → Type 0} {sf : Bool} {answerer : Answerer} {rest : List ℕ} where
  -- A session that tells the plant what its last item asks, once what goes ahead was given.
  pub ahead_way : (self one : Session) (message : Message) (on : IsOnItsWay IsSeat Serves Answers sf (record self { phase = Tell message }) answerer rest) → one ≡ sent_ahead sf self
      → IsUnderWay Answers sf on.plant on.panel on.seat on.past on.piece on.first answerer (record one { phase = Tell message }) rest on.now on.more
  ahead_way self one message on is =
      let Of : Session → Type 0 = λ session. IsUnderWay Answers sf on.plant on.panel on.seat on.past on.piece on.first answerer session rest on.now on.more in
      let same : record one { phase = Tell message } ≡ sent_ahead sf (record self { phase = Tell message }) = ap (λ (session : Session). record session { phase = Tell message }) is ∙ ahead_at sf self (Tell message) in
      subst Of (sym same) (way_ahead sf on.way)

  pub ahead_acts : (self one : Session) (message : Message) (request : Request) (on : IsOnItsWay IsSeat Serves Answers sf (record self { phase = Tell message }) answerer rest) → one ≡ sent_ahead sf self
      → (0 < one.items → one.items < 2 ^ 62 → request ≡ Told one.panel (one.items - 1) message)
      → IsAsking on.plant on.panel on.now rest request (record one { phase = Tell message })
  ahead_acts self one message request on is asks =
      asks_to_tell request message on.may (ahead_way self one message on is) refl asks

  -- It was answered.
  pub record HasTold (self one after : Session) (message : Message) (request : Request) (box : Placed Answer) (on : IsOnItsWay IsSeat Serves Answers sf (record self { phase = Tell message }) answerer rest) (before : List ℕ) : Type 0 where
    pub way : IsUnderWay Answers sf on.plant on.panel on.seat on.past on.piece on.first answerer (record one { phase = Tell message }) rest on.now on.more
    pub added : List ℕ
    pub asked : HasAsked on.plant on.panel on.seat on.past on.piece on.now rest (entry_of on.seat request box.items) added after
    pub fits : box.items ≡ fitting one.sender.names box.items
    pub bytes : on.more ++ added ≡ before ++ (bytes_ahead sf (made_by self) ++ made_by after)
    pub alone : sf ≡ true → on.more ≡ before ++ bytes_ahead sf (made_by self)

  pub has_told : (self one after : Session) (message : Message) (request : Request) (box : Placed Answer) (on : IsOnItsWay IsSeat Serves Answers sf (record self { phase = Tell message }) answerer rest) (before : List ℕ)
      → self.phase ≡ Read → one ≡ sent_ahead sf self → (0 < one.items → one.items < 2 ^ 62 → request ≡ Told one.panel (one.items - 1) message)
      → box.places ≡ one.outbox.places → length box.items ≤ room_of on.plant → after ≡ answered_too box.items (with_outbox one box) → on.more ≡ before ++ made_by self
      → HasTold self one after message request box on before
  has_told self one after message request box on before reads is asks places few same more =
      let asking : Session = record one { phase = Tell message } in
      let way = ahead_way self one message on is in
      let acts = ahead_acts self one message request on is asks in
      let frames = answer_frames asking box.items in
      let reading : one.phase ≡ Read = ap (λ (session : Session). session.phase) is ∙ phase_ahead sf self ∙ reads in
      let same_then : after ≡ answered_too box.items (record asking { phase = Read }) =
      same ∙ taken_too one box box.items refl places ∙ ap (λ (phase : Phase). answered_too box.items (record one { phase = phase })) reading in
      let Asked : Session → Type 0 = λ after. HasAsked on.plant on.panel on.seat on.past on.piece on.now rest (entry_of on.seat request box.items) frames after in
      let split : made_by self ≡ bytes_ahead sf (made_by self) ++ made_by one = made_ahead sf self ∙ ap (λ (session : Session). bytes_ahead sf (made_by self) ++ made_by session) (sym is) in
      let made : made_by after ≡ made_by one ++ frames = ap made_by same_then ∙ made_behind (record one { phase = Read }) box.items in
      record {
        way = way;
        added = frames;
        asked = subst Asked (sym same_then) (told_asked asking request message box.items way.come refl acts few);
        fits = sym (fits_of on.plant on.panel asking on.now request box.items acts.0 few);
        bytes = told_bytes on.more before (made_by self) (bytes_ahead sf (made_by self)) (made_by one) frames more split
            ∙ ap (λ (bytes : List ℕ). before ++ (bytes_ahead sf (made_by self) ++ bytes)) (sym made);
        alone = λ yes. more ∙ ap (λ (bytes : List ℕ). before ++ bytes) (sym (all_ahead sf (made_by self) yes));
      }
