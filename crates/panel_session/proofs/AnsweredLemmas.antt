-- That all was sent which a session had to say when it asked last.
use Rattle.std.proofs.Common.{◌≡◌, ℕ, ◌+◌, ◌-◌, List, [], ◌∷◌, ◌++◌, length, refl, sym, ap, ◌∙◌, subst, arith}
use Rattle.std.proofs.lemmas.List.{append_assoc, append-nil, length-append, same_from_push}
use mathlib.Core.List.{IsPrefix}
use Rattle.dle_framing.specs.declared.item.Item.{Item}
use Rattle.dle_framing.specs.Items.{items}
use Rattle.dle_framing.proofs.LawLemmas.{items_front}
use Rattle.history_lock.proofs.Fronts.{front_self, front_trans}
use Rattle.plant_config.specs.Plant.{PlantData}
use Rattle.plant_core.specs.declared.request.Request.{Request}
use Rattle.panel_session.specs.declared.session.Session.{Session}
use Rattle.panel_session.specs.declared.session.asked.Asked.{Asked}
use Rattle.panel_session.specs.declared.session.asked.Asked.TheVariants.{Sent}
use Rattle.panel_session.specs.declared.session.phase.Phase.{Phase}
use Rattle.panel_session.specs.declared.session.phase.Phase.TheVariants.{Read, Name, Tell, Poll as PollStage, End}
use Rattle.panel_session.specs.Entry.{PlantEntry}
use Rattle.panel_session.specs.Served.{AnsweredButLast, IsSentBefore, items_before}
use Rattle.panel_session.specs.ServedInside.{KeepsAnswered}
use Rattle.panel_session.specs.Session.{Awaits, AsksAt, kept_of}
use Rattle.panel_session.specs.SoFar.{Progress, entries_so_far, nothing_yet, read_so_far, with_entry}
use Rattle.panel_session.specs.StandsInside.{IsAtStage}
use Rattle.panel_session.specs.Text.{IsText}
use Rattle.panel_session.specs.Turns.{bytes_read}
use Rattle.panel_session.proofs.KeptItemLemmas.{length-asked}

-- It stays so once more is sent,
pub answered_front : (plant : PlantData) (read : List ℕ) (entries : List PlantEntry) (one other : List ℕ) → IsPrefix one other → AnsweredButLast plant read entries one → AnsweredButLast plant read entries other
answered_front plant read entries one other front answered = λ before last is.
    let s = answered before last is in
    record {
      earlier = s.earlier;
      later = s.later;
      items_are = s.items_are;
      counted = s.counted;
      text = s.text;
      is_text = s.is_text;
      sent = front_trans s.text one other s.sent front;
    }

-- and once more is read.
pub answered_more : (plant : PlantData) (read more : List ℕ) (entries : List PlantEntry) (bytes : List ℕ) → AnsweredButLast plant read entries bytes → AnsweredButLast plant (read ++ more) entries bytes
answered_more plant read more entries bytes answered = λ before last is.
    let s = answered before last is in
    let front = items_front read (read ++ more) (more, refl) in
    record {
      earlier = s.earlier;
      later = s.later ++ front.0;
      items_are = sym front.1 ∙ ap (λ (its : List (Item (List ℕ))). its ++ front.0) s.items_are ∙ append_assoc s.earlier s.later front.0;
      counted = s.counted;
      text = s.text;
      is_text = s.is_text;
      sent = s.sent;
    }

-- Nothing was asked yet.
pub answered_begins : (plant : PlantData) → KeepsAnswered plant nothing_yet
answered_begins plant = λ before last is. absurd (omega (arith, ap (length {A = PlantEntry}) is, length-append before (last ∷ [])))

-- A request was answered, once all of the text before it was sent.
pub answered_entry : (plant : PlantData) (entry : PlantEntry) (past : Progress) → entries_so_far (with_entry entry past) ≡ entries_so_far past ++ entry ∷ [] → (with_entry entry past).now.piece ≡ past.now.piece
    → length (items (read_so_far past)) ≡ items_before entry.request → IsText plant (items (read_so_far past)) (entries_so_far past) past.sent → KeepsAnswered plant (with_entry entry past)
answered_entry plant entry past entries piece counted text = λ before last is.
    let read = read_so_far (with_entry entry past) in
    let same = same_from_push before (entries_so_far past) last entry (sym is ∙ entries) in
    let Before : List PlantEntry → Type 0 = λ before. IsSentBefore plant read before last.request past.sent in
    let Last : PlantEntry → Type 0 = λ last. IsSentBefore plant read (entries_so_far past) last.request past.sent in
    let here : Last entry = record {
      earlier = items (read_so_far past);
      later = [];
      items_are = ap (λ (piece : List ℕ). items (bytes_read past.turns ++ piece)) piece ∙ sym (append-nil (items (read_so_far past)));
      counted = counted;
      text = past.sent;
      is_text = text;
      sent = front_self past.sent;
    } in
    subst Before (sym same.0) (subst Last (sym same.1) here)

-- Where a session awaits an answer, it has read the items before what it asked.
pub awaits_counted : (plant : PlantData) (panel : ℕ) (session : Session) (past : Progress) (request : Request) → Awaits plant panel session past request → length (items (read_so_far past)) ≡ items_before request
unfolding Awaits
awaits_counted plant panel session past request awaits = at session.phase refl awaits.1 where
  at : (phase : Phase) → session.phase ≡ phase → AsksAt phase (kept_of session) request → length (items (read_so_far past)) ≡ items_before request
  at Read is asks = absurd asks
  at (Name page) is asks = absurd asks
  at (Tell message) is asks =
      let k = awaits.0.keeps in
      let StageAt : Phase → Type 0 = λ phase. IsAtStage phase session.panel (length (items (bytes_read past.turns))) k.before k.asked past in
      let stage = subst StageAt is k.phase in
      let asked_is : k.asked ≡ stage.0 ++ Sent message ∷ [] = stage.1 in
      let counted : session.items ≡ length (items (read_so_far past)) = k.items_are in
      let number : items_before request ≡ (session.items - 1) + 1 = ap items_before asks in
      omega (
        arith,
        counted,
        number,
        length-asked plant (kept_of session) past k,
        length-append k.before k.asked,
        ap (length {A = Asked}) asked_is,
        length-append stage.0 (Sent message ∷ []),
      )
  at PollStage is asks =
      let counted : session.items ≡ length (items (read_so_far past)) = awaits.0.keeps.items_are in
      let number : items_before request ≡ session.items = ap items_before asks in
      sym (number ∙ counted)
  at End is asks = absurd asks
