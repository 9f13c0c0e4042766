-- What a turn does for its items and its polls.
use Rattle.std.proofs.Common.{◌≡◌, ◌≢◌, ℕ, ◌+◌, ◌-◌, ◌^◌, ◌<◌, ◌≤◌, true, false, Bool, List, [], ◌∷◌, ◌++◌, length, take, drop, Some, refl, sym, ap, subst}
use Rattle.std.proofs.lemmas.List.{append_assoc}
use Rattle.std.proofs.lemmas.Bool.{false≢true}
use Rattle.dle_framing.specs.Framer as framer
use Rattle.dle_framing.specs.Framer.{GoesOver}
use Rattle.dle_framing.specs.declared.framer.Framer.{Framer}
use Rattle.plant_config.specs.Plant.{PlantData}
use Rattle.plant_core.specs.Answer.{room_of}
use Rattle.plant_core.specs.declared.answer.Answer.{Answer}
use Rattle.plant_core.specs.declared.request.Request.{Request}
use Rattle.plant_core.specs.declared.request.Request.TheVariants.{Told, Poll}
use Rattle.swp08_messages.specs.declared.message.Message.{Message}
use Rattle.panel_session.specs.declared.session.asked.Asked.{Asked}
use Rattle.panel_session.specs.declared.session.asked.Asked.TheVariants.{Nothing, Repeat, Refused, Noted, Named, Sent}
use Rattle.panel_session.specs.declared.session.Session.{Session}
use Rattle.panel_session.specs.declared.session.phase.Phase.{Phase}
use Rattle.panel_session.specs.declared.session.phase.Phase.TheVariants.{Read, Tell, End}
use Rattle.panel_session.specs.Acting.{IsAsking}
use Rattle.panel_session.specs.Answering.{entry_of}
use Rattle.panel_session.specs.AskedInside.{FoundAsks}
use Rattle.panel_session.specs.Engine.{HasCome, HasRun, MayTurn}
use Rattle.panel_session.specs.EngineInside.{HasAsked, HasSent, IsOnItsWay, IsUnderWay, sent_ahead}
use Rattle.panel_session.specs.Entry.{PlantEntry}
use Rattle.panel_session.specs.MovesInside.{answered_too, ended_turn, phase_with, silenced, took}
use Rattle.panel_session.specs.OutgoingInside.{emptied}
use Rattle.panel_session.specs.PolledInside.{HasPolled}
use Rattle.panel_session.specs.ReadingInside.{HasTaken, HasTakenOn}
use Rattle.panel_session.specs.RoomsInside.{fitting}
use Rattle.panel_session.specs.Session.{StandsFor, made_by}
use Rattle.panel_session.specs.SoFar.{Progress, with_bytes, with_sent, with_entry}
use Rattle.panel_session.specs.StandsInside.{behind}
use Rattle.panel_session.specs.TakenInside.{sent_by}
use Rattle.panel_session.specs.Text.{Output, frames_of, with_frames}
use Rattle.panel_session.specs.WorkInside.{polling_at}
use Rattle.panel_session.proofs.AheadLemmas.{answer_frames}
use Rattle.panel_session.proofs.AnsweredLemmas.{answered_entry, awaits_counted}
use Rattle.panel_session.proofs.GoneOnLemmas.{entries-more}
use Rattle.panel_session.proofs.OutputLemmas.{behind_frames}
use Rattle.panel_session.proofs.ReadLemmas.{has_taken, output_is}
use Rattle.panel_session.proofs.RunLemmas.{come_asked, come_used, holds_read, may_go_on, told_behind, way_over, way_for, way_sent}
use Rattle.panel_session.proofs.SentLemmas.{polled_sent, polls_none, reading_stands, stands_whatever, taken_stands, told_is, told_sent}
use Rattle.panel_session.proofs.SessionLemmas.{asks_first_poll, asks_poll, asks_told, is_reading, rests}
use Rattle.panel_session.proofs.WayLemmas.{more_none}

module _ {seat : ℕ} {past : Progress} {piece : List ℕ} {plant : PlantData} {panel : ℕ} where
  -- An item's request was answered.
  told_at : (session : Session) {now : Progress} {rest : List ℕ} (message : Message) (answers : List Answer)
      → HasCome seat past piece now rest → session.phase ≡ Tell message
      → let request = Told session.panel (session.items - 1) message in
      IsAsking plant panel now rest request session → length answers ≤ room_of plant
      → HasAsked plant panel seat past piece now rest (entry_of seat request answers) (answer_frames session answers) (answered_too answers (record session { phase = Read }))
  told_at session {now = now} {rest = rest} message answers come tell acts few =
      let request = Told session.panel (session.items - 1) message in
      let entry : PlantEntry = entry_of seat request answers in
      let frames = frames_of (fitting session.sender.names answers) in
      let output = session.sender.output in
      let sent = answer_frames session answers in
      let later = with_sent sent (with_entry entry now) in
      let after : Output → Session = λ output. record session {
        phase = Read;
        sender = record session.sender { output = output };
        outbox = record session.outbox { items = [] };
      } in
      let At : Session → Type 0 = λ session. StandsFor plant panel session later in
      let stands : At (after (behind output.bytes (with_frames frames (emptied output)))) =
      stands_whatever plant panel (after (with_frames frames (emptied output))) later (output.bytes ++ sent) (told_sent plant panel seat session now request message answers acts.0 few tell) in
      record {
        later = later;
        come = come_asked {later = later} entry come refl refl refl (told_behind now.now.told now.now.polls entry acts.3) (λ some. absurd (some acts.3));
        stands = subst At (ap after (sym (behind_frames frames output))) stands;
        sent = refl;
        entries = told_behind now.now.told now.now.polls entry acts.3;
        answered = answered_entry plant entry now (entries-more now request rest seat answers acts.3) refl (awaits_counted plant panel session now request acts.0) acts.4;
      }

  pub told_asked : (session : Session) {now : Progress} {rest : List ℕ} (request : Request) (message : Message) (answers : List Answer)
      → HasCome seat past piece now rest → session.phase ≡ Tell message
      → IsAsking plant panel now rest request session → length answers ≤ room_of plant
      → HasAsked plant panel seat past piece now rest (entry_of seat request answers) (answer_frames session answers) (answered_too answers (record session { phase = Read }))
  told_asked session {now = now} {rest = rest} request message answers come tell acts few =
      let Asked : Request → Type 0 = λ request. IsAsking plant panel now rest request session
      → HasAsked plant panel seat past piece now rest (entry_of seat request answers) (answer_frames session answers) (answered_too answers (record session { phase = Read })) in
      let told : Asked (Told session.panel (session.items - 1) message) = λ acts. told_at session message answers come tell acts few in
      subst Asked (sym (told_is plant panel session now request message acts.0 tell)) told acts

  -- A poll was answered.
  polled_at : {now : Progress} (asking : Session) (polls : ℕ) (phase : Phase) (answers : List Answer)
      → let request = Poll asking.panel asking.items asking.counts.turns in
      let answered = answered_too answers (silenced asking) in
      HasCome seat past piece now [] → IsAsking plant panel now [] request (polling_at polls asking)
      → length answers ≤ room_of plant → HasPolled answers (polls + 1) phase
      → HasAsked plant panel seat past piece now [] (entry_of seat request answers) (made_by answered) (record answered { phase = phase; polls = polls + 1 })
  polled_at {now = now} asking polls phase answers come acts few polled =
      let request = Poll asking.panel asking.items asking.counts.turns in
      let entry : PlantEntry = entry_of seat request answers in
      let answered = answered_too answers (silenced asking) in
      let sent = made_by answered in
      let later = with_sent sent (with_entry entry now) in
      record {
        later = later;
        come = come_asked {later = later} entry come refl refl refl (sym (append_assoc now.now.told now.now.polls (entry ∷ []))) (λ _. refl);
        stands = stands_whatever plant panel (record answered { phase = phase; polls = polls + 1 }) later sent
            (polled_sent plant panel seat (polling_at polls asking) now request phase (polls + 1) answers acts.0 few refl refl polled);
        sent = refl;
        entries = sym (append_assoc now.now.told now.now.polls (entry ∷ []));
        answered = answered_entry plant entry now (entries-more now request [] seat answers acts.3) refl (awaits_counted plant panel (polling_at polls asking) now request acts.0) acts.4;
      }

  pub polled_asked : {now : Progress} (asking after : Session) (polls : ℕ) (phase : Phase) (request : Request) (answers : List Answer)
      → HasCome seat past piece now [] → request ≡ Poll asking.panel asking.items asking.counts.turns
      → IsAsking plant panel now [] (Poll asking.panel asking.items asking.counts.turns) (polling_at polls asking)
      → length answers ≤ room_of plant → HasPolled answers (polls + 1) phase → after ≡ answered_too answers (silenced asking)
      → HasAsked plant panel seat past piece now [] (entry_of seat request answers) (made_by after) (record after { phase = phase; polls = polls + 1 })
  polled_asked {now = now} asking after polls phase request answers come is acts few polled same =
      let Asked : Request → Session → Type 0 = λ request after. HasAsked plant panel seat past piece now [] (entry_of seat request answers) (made_by after) (record after { phase = phase; polls = polls + 1 }) in
      let Of : Session → Type 0 = λ after. Asked request after in
      let By : Request → Type 0 = λ request. Asked request (answered_too answers (silenced asking)) in
      subst Of (sym same) (subst By (sym is) (polled_at asking polls phase answers come acts few polled))

module _ {Answerer : Type 0} {Answers : Answerer → List PlantEntry → Answerer → Type 0} {sf : Bool}
    {plant : PlantData} {panel seat : ℕ} {past : Progress} {piece : List ℕ} {first : Answerer} where
  -- Where all is sent first, what was made goes ahead of it.
  pub way_ahead : {answerer : Answerer} {session : Session} {now : Progress} {rest more : List ℕ} (ahead : Bool)
      → IsUnderWay Answers sf plant panel seat past piece first answerer session rest now more
      → IsUnderWay Answers sf plant panel seat past piece first answerer (sent_ahead ahead session) rest now more
  way_ahead {session = session} {now = now} true way = way_for (silenced session) way (stands_whatever plant panel session now [] way.stands)
  way_ahead false way = way

  -- A session that has read the piece polls for the first time,
  pub asks_first : {answerer : Answerer} {session : Session} {now : Progress} {more : List ℕ}
      → IsUnderWay Answers sf plant panel seat past piece first answerer session [] now more
      → session.phase ≡ Read
      → IsAsking plant panel now [] (Poll session.panel session.items session.counts.turns) (polling_at 0 session)
  asks_first {session = session} {now = now} way read =
      let reading = is_reading plant panel session now way.stands read in
      let After : ℕ → Type 0 = λ polls. IsAsking plant panel now [] (Poll session.panel session.items session.counts.turns) (polling_at polls session) in
      subst After (polls_none plant panel session now reading) (asks_first_poll plant panel session now reading)

  -- It polls once more.
  pub asks_again : {answerer : Answerer} {now : Progress} {more : List ℕ} (session : Session) (polls : ℕ)
      → IsUnderWay Answers sf plant panel seat past piece first answerer (polling_at polls session) [] now more
      → IsAsking plant panel now [] (Poll session.panel session.items session.counts.turns) (polling_at polls session)
  asks_again {now = now} session polls way = asks_poll plant panel (polling_at polls session) now way.stands refl

module _ {Answerer : Type 0} {Answers : Answerer → List PlantEntry → Answerer → Type 0} {sf : Bool} {IsSeat : Answerer → ℕ → Type 0} {Serves : PlantData → Answerer → Type 0}
    {plant : PlantData} {panel seat : ℕ} {past : Progress} {piece : List ℕ} {first : Answerer} {begun : Session} where
  -- What was read of the rest, where the session reads.
  has_read : {answerer : Answerer} {session : Session} {now : Progress} {rest more : List ℕ} (after : Session) (used : ℕ) (send : Bool)
      → MayTurn IsSeat Serves plant panel seat begun past first piece
      → IsUnderWay Answers sf plant panel seat past piece first answerer session rest now more
      → session.phase ≡ Read → HasTakenOn session rest used send after
      → HasTaken plant panel (with_bytes (take used rest) now) send after
  has_read {session = session} {now = now} after used send may way read reads =
      reads plant panel now (is_reading plant panel session now way.stands read) (may_go_on may way.come).items

  -- nothing is to be sent for what was read
  pub way_read : {answerer : Answerer} {session : Session} {now : Progress} {rest more : List ℕ} (after : Session) (used : ℕ)
      → MayTurn IsSeat Serves plant panel seat begun past first piece
      → IsUnderWay Answers sf plant panel seat past piece first answerer session rest now more
      → session.phase ≡ Read → HasTakenOn session rest used false after
      → HasSent Answers sf plant panel seat past piece first answerer after (drop used rest) more []
  way_read {answerer = answerer} {now = now} {rest = rest} {more = more} after used may way read reads =
      let used_now = with_bytes (take used rest) now in
      let holds = holds_read sf plant past now more (take used rest) way.answered in
      let way_then : IsUnderWay Answers sf plant panel seat past piece first answerer after (drop used rest) used_now more = record {
        come = come_used used way.come refl;
        sent = way.sent;
        answers = way.answers;
        stands = reading_stands plant panel after used_now (has_read after used false may way read reads);
        answered = holds;
      } in
      record { now = used_now; way = more_none way_then; earlier = holds }

  -- something is, and it is sent
  pub way_read_sent : {answerer : Answerer} {session : Session} {now : Progress} {rest more : List ℕ} (after : Session) (used : ℕ)
      → MayTurn IsSeat Serves plant panel seat begun past first piece
      → IsUnderWay Answers sf plant panel seat past piece first answerer session rest now more
      → session.phase ≡ Read → HasTakenOn session rest used true after
      → HasSent Answers sf plant panel seat past piece first answerer after (drop used rest) more (made_by after)
  way_read_sent {now = now} {rest = rest} after used may way read reads =
      way_sent used (made_by after) way refl (taken_stands plant panel after (with_bytes (take used rest) now) (has_read after used true may way read reads))

  -- The last item's message is asked.
  pub asks_to_tell : {answerer : Answerer} {session : Session} {now : Progress} {rest more : List ℕ} (request : Request) (message : Message)
      → MayTurn IsSeat Serves plant panel seat begun past first piece
      → IsUnderWay Answers sf plant panel seat past piece first answerer session rest now more
      → session.phase ≡ Tell message
      → (0 < session.items → session.items < 2 ^ 62 → request ≡ Told session.panel (session.items - 1) message)
      → IsAsking plant panel now rest request session
  asks_to_tell {session = session} {now = now} {rest = rest} request message may way tell is = asks_told plant panel session now rest request message way.stands (may_go_on may way.come) tell is

  -- The turn is over.
  pub way_ends : {answerer : Answerer} {now : Progress} {more : List ℕ} (session : Session) (polls : ℕ)
      → MayTurn IsSeat Serves plant panel seat begun past first piece
      → IsUnderWay Answers sf plant panel seat past piece first answerer (record session { phase = End; polls = polls }) [] now more
      → HasRun Answers sf plant panel seat past piece first answerer (ended_turn session) more
  way_ends {now = now} session polls may way =
      let over = rests plant panel (record session { phase = End; polls = polls }) now way.stands (may_go_on may way.come).turns refl in
      way_over way over.0 over.1

  -- An item that sends the plant nothing was done, and what is sent for it is sent.
  taken_at : {answerer : Answerer} {session : Session} {now : Progress} {rest more : List ℕ} (after : Session) (used : ℕ) (bytes : List ℕ)
      → MayTurn IsSeat Serves plant panel seat begun past first piece
      → IsUnderWay Answers sf plant panel seat past piece first answerer session rest now more
      → session.phase ≡ Read
      → ((send : Bool) → (send ≡ true → bytes ≢ []) → (send ≡ false → bytes ≡ []) → HasTakenOn session rest used send after)
      → (bytes ≢ [] → made_by after ≡ bytes)
      → HasSent Answers sf plant panel seat past piece first answerer after (drop used rest) more bytes
  taken_at after used [] may way read takes made = way_read after used may way read (takes false (λ no. absurd (false≢true no)) (λ _. refl))
  taken_at {answerer = answerer} {rest = rest} {more = more} after used (byte ∷ bytes) may way read takes made =
      let some : byte ∷ bytes ≢ [] = λ no. cc in
      let Bytes : List ℕ → Type 0 = λ bytes. HasSent Answers sf plant panel seat past piece first answerer after (drop used rest) more bytes in
      subst Bytes (made some) (way_read_sent after used may way read (takes true (λ _. some) (λ no. absurd (false≢true (sym no)))))

  pub way_taken : {answerer : Answerer} {session : Session} {now : Progress} {rest more : List ℕ} (framer_then : Framer) (used : ℕ) (asked : Asked)
      → MayTurn IsSeat Serves plant panel seat begun past first piece
      → IsUnderWay Answers sf plant panel seat past piece first answerer session rest now more
      → session.phase ≡ Read → ((message : Message) → asked ≡ Sent message → ⊥)
      → GoesOver (take used rest) session.framer framer_then → ((text : List ℕ) → framer.StandsFor session.framer text → FoundAsks text rest used (Some asked))
      → HasSent Answers sf plant panel seat past piece first answerer (took session.sender.names asked (record session { framer = framer_then })) (drop used rest) more (sent_by session.sender.names asked session.sender.output)
  way_taken {session = session} {rest = rest} framer_then used asked may way read other over finds =
      let after : Session = took session.sender.names asked (record session { framer = framer_then }) in
      taken_at after used (sent_by session.sender.names asked session.sender.output) may way read
      (λ send some quiet. has_taken session after framer_then rest used asked send over finds refl some quiet (λ _. stays asked session.phase other))
      (λ some. output_is session.sender.names asked session.sender.output some)
    where
      stays : (asked : Asked) (phase : Phase) → ((message : Message) → asked ≡ Sent message → ⊥) → phase_with asked phase ≡ phase
      stays Nothing phase other = refl
      stays Repeat phase other = refl
      stays Refused phase other = refl
      stays Noted phase other = refl
      stays (Named message) phase other = refl
      stays (Sent message) phase other = absurd (other message refl)

-- A turn whose last item asks the plant something, of which the ACK counts as sent.
abbrev pub telling : {Answerer : Type 0} {Answers : Answerer → List PlantEntry → Answerer → Type 0} {sf : Bool} {IsSeat : Answerer → ℕ → Type 0} {Serves : PlantData → Answerer → Type 0} {session : Session} {answerer : Answerer} {rest left : List ℕ} (after : Session)
    (on : IsOnItsWay IsSeat Serves Answers sf session answerer rest) → HasSent Answers sf on.plant on.panel on.seat on.past on.piece on.first answerer after left on.more (made_by after)
    → IsOnItsWay IsSeat Serves Answers sf after answerer left
telling after on sent = record {
  plant = on.plant;
  panel = on.panel;
  seat = on.seat;
  begun = on.begun;
  past = on.past;
  piece = on.piece;
  first = on.first;
  now = sent.now;
  more = on.more ++ made_by after;
  may = on.may;
  way = sent.way;
}
