-- What a session has read, by what its next item asks.
use Rattle.std.proofs.Common.{◌≡◌, ◌≢◌, ℕ, true, false, Bool, IfSome, List, [], take, Option, Some, None, refl, sym, ap, ◌∙◌, subst}
use Rattle.std.proofs.lemmas.Bool.{false≢true}
use Rattle.dle_framing.specs.Framer as framer
use Rattle.dle_framing.specs.Framer.{GoesOver}
use Rattle.dle_framing.specs.declared.framer.Framer.{Framer}
use Rattle.plant_config.specs.Plant.{PlantData}
use Rattle.swp08_messages.specs.declared.message.Message.{Message}
use Rattle.panel_session.specs.declared.session.asked.Asked.{Asked}
use Rattle.panel_session.specs.declared.session.asked.Asked.TheVariants.{Nothing, Repeat, Refused, Noted, Named, Sent}
use Rattle.panel_session.specs.declared.session.Session.{Session}
use Rattle.panel_session.specs.declared.session.phase.Phase.{Phase}
use Rattle.panel_session.specs.AskedInside.{FoundAsks}
use Rattle.panel_session.specs.MovesInside.{IsReadOrLeft, IsTakenTo, TakesTo, took, took_to}
use Rattle.panel_session.specs.NamePages.{name_frames}
use Rattle.panel_session.specs.NamePagesInside.{BeginsNames, IsNamePage, frames_left}
use Rattle.panel_session.specs.NamesLeftInside.{NamesNone, left_at, stage_of, with_left}
use Rattle.panel_session.specs.OutgoingInside.{emptied}
use Rattle.panel_session.specs.SenderKept.{SenderData, sending}
use Rattle.panel_session.specs.Text.{Output, with_control, with_frames}
use Rattle.panel_session.specs.WorkInside.{spelled_all}
use Rattle.panel_session.specs.declared.sending.name_page.NamePage.{NamePage}
use Rattle.panel_session.specs.declared.session.phase.Phase.TheVariants.{Read, Name, Tell, Poll as PollStage, End}
use Rattle.dle_framing.specs.Numbers.{ack}
use Rattle.panel_session.specs.ReadingInside.{HasTakenOn}
use Rattle.panel_session.specs.SoFar.{read_so_far}
use Rattle.panel_session.specs.TakenInside.{sent_by, taken_output}
use Rattle.panel_session.proofs.ActsLemmas.{has_taken_item, has_read_none}
use Rattle.panel_session.proofs.NamesLeftLemmas.{none_left}
use Rattle.panel_session.proofs.OutputLemmas.{with_frames-append}
use Rattle.panel_session.proofs.StandsLemmas.{phase-is, taken_plain}

-- a session that has no pages of names left has spelled all
spelled_by : (phase : Phase) (session : Session) → NamesNone phase
    → record session { phase = stage_of phase; sender = sending (with_left session.sender.names phase session.sender.output) session.sender } ≡ record session { phase = phase }
spelled_by Read session none = refl
spelled_by (Name page) session none = absurd none
spelled_by (Tell message) session none = refl
spelled_by PollStage session none = refl
spelled_by End session none = refl

pub spelled_plain : (session : Session) → NamesNone session.phase → spelled_all session ≡ session
spelled_plain session none = spelled_by session.phase session none

-- What is sent for names in all, however much of it was spelled.
pub names_whole : (plant : PlantData) (message : Message) (output : Output) (left : Option NamePage) (output_then : Output) (begins : BeginsNames plant message output left output_then)
    → with_frames (name_frames plant message) output ≡ with_frames (frames_left plant left) output_then
names_whole plant message output left output_then begins =
    ap (λ (frames : List (List ℕ)). with_frames frames output) begins.frames_are
    ∙ with_frames-append begins.frames (frames_left plant left) output
    ∙ ap (with_frames (frames_left plant left)) (sym begins.adds)

-- A session that took an item has spelled all that is sent for it, or the first of the pages of names.
taken_whole : (a : Asked) (session : Session) (sender : SenderData) (phase : Phase) → session.phase ≡ Read → IsTakenTo a session sender phase
    → spelled_all (took_to sender phase a session) ≡ took session.sender.names a session
taken_whole a session sender phase read to =
    let all : Session = took session.sender.names a session in
    let same : took_to sender phase a session ≡ all =
    ap (λ (sender : SenderData). took_to sender phase a session) to.0
    ∙ ap (λ (phase : Phase). took_to (sending (taken_output session.sender.names a session.sender.output) session.sender) phase a session) to.1 in
    ap spelled_all same ∙ spelled_plain all (subst NamesNone (sym (phase-is a session.phase read)) (taken_plain a))

named_whole : (message : Message) (session : Session) (sender : SenderData) (phase : Phase) → session.phase ≡ Read → IsReadOrLeft phase → sender.names ≡ session.sender.names
    → BeginsNames session.sender.names message (with_control ack (emptied session.sender.output)) (left_at phase) sender.output
    → spelled_all (took_to sender phase (Named message) session) ≡ took session.sender.names (Named message) session
named_whole message session sender phase read may names begins =
    let whole = names_whole session.sender.names message (with_control ack (emptied session.sender.output)) (left_at phase) sender.output begins in
    at phase may whole
  where
    all : Output
    all = with_frames (name_frames session.sender.names message) (with_control ack (emptied session.sender.output))

    to : PlantData → Output → Phase → Session
    to names output phase = took_to (record { names = names; output = output }) phase (Named message) session

    at : (phase : Phase) → IsReadOrLeft phase → all ≡ with_frames (frames_left session.sender.names (left_at phase)) sender.output
        → spelled_all (took_to sender phase (Named message) session) ≡ took session.sender.names (Named message) session
    at Read may whole =
        ap (λ (output : Output). took_to (record { names = sender.names; output = output }) Read (Named message) session) (sym whole)
        ∙ ap (λ (names : PlantData). took_to (record { names = names; output = all }) Read (Named message) session) names
        ∙ ap (λ (phase : Phase). took_to (record { names = session.sender.names; output = all }) phase (Named message) session) (sym read)
    at (Name page) may whole =
        ap (λ (names : PlantData). took_to (record { names = sender.names; output = with_frames (frames_left names (Some page)) sender.output }) Read (Named message) session) names
        ∙ ap (λ (output : Output). took_to (record { names = sender.names; output = output }) Read (Named message) session) (sym whole)
        ∙ ap (λ (names : PlantData). took_to (record { names = names; output = all }) Read (Named message) session) names
        ∙ ap (λ (phase : Phase). took_to (record { names = session.sender.names; output = all }) phase (Named message) session) (sym read)
    at (Tell message) may whole = absurd may
    at PollStage may whole = absurd may
    at End may whole = absurd may

pub spelled_is : (a : Asked) (session : Session) (sender : SenderData) (phase : Phase) → session.phase ≡ Read → TakesTo a session sender phase
    → spelled_all (took_to sender phase a session) ≡ took session.sender.names a session
spelled_is Nothing session sender phase read to = taken_whole Nothing session sender phase read to
spelled_is Repeat session sender phase read to = taken_whole Repeat session sender phase read to
spelled_is Refused session sender phase read to = taken_whole Refused session sender phase read to
spelled_is Noted session sender phase read to = taken_whole Noted session sender phase read to
spelled_is (Named message) session sender phase read to =
    let named = to read in
    named_whole message session sender phase read named.1 named.0 named.2
spelled_is (Sent message) session sender phase read to = taken_whole (Sent message) session sender phase read to

-- What is to be sent for an item is what is sent for it.
pub output_is : (plant : PlantData) (a : Asked) (output : Output) → sent_by plant a output ≢ [] → (taken_output plant a output).bytes ≡ sent_by plant a output
output_is plant Nothing output some = absurd (some refl)
output_is plant Repeat output some = refl
output_is plant Refused output some = refl
output_is plant Noted output some = refl
output_is plant (Named message) output some = refl
output_is plant (Sent message) output some = refl

-- An item was taken.
pub has_taken : (session after : Session) (framer_then : Framer) (piece : List ℕ) (used : ℕ) (a : Asked) (send : Bool) → GoesOver (take used piece) session.framer framer_then
    → ((text : List ℕ) → framer.StandsFor session.framer text → FoundAsks text piece used (Some a))
    → after ≡ took session.sender.names a (record session { framer = framer_then }) → (send ≡ true → sent_by session.sender.names a session.sender.output ≢ [])
    → (send ≡ false → sent_by session.sender.names a session.sender.output ≡ [])
    → (send ≡ false → after.phase ≡ session.phase) → HasTakenOn session piece used send after
has_taken session after framer_then piece used a send goes_over finds taken some none quiet = λ plant panel past reading small.
    let Took : PlantData → Type 0 = λ names. after ≡ took names a (record session { framer = framer_then }) in
    let Some : PlantData → Type 0 = λ names. send ≡ true → sent_by names a session.sender.output ≢ [] in
    let Quiet : PlantData → Type 0 = λ names. send ≡ false → sent_by names a session.sender.output ≡ [] in
    let loud : Some plant = subst Some reading.stands.names_are some in
    let same : Took plant = subst Took reading.stands.names_are taken in
    let made : after.sender.output.bytes ≡ (taken_output plant a session.sender.output).bytes = ap (λ (session : Session). session.sender.output.bytes) same in
    has_taken_item plant panel session after past piece used a framer_then send reading small (finds (read_so_far past) reading.stands.framer) (goes_over (read_so_far past) reading.stands.framer)
    same loud (λ sends. made ∙ output_is plant a session.sender.output (loud sends)) (subst Quiet reading.stands.names_are none) quiet

-- No item ended.
pub has_passed : (session : Session) (framer_then : Framer) (piece : List ℕ) (used : ℕ) → GoesOver (take used piece) session.framer framer_then
    → ((text : List ℕ) → framer.StandsFor session.framer text → FoundAsks text piece used None)
    → HasTakenOn session piece used false (record session { framer = framer_then })
has_passed session framer_then piece used goes_over finds = λ plant panel past reading small.
    has_read_none plant panel session past piece used framer_then reading (finds (read_so_far past) reading.stands.framer) (goes_over (read_so_far past) reading.stands.framer)

-- a session that took an item that sends the plant a message
abbrev pub told_by : Framer → Message → Session → Session
told_by framer_then message session = took session.sender.names (Sent message) (record session { framer = framer_then })

pub has_told : (session : Session) (framer_then : Framer) (piece : List ℕ) (used : ℕ) (message : Message) → GoesOver (take used piece) session.framer framer_then
    → ((text : List ℕ) → framer.StandsFor session.framer text → FoundAsks text piece used (Some (Sent message)))
    → HasTakenOn session piece used true (told_by framer_then message session)
has_told session framer_then piece used message goes_over finds =
    has_taken session (told_by framer_then message session) framer_then piece used (Sent message) true goes_over finds refl (λ _ none. cc) (λ no. absurd (false≢true (sym no))) (λ no. absurd (false≢true (sym no)))

-- Other items leave it reading, or with pages of names left.
pub reads_or_left : (a : Asked) (session : Session) (sender : SenderData) (phase : Phase) → session.phase ≡ Read → ((message : Message) → a ≡ Sent message → ⊥) → TakesTo a session sender phase → IsReadOrLeft phase
reads_or_left Nothing session sender phase read other to = subst IsReadOrLeft (sym (to.1 ∙ read)) tt
reads_or_left Repeat session sender phase read other to = subst IsReadOrLeft (sym (to.1 ∙ read)) tt
reads_or_left Refused session sender phase read other to = subst IsReadOrLeft (sym (to.1 ∙ read)) tt
reads_or_left Noted session sender phase read other to = subst IsReadOrLeft (sym (to.1 ∙ read)) tt
reads_or_left (Named message) session sender phase read other to = (to read).1
reads_or_left (Sent message) session sender phase read other to = absurd (other message refl)

-- A page that is left is one.
pub left_is_page : (a : Asked) (session : Session) (sender : SenderData) (phase : Phase) → session.phase ≡ Read → ((message : Message) → a ≡ Sent message → ⊥) → TakesTo a session sender phase → IfSome (left_at phase) IsNamePage
left_is_page Nothing session sender phase read other to = none_left IsNamePage phase (subst NamesNone (sym (to.1 ∙ read)) tt)
left_is_page Repeat session sender phase read other to = none_left IsNamePage phase (subst NamesNone (sym (to.1 ∙ read)) tt)
left_is_page Refused session sender phase read other to = none_left IsNamePage phase (subst NamesNone (sym (to.1 ∙ read)) tt)
left_is_page Noted session sender phase read other to = none_left IsNamePage phase (subst NamesNone (sym (to.1 ∙ read)) tt)
left_is_page (Named message) session sender phase read other to = (to read).2.is_page
left_is_page (Sent message) session sender phase read other to = absurd (other message refl)
