-- A session that hands out all pages of names that are left.
use Rattle.std.proofs.Common.{◌≡◌, ◌<◌, ◌≤◌, IfSome, List, ℕ, ◌++◌, Some, refl, sym, ap, ◌∙◌, subst, arith}
use Rattle.std.proofs.lemmas.Grind.{flat_map-append}
use Rattle.swp08_messages.specs.Field.{wide_numbers}
use Rattle.plant_config.specs.Plant.{PlantData}
use Rattle.panel_session.specs.EngineInside.{IsButBytes}
use Rattle.panel_session.specs.MovesInside.{IsReadOrLeft, NamesOn}
use Rattle.panel_session.specs.NamePagesInside.{GoesOnWith, IsFarBehind, IsNamePage, frames_left, numbers_left}
use Rattle.panel_session.specs.NamesLeftInside.{NamesNone, left_at, stage_of, with_left}
use Rattle.panel_session.specs.OutgoingInside.{emptied}
use Rattle.panel_session.specs.SenderKept.{sending}
use Rattle.panel_session.specs.Session.{StandsFor, made_by}
use Rattle.panel_session.specs.SoFar.{Progress}
use Rattle.panel_session.specs.Text.{Output, with_frames, bytes_in}
use Rattle.panel_session.specs.WorkInside.{IsSpelled, left_bytes, spelled_all}
use Rattle.panel_session.specs.declared.sending.name_page.NamePage.{NamePage}
use Rattle.panel_session.specs.declared.session.phase.Phase.{Phase}
use Rattle.panel_session.specs.declared.session.phase.Phase.TheVariants.{Read, Name, Tell, Poll as PollStage, End}
use Rattle.panel_session.specs.declared.session.Session.{Session}
use Rattle.panel_session.proofs.OutputLemmas.{behind_frames, with_frames-append}
use Rattle.panel_session.proofs.ReadLemmas.{spelled_plain}
use Rattle.panel_session.proofs.SentLemmas.{stands_whatever}
use Rattle.panel_session.proofs.TraceLemmas.{frames-bytes}

-- what is yet to be sent, by the pages that are left
left_whole : (names : PlantData) (phase : Phase) (output : Output) → IsReadOrLeft phase → with_left names phase output ≡ with_frames (frames_left names (left_at phase)) output
left_whole names Read output may = refl
left_whole names (Name page) output may = refl
left_whole names (Tell message) output may = absurd may
left_whole names PollStage output may = absurd may
left_whole names End output may = absurd may

pub spelled_bytes : (session : Session) → IsReadOrLeft session.phase → made_by (spelled_all session) ≡ made_by session ++ left_bytes session
spelled_bytes session may =
    let frames = frames_left session.sender.names (left_at session.phase) in
    ap (λ (output : Output). output.bytes) (left_whole session.sender.names session.phase session.sender.output may) ∙ frames-bytes frames session.sender.output

-- It goes on with the next part: what it then has to send, and hands out, is what it had.
module _ (session after : Session) (page : NamePage) (at : session.phase ≡ Name page) (size : page.size ≤ 2) (on : NamesOn page session after) where
  abbrev rest : List (List ℕ)
  rest = frames_left session.sender.names (left_at after.phase)

  whole : with_left after.sender.names after.phase after.sender.output ≡ with_frames (frames_left session.sender.names (Some page)) (emptied session.sender.output)
  whole =
      let adds = on.adds size in
      left_whole after.sender.names after.phase after.sender.output on.left
      ∙ ap (λ (names : PlantData). with_frames (frames_left names (left_at after.phase)) after.sender.output) on.names
      ∙ ap (with_frames rest) adds.adds
      ∙ sym (with_frames-append adds.frames rest (emptied session.sender.output))
      ∙ ap (λ (frames : List (List ℕ)). with_frames frames (emptied session.sender.output)) (sym adds.frames_are)

  read_stage : (phase : Phase) → IsReadOrLeft phase → stage_of phase ≡ Read
  read_stage Read may = refl
  read_stage (Name page) may = refl
  read_stage (Tell message) may = absurd may
  read_stage PollStage may = absurd may
  read_stage End may = absurd may

  pub names_spelled : IsSpelled session (spelled_all after)
  names_spelled =
      let frames = frames_left session.sender.names (Some page) in
      let output = session.sender.output in
      let left : Output = with_frames frames (emptied output) in
      let Then : Phase → PlantData → Output → Session = λ phase names output. record session { phase = phase; sender = record { names = names; output = output } } in
      let Spelled : Phase → Session = λ phase. record session {
        phase = stage_of phase;
        sender = sending (record (with_left session.sender.names phase output) { bytes = left.bytes }) session.sender;
      } in
      record {
        bytes = left.bytes;
        same = ap spelled_all on.same
            ∙ ap (λ (phase : Phase). Then phase after.sender.names (with_left after.sender.names after.phase after.sender.output)) (read_stage after.phase on.left)
            ∙ ap (λ (names : PlantData). Then Read names (with_left after.sender.names after.phase after.sender.output)) on.names
            ∙ ap (Then Read session.sender.names) whole
            ∙ ap (λ (all : Output). Then Read session.sender.names (record all { bytes = left.bytes })) (sym (behind_frames frames output))
            ∙ sym (ap Spelled at);
      }

  pub left_split : left_bytes session ≡ made_by after ++ left_bytes after
  left_split =
      let adds = on.adds size in
      let made : made_by after ≡ bytes_in adds.frames = ap (λ (output : Output). output.bytes) adds.adds ∙ frames-bytes adds.frames (emptied session.sender.output) in
      ap (λ (phase : Phase). bytes_in (frames_left session.sender.names (left_at phase))) at
      ∙ ap bytes_in adds.frames_are
      ∙ flat_map-append (λ (sent : List ℕ). sent) adds.frames rest
      ∙ ap (λ (bytes : List ℕ). bytes ++ bytes_in rest) (sym made)
      ∙ ap (λ (names : PlantData). made_by after ++ bytes_in (frames_left names (left_at after.phase))) (sym on.names)

  pub next_is_page : IfSome (left_at after.phase) IsNamePage
  next_is_page = is after.phase (on.adds size).next
    where
      is : (phase : Phase) → IfSome (left_at phase) (GoesOnWith session.sender.names page) → IfSome (left_at phase) IsNamePage
      is Read goes = tt
      is (Name next) goes = goes.is_page
      is (Tell message) goes = tt
      is PollStage goes = tt
      is End goes = tt

  pub numbers_fewer : page.first < wide_numbers → numbers_left (left_at after.phase) < numbers_left (left_at session.phase)
  numbers_fewer within = fewer after.phase on.far
    where
      fewer : (phase : Phase) → IfSome (left_at phase) (IsFarBehind page.first) → numbers_left (left_at phase) < numbers_left (left_at session.phase)
      fewer Read far = omega (arith, within, ap (λ (phase : Phase). numbers_left (left_at phase)) at)
      fewer (Name next) far = omega (arith, within, far.0, far.1, ap (λ (phase : Phase). numbers_left (left_at phase)) at)
      fewer (Tell message) far = omega (arith, within, ap (λ (phase : Phase). numbers_left (left_at phase)) at)
      fewer PollStage far = omega (arith, within, ap (λ (phase : Phase). numbers_left (left_at phase)) at)
      fewer End far = omega (arith, within, ap (λ (phase : Phase). numbers_left (left_at phase)) at)

-- What was spelled on is spelled.
pub spelled_on : (session before after : Session) → IsSpelled session (spelled_all before) → IsSpelled before (spelled_all after) → IsSpelled session (spelled_all after)
spelled_on session before after one two =
    let Then : Session → Session = λ session. record session { sender = sending (record session.sender.output { bytes = two.bytes }) session.sender } in
    record { bytes = two.bytes; same = two.same ∙ ap Then one.same }

pub spelled_first : (session : Session) → IsSpelled session (spelled_all session)
spelled_first session = record { bytes = made_by (spelled_all session); same = refl }

pub spelled_last : (session after : Session) → after.phase ≡ Read → IsSpelled session (spelled_all after) → IsSpelled session after
spelled_last session after read spelled =
    let Of : Session → Type 0 = λ after. IsSpelled session after in
    subst Of (spelled_plain after (subst NamesNone (sym read) tt)) spelled

-- A session that has no pages left reads.
pub reads_then : (phase : Phase) → IsReadOrLeft phase → ((page : NamePage) → phase ≡ Name page → ⊥) → phase ≡ Read
reads_then Read may other = refl
reads_then (Name page) may other = absurd (other page refl)
reads_then (Tell message) may other = absurd may
reads_then PollStage may other = absurd may
reads_then End may other = absurd may

-- A session that has spelled what an item asks is one that has done it.
pub is_done : (session after : Session) → after ≡ session → IsButBytes session after
is_done session after is = record { bytes = made_by session; same = is }

pub done_spelled : (before session after : Session) → spelled_all before ≡ session → IsSpelled before after → IsButBytes session after
done_spelled before session after is spelled =
    let Of : Session → Type 0 = λ session. IsButBytes session after in
    subst Of is (record { bytes = spelled.bytes; same = spelled.same })

-- It stands for what that stands for.
pub done_stands : (plant : PlantData) (panel : ℕ) (past : Progress) (session after : Session) → IsButBytes session after → StandsFor plant panel session past → StandsFor plant panel after past
done_stands plant panel past session after done stands =
    let Of : Session → Type 0 = λ session. StandsFor plant panel session past in
    subst Of (sym done.same) (stands_whatever plant panel session past done.bytes stands)
