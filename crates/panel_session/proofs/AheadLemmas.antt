-- What goes ahead of a request, and what its answers make of a session.
use Rattle.std.proofs.Common.{◌≡◌, ℕ, ◌≤◌, true, false, Bool, List, [], ◌++◌, length, refl, sym, ap, ◌∙◌, arith}
use Rattle.std.proofs.lemmas.List.{append-nil}
use Rattle.std.proofs.lemmas.Bool.{false≢true}
use Rattle.plant_core.specs.declared.answer.Answer.{Answer}
use Rattle.plant_core.specs.declared.request.Request.{Request}
use Rattle.plant_core.specs.declared.request.Request.TheVariants.{Told, Poll, Leave, DisplayPoll}
use Rattle.panel_session.specs.declared.session.Session.{Session}
use Rattle.panel_session.specs.declared.session.phase.Phase.{Phase}
use Rattle.panel_session.specs.Acting.{IsInPlace}
use Rattle.panel_session.specs.Answering.{IsOfSession}
use Rattle.panel_session.specs.EngineInside.{bytes_ahead, sent_ahead}
use Rattle.panel_session.specs.Entry.{PlantEntry}
use Rattle.panel_session.specs.MovesInside.{answered_too}
use Rattle.panel_session.specs.OutgoingInside.{emptied}
use Rattle.panel_session.specs.RoomsInside.{fitting}
use Rattle.panel_session.specs.Session.{made_by}
use Rattle.panel_session.specs.SoFar.{Progress}
use Rattle.panel_session.specs.Text.{Output, frames_of, with_frames, bytes_in}
use Rattle.panel_session.proofs.OutputLemmas.{behind_frames}
use Rattle.panel_session.proofs.TraceLemmas.{frames-bytes}

-- A request that comes in its place is one of a session.
pub of_session : (request : Request) (now : Progress) (rest : List ℕ) → IsInPlace now request rest → IsOfSession request
of_session (Told panel item message) now rest place = tt
of_session (Poll panel item turn) now rest place = tt
of_session (Leave panel) now rest place = absurd place
of_session (DisplayPoll screen refresh) now rest place = absurd place

-- What goes ahead of a request is what was made, and then nothing is left of that; or nothing goes ahead.
pub made_ahead : (ahead : Bool) (session : Session) → made_by session ≡ bytes_ahead ahead (made_by session) ++ made_by (sent_ahead ahead session)
made_ahead true session = sym (append-nil (made_by session))
made_ahead false session = refl

pub none_ahead : (ahead : Bool) (session : Session) → ahead ≡ true → made_by (sent_ahead ahead session) ≡ []
none_ahead true session is = refl
none_ahead false session is = absurd (false≢true is)

pub few_ahead : (ahead : Bool) (session : Session) → length (made_by session) ≤ 2 → length (made_by (sent_ahead ahead session)) ≤ 2
few_ahead true session few = omega arith
few_ahead false session few = few

pub all_ahead : (ahead : Bool) (bytes : List ℕ) → ahead ≡ true → bytes_ahead ahead bytes ≡ bytes
all_ahead true bytes is = refl
all_ahead false bytes is = absurd (false≢true is)

pub phase_ahead : (ahead : Bool) (session : Session) → (sent_ahead ahead session).phase ≡ session.phase
phase_ahead true session = refl
phase_ahead false session = refl

pub ahead_at : (ahead : Bool) (session : Session) (phase : Phase) → record (sent_ahead ahead session) { phase = phase } ≡ sent_ahead ahead (record session { phase = phase })
ahead_at true session phase = refl
ahead_at false session phase = refl

-- What answers made alone are the frames of the entry's.
pub spelled_alone : (session : Session) (answers : List Answer) (entry : PlantEntry) → made_by session ≡ [] → entry.answers ≡ fitting session.sender.names answers → made_by (answered_too answers session) ≡ bytes_in (frames_of entry.answers)
spelled_alone session answers entry none is =
    let frames = frames_of (fitting session.sender.names answers) in
    frames-bytes frames session.sender.output
    ∙ ap (λ (front : List ℕ). front ++ bytes_in frames) none
    ∙ ap (λ (answers : List Answer). bytes_in (frames_of answers)) (sym is)

-- the bytes of the frames of answers
abbrev pub answer_frames : Session → List Answer → List ℕ
answer_frames session answers = (with_frames (frames_of (fitting session.sender.names answers)) (emptied session.sender.output)).bytes

-- They come behind what was made before.
pub made_behind : (session : Session) (answers : List Answer) → made_by (answered_too answers session) ≡ made_by session ++ answer_frames session answers
made_behind session answers = ap (λ (output : Output). output.bytes) (behind_frames (frames_of (fitting session.sender.names answers)) session.sender.output)
