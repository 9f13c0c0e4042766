-- What a turn does, whatever answers its requests and wherever its bytes go.
use Rattle.std.specs.Prelude.{◌≡◌, ◌≢◌, ℕ, Bool, true, List, [], ◌∷◌, ◌++◌, All}
use mathlib.Core.List.{IsPrefix}
use Rattle.plant_config.specs.Plant.{PlantData}
use Rattle.plant_core.specs.declared.request.Request.{Request}
use Rattle.panel_session.specs.declared.session.cut.Cut.{Cut}
use Rattle.panel_session.specs.declared.session.cut.Cut.TheVariants.{Refused, Untraced, Unsent}
use Rattle.panel_session.specs.declared.session.Session.{Session}
use Rattle.panel_session.specs.Acting.{MayGoOn}
use Rattle.panel_session.specs.Entry.{PlantEntry}
use Rattle.panel_session.specs.Run.{CompletesText, turned}
use Rattle.panel_session.specs.Served.{AnsweredButLast}
use Rattle.panel_session.specs.ServedInside.{KeepsAnswered}
use Rattle.panel_session.specs.Session.{Awaits, StandsFor}
use Rattle.panel_session.specs.SoFar.{Progress, entries_so_far, read_so_far, unstarted}
use Rattle.panel_session.specs.Turns.{Turn, entries_in, IsTurn}

-- A piece may be a turn behind a past, in which the session asks an answerer, under this seat.
pub record MayTurn {Answerer : Type 0} (IsSeat : Answerer → ℕ → Type 0)
    (Serves : PlantData → Answerer → Type 0) (plant : PlantData) (panel seat : ℕ)
    (session : Session) (past : Progress) (answerer : Answerer) (piece : List ℕ) : Type 0 where
  pub stands : StandsFor plant panel session past
  pub begins : past.now ≡ unstarted
  pub may : MayGoOn past piece
  pub seated : IsSeat answerer seat
  pub serves : Serves plant answerer

-- A session and an answerer are ready for this piece.
pub record IsReady {Answerer : Type 0} (IsSeat : Answerer → ℕ → Type 0)
    (Serves : PlantData → Answerer → Type 0)
    (session : Session) (answerer : Answerer) (piece : List ℕ) : Type 0 where
  pub plant : PlantData
  pub panel : ℕ
  pub seat : ℕ
  pub past : Progress
  pub may : MayTurn IsSeat Serves plant panel seat session past answerer piece

-- Where all is sent first, these bytes hold all that there was to say when the session asked last, if it was so in the past.
abbrev pub HoldsAnswered : Bool → PlantData → Progress → Progress → List ℕ → Type 0
HoldsAnswered sent_first plant past now bytes = sent_first ≡ true → KeepsAnswered plant past
    → AnsweredButLast plant (read_so_far now) (entries_so_far now) (past.sent ++ bytes)

-- One turn with this piece was worked behind a past: the answerer answered its entries, all of this seat, and these bytes were
-- sent, which complete the session's text. The session stands for the past with this turn. Where all is sent first, all was
-- sent that there was to say when the session asked last.
pub record HasRun {Answerer : Type 0}
    (Answers : Answerer → List PlantEntry → Answerer → Type 0) (sent_first : Bool)
    (plant : PlantData) (panel seat : ℕ) (past : Progress) (piece : List ℕ)
    (first last : Answerer) (session_then : Session) (more : List ℕ) : Type 0 where
  pub turn : Turn
  pub piece_is : turn.piece ≡ piece
  pub is_turn : IsTurn panel past.turns turn
  pub seats : All (λ entry. entry.seat ≡ seat) (entries_in turn)
  pub answers : Answers first (entries_in turn) last
  pub text : CompletesText plant past turn more
  pub stands : StandsFor plant panel session_then (turned turn more past)
  pub answered : sent_first ≡ true → KeepsAnswered plant past
      → KeepsAnswered plant (turned turn more past)

-- The present turn, with this piece, has come so far behind a past: this is left of the piece, and its entries are all of this
-- seat.
pub record HasCome (seat : ℕ) (past : Progress) (piece : List ℕ) (now : Progress) (rest : List ℕ)
    : Type 0 where
  pub turns : now.turns ≡ past.turns
  pub piece_is : now.now.piece ++ rest ≡ piece
  pub idle : now.now.polls ≢ [] → rest ≡ []
  pub seats : All (λ entry. entry.seat ≡ seat) (entries_in now.now)

-- Of these bytes an outlet was given this front, whole, and failed at the next of them.
pub record FailsIn {Outlet : Type 0} (Given Failed : Outlet → List ℕ → Outlet → Type 0)
    (bytes given : List ℕ) (out out_then : Outlet) : Type 0 where
  pub part : List ℕ
  pub later : List ℕ
  pub bytes_are : bytes ≡ given ++ (part ++ later)
  pub between : Outlet
  pub gave : Given out given between
  pub failed : Failed between part out_then

-- A request was refused, once these bytes were given whole.
pub record IsRefused {Answerer Outlet : Type 0}
    (Answers : Answerer → List PlantEntry → Answerer → Type 0)
    (Refuses : Answerer → Answerer → Type 0) (Given : Outlet → List ℕ → Outlet → Type 0)
    (plant : PlantData) (panel : ℕ) (past now : Progress) (before given : List ℕ)
    (session_then : Session) (first last : Answerer) (out out_then : Outlet) : Type 0 where
  pub between : Answerer
  pub answers : Answers first (entries_in now.now) between
  pub refuses : Refuses between last
  pub gave : Given out given out_then
  pub sent : now.sent ≡ past.sent ++ (before ++ given)
  pub request : Request
  pub awaits : Awaits plant panel session_then now request

-- The line of the last entry wasn't traced, and so its answers weren't sent.
pub record IsUntraced {Answerer Outlet : Type 0}
    (Answers : Answerer → List PlantEntry → Answerer → Type 0)
    (TracesPart : Answerer → PlantEntry → Answerer → Type 0)
    (Given : Outlet → List ℕ → Outlet → Type 0)
    (plant : PlantData) (panel : ℕ) (past now : Progress) (before given : List ℕ)
    (session_then : Session) (first last : Answerer) (out out_then : Outlet) : Type 0 where
  pub front : List PlantEntry
  pub entry : PlantEntry
  pub entries_are : entries_in now.now ≡ front ++ entry ∷ []
  pub between : Answerer
  pub answers : Answers first front between
  pub traces : TracesPart between entry last
  pub gave : Given out given out_then
  pub sent : IsPrefix (past.sent ++ (before ++ given)) now.sent
  pub stands : StandsFor plant panel session_then now

-- Bytes weren't sent as a whole.
pub record IsUnsent {Answerer Outlet : Type 0}
    (Answers : Answerer → List PlantEntry → Answerer → Type 0)
    (Given Failed : Outlet → List ℕ → Outlet → Type 0)
    (plant : PlantData) (panel : ℕ) (past now : Progress) (before given : List ℕ)
    (session_then : Session) (first last : Answerer) (out out_then : Outlet) : Type 0 where
  pub answers : Answers first (entries_in now.now) last
  pub bytes : List ℕ
  pub fails : FailsIn Given Failed bytes given out out_then
  pub sent : now.sent ≡ past.sent ++ (before ++ bytes)
  pub stands : StandsFor plant panel session_then now

-- How a turn was cut short, by the cut.
abbrev pub EndsAtCut : {Answerer Outlet : Type 0}
    (Answers : Answerer → List PlantEntry → Answerer → Type 0)
    (TracesPart : Answerer → PlantEntry → Answerer → Type 0)
    (Refuses : Answerer → Answerer → Type 0)
    (Given Failed : Outlet → List ℕ → Outlet → Type 0)
    → Cut → PlantData → ℕ → Progress → Progress → List ℕ → List ℕ → Session
    → Answerer → Answerer → Outlet → Outlet → Type 0
EndsAtCut Answers TracesPart Refuses Given Failed Refused plant panel past now before given
    session_then first last out out_then =
    IsRefused Answers Refuses Given plant panel past now before given
    session_then first last out out_then
EndsAtCut Answers TracesPart Refuses Given Failed Untraced plant panel past now before given
    session_then first last out out_then =
    IsUntraced Answers TracesPart Given plant panel past now before given
    session_then first last out out_then
EndsAtCut Answers TracesPart Refuses Given Failed Unsent plant panel past now before given
    session_then first last out out_then =
    IsUnsent Answers Given Failed plant panel past now before given
    session_then first last out out_then

-- A turn with this piece was cut short behind a past, once these bytes were sent in it: the session came to a past of the
-- turn, this is left of the piece, and these bytes more were given whole. Where all is sent first, all was given that there
-- was to say when the session asked last.
pub record WasCut {Answerer Outlet : Type 0}
    (Answers : Answerer → List PlantEntry → Answerer → Type 0)
    (TracesPart : Answerer → PlantEntry → Answerer → Type 0)
    (Refuses : Answerer → Answerer → Type 0) (sent_first : Bool)
    (Given Failed : Outlet → List ℕ → Outlet → Type 0) (cut : Cut)
    (plant : PlantData) (panel seat : ℕ) (past : Progress) (piece before : List ℕ)
    (first last : Answerer) (session_then : Session) (out out_then : Outlet) : Type 0 where
  pub now : Progress
  pub rest : List ℕ
  pub given : List ℕ
  pub come : HasCome seat past piece now rest
  pub ends : EndsAtCut Answers TracesPart Refuses Given Failed cut plant panel past now
      before given session_then first last out out_then
  pub answered : HoldsAnswered sent_first plant past now (before ++ given)

-- What a turn that was worked does, behind each past that the session stood for, under each seat that the answerer has: exactly
-- what was sent was given to the outlet. This is the one clause on turns.
abbrev pub RunsOn : {Answerer Outlet : Type 0} (IsSeat : Answerer → ℕ → Type 0)
    (Serves : PlantData → Answerer → Type 0)
    (Answers : Answerer → List PlantEntry → Answerer → Type 0) (sent_first : Bool)
    (Given : Outlet → List ℕ → Outlet → Type 0)
    → List ℕ → Session → Session → Answerer → Answerer → Outlet → Outlet → Type 0
RunsOn IsSeat Serves Answers sent_first Given piece session session_then first last out out_then =
    (plant : PlantData) (panel seat : ℕ) (past : Progress)
    → MayTurn IsSeat Serves plant panel seat session past first piece
    → (more : List ℕ) × Given out more out_then
    × HasRun Answers sent_first plant panel seat past piece first last session_then more

-- And so one that was cut short.
abbrev pub StopsIn : {Answerer Outlet : Type 0} (IsSeat : Answerer → ℕ → Type 0)
    (Serves : PlantData → Answerer → Type 0)
    (Answers : Answerer → List PlantEntry → Answerer → Type 0)
    (TracesPart : Answerer → PlantEntry → Answerer → Type 0)
    (Refuses : Answerer → Answerer → Type 0)
    (sent_first : Bool) (Given Failed : Outlet → List ℕ → Outlet → Type 0)
    → Cut → List ℕ → Session → Session → Answerer → Answerer → Outlet → Outlet → Type 0
StopsIn IsSeat Serves Answers TracesPart Refuses sent_first Given Failed cut piece
    session session_then first last out out_then =
    (plant : PlantData) (panel seat : ℕ) (past : Progress)
    → MayTurn IsSeat Serves plant panel seat session past first piece
    → WasCut Answers TracesPart Refuses sent_first Given Failed cut plant panel seat past piece []
    first last session_then out out_then
