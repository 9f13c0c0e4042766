-- A turn on its way, over any answerer and any outlet.
use Rattle.std.specs.Prelude.{◌≡◌, ◌++◌, ℕ, Bool, true, false, List, [], ◌∷◌}
use Rattle.plant_config.specs.Plant.{PlantData}
use Rattle.panel_session.specs.declared.session.asked.Asked.{Asked}
use Rattle.panel_session.specs.declared.session.cut.Cut.{Cut}
use Rattle.panel_session.specs.declared.session.Session.{Session}
use Rattle.panel_session.specs.declared.session.cut.Cut.TheVariants.{Refused, Untraced, Unsent}
use Rattle.panel_session.specs.Engine.{HasCome, HasRun, HoldsAnswered, MayTurn, WasCut}
use Rattle.panel_session.specs.Entry.{PlantEntry}
use Rattle.panel_session.specs.MovesInside.{silenced, took}
use Rattle.panel_session.specs.SenderKept.{sending}
use Rattle.panel_session.specs.Served.{AnsweredButLast}
use Rattle.panel_session.specs.Session.{StandsFor, made_by}
use Rattle.panel_session.specs.SoFar.{Progress, entries_so_far, read_so_far}
use Rattle.panel_session.specs.TakenInside.{sent_by}
use Rattle.panel_session.specs.Turns.{entries_in}

-- So far the session stands for this past of the turn, in which these bytes were sent, and this is left of the piece.
pub record IsUnderWay {Answerer : Type 0}
    (Answers : Answerer → List PlantEntry → Answerer → Type 0) (sent_first : Bool)
    (plant : PlantData) (panel seat : ℕ) (past : Progress) (piece : List ℕ)
    (first answerer : Answerer) (session : Session) (rest : List ℕ) (now : Progress)
    (more : List ℕ) : Type 0 where
  pub come : HasCome seat past piece now rest
  pub sent : now.sent ≡ past.sent ++ more
  pub answers : Answers first (entries_in now.now) answerer
  pub stands : StandsFor plant panel session now
  pub answered : HoldsAnswered sent_first plant past now more

-- A turn is under way behind some past that the session stood for when it began.
pub record IsOnItsWay {Answerer : Type 0} (IsSeat : Answerer → ℕ → Type 0)
    (Serves : PlantData → Answerer → Type 0)
    (Answers : Answerer → List PlantEntry → Answerer → Type 0) (sent_first : Bool)
    (session : Session) (answerer : Answerer) (rest : List ℕ) : Type 0 where
  pub plant : PlantData
  pub panel : ℕ
  pub seat : ℕ
  pub begun : Session
  pub past : Progress
  pub piece : List ℕ
  pub first : Answerer
  pub now : Progress
  pub more : List ℕ
  pub may : MayTurn IsSeat Serves plant panel seat begun past first piece
  pub way : IsUnderWay Answers sent_first plant panel seat past piece first answerer session rest
      now more

-- It has come on from where these bytes were given: exactly those that were sent more were given to the outlet.
pub record GoesTo {Answerer Outlet : Type 0}
    (Answers : Answerer → List PlantEntry → Answerer → Type 0) (sent_first : Bool)
    (Given : Outlet → List ℕ → Outlet → Type 0)
    (plant : PlantData) (panel seat : ℕ) (past : Progress) (piece before : List ℕ)
    (first answerer : Answerer) (session : Session) (rest : List ℕ) (out out_then : Outlet)
    : Type 0 where
  pub now : Progress
  pub added : List ℕ
  pub gave : Given out added out_then
  pub way : IsUnderWay Answers sent_first plant panel seat past piece first answerer session rest
      now (before ++ added)

-- It goes on, up to where this is left of its piece.
abbrev pub GoesOn : {Answerer Outlet : Type 0} (IsSeat : Answerer → ℕ → Type 0)
    (Serves : PlantData → Answerer → Type 0)
    (Answers : Answerer → List PlantEntry → Answerer → Type 0) (sent_first : Bool)
    (Given : Outlet → List ℕ → Outlet → Type 0)
    → List ℕ → List ℕ → Session → Session → Answerer → Answerer → Outlet → Outlet → Type 0
GoesOn IsSeat Serves Answers sent_first Given rest rest_then session session_then
    answerer answerer_then out out_then =
    (on : IsOnItsWay IsSeat Serves Answers sent_first session answerer rest)
    → GoesTo Answers sent_first Given on.plant on.panel on.seat on.past on.piece on.more
    on.first answerer_then session_then rest_then out out_then

-- It goes on to its end.
abbrev pub Ends : {Answerer Outlet : Type 0} (IsSeat : Answerer → ℕ → Type 0)
    (Serves : PlantData → Answerer → Type 0)
    (Answers : Answerer → List PlantEntry → Answerer → Type 0) (sent_first : Bool)
    (Given : Outlet → List ℕ → Outlet → Type 0)
    → Session → Session → Answerer → Answerer → Outlet → Outlet → Type 0
Ends IsSeat Serves Answers sent_first Given session session_then answerer answerer_then
    out out_then =
    (on : IsOnItsWay IsSeat Serves Answers sent_first session answerer [])
    → (added : List ℕ) × Given out added out_then
    × HasRun Answers sent_first on.plant on.panel on.seat on.past on.piece on.first answerer_then
    session_then (on.more ++ added)

-- It is cut short.
abbrev pub StopsOnWay : {Answerer Outlet : Type 0} (IsSeat : Answerer → ℕ → Type 0)
    (Serves : PlantData → Answerer → Type 0)
    (Answers : Answerer → List PlantEntry → Answerer → Type 0)
    (TracesPart : Answerer → PlantEntry → Answerer → Type 0)
    (Refuses : Answerer → Answerer → Type 0)
    (sent_first : Bool) (Given Failed : Outlet → List ℕ → Outlet → Type 0)
    → Cut → List ℕ → Session → Session → Answerer → Answerer → Outlet → Outlet → Type 0
StopsOnWay IsSeat Serves Answers TracesPart Refuses sent_first Given Failed cut rest
    session session_then answerer answerer_then out out_then =
    (on : IsOnItsWay IsSeat Serves Answers sent_first session answerer rest)
    → WasCut Answers TracesPart Refuses sent_first Given Failed cut on.plant on.panel on.seat
    on.past on.piece on.more on.first answerer_then session_then out out_then

-- The last item asks the plant something, and of the bytes that are sent by then those that the session made last are yet to be
-- given: it goes on behind what was given,
abbrev pub TellsOn : {Answerer Outlet : Type 0} (IsSeat : Answerer → ℕ → Type 0)
    (Serves : PlantData → Answerer → Type 0)
    (Answers : Answerer → List PlantEntry → Answerer → Type 0) (sent_first : Bool)
    (Given : Outlet → List ℕ → Outlet → Type 0)
    → Session → Session → Answerer → Answerer → Outlet → Outlet → Type 0
TellsOn IsSeat Serves Answers sent_first Given session session_then answerer answerer_then
    out out_then =
    (rest : List ℕ) (on : IsOnItsWay IsSeat Serves Answers sent_first session answerer rest)
    (before : List ℕ) → on.more ≡ before ++ made_by session
    → HoldsAnswered sent_first on.plant on.past on.now before
    → GoesTo Answers sent_first Given on.plant on.panel on.seat on.past on.piece before
    on.first answerer_then session_then rest out out_then

-- or is cut short there.
abbrev pub StopsTelling : {Answerer Outlet : Type 0} (IsSeat : Answerer → ℕ → Type 0)
    (Serves : PlantData → Answerer → Type 0)
    (Answers : Answerer → List PlantEntry → Answerer → Type 0)
    (TracesPart : Answerer → PlantEntry → Answerer → Type 0)
    (Refuses : Answerer → Answerer → Type 0)
    (sent_first : Bool) (Given Failed : Outlet → List ℕ → Outlet → Type 0)
    → Cut → Session → Session → Answerer → Answerer → Outlet → Outlet → Type 0
StopsTelling IsSeat Serves Answers TracesPart Refuses sent_first Given Failed cut
    session session_then answerer answerer_then out out_then =
    (rest : List ℕ) (on : IsOnItsWay IsSeat Serves Answers sent_first session answerer rest)
    (before : List ℕ) → on.more ≡ before ++ made_by session
    → HoldsAnswered sent_first on.plant on.past on.now before
    → WasCut Answers TracesPart Refuses sent_first Given Failed cut on.plant on.panel on.seat
    on.past on.piece before on.first answerer_then session_then out out_then

-- How a turn was cut short once a request was answered, whose frames are these bytes: its line wasn't traced, and nothing was
-- given; or it was, and they weren't given as a whole.
abbrev pub CutBehind : {Answerer Outlet : Type 0}
    (Answers : Answerer → List PlantEntry → Answerer → Type 0)
    (TracesPart : Answerer → PlantEntry → Answerer → Type 0)
    (Failed : Outlet → List ℕ → Outlet → Type 0)
    → Cut → PlantEntry → List ℕ → Answerer → Answerer → Outlet → Outlet → Type 0
CutBehind Answers TracesPart Failed Refused entry bytes first last out out_then = ⊥
CutBehind Answers TracesPart Failed Untraced entry bytes first last out out_then =
    TracesPart first entry last × (out_then ≡ out)
CutBehind Answers TracesPart Failed Unsent entry bytes first last out out_then =
    Answers first (entry ∷ []) last × Failed out bytes out_then

-- the session that has given what it made last where all is sent first, and the bytes that it gave
abbrev pub sent_ahead : Bool → Session → Session
sent_ahead true session = silenced session
sent_ahead false session = session

abbrev pub bytes_ahead : Bool → List ℕ → List ℕ
bytes_ahead true bytes = bytes
bytes_ahead false bytes = []

-- A session is this one, but for the bytes that it has yet.
pub record IsButBytes (session after : Session) : Type 0 where
  pub bytes : List ℕ
  pub same : after ≡ record session {
    sender = sending (record session.sender.output { bytes = bytes }) session.sender;
  }

-- An item that sends the plant nothing was taken.
abbrev pub HasDone : Asked → Session → Session → Type 0
HasDone asked session after = IsButBytes (took session.sender.names asked session) after

-- the bytes that are sent for it
abbrev pub done_bytes : Asked → Session → List ℕ
done_bytes asked session = sent_by session.sender.names asked session.sender.output

-- A session that asked has its answer, the last entry of a later past, and has made these bytes of it, which are sent there. What
-- was sent before has all that there was to say when it asked.
pub record HasAsked (plant : PlantData) (panel seat : ℕ) (past : Progress) (piece : List ℕ)
    (now : Progress) (rest : List ℕ) (entry : PlantEntry) (added : List ℕ) (after : Session)
    : Type 0 where
  pub later : Progress
  pub come : HasCome seat past piece later rest
  pub stands : StandsFor plant panel after later
  pub sent : later.sent ≡ now.sent ++ added
  pub entries : entries_in later.now ≡ entries_in now.now ++ entry ∷ []
  pub answered : AnsweredButLast plant (read_so_far later) (entries_so_far later) now.sent

-- Bytes of an item were sent behind these, or are about to be.
pub record HasSent {Answerer : Type 0}
    (Answers : Answerer → List PlantEntry → Answerer → Type 0) (sent_first : Bool)
    (plant : PlantData) (panel seat : ℕ) (past : Progress) (piece : List ℕ)
    (first answerer : Answerer) (session : Session) (rest more added : List ℕ) : Type 0 where
  pub now : Progress
  pub way : IsUnderWay Answers sent_first plant panel seat past piece first answerer session rest
      now (more ++ added)
  pub earlier : HoldsAnswered sent_first plant past now more
