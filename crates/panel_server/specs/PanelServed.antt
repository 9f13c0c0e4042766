-- What the worker of a panel has done: which links it served, what it asked and traced, and why it took no further link.
use Rattle.std.specs.Prelude.{◌≡◌, ◌≢◌, ◌⊎◌, ℕ, ◌+◌, Bool, true, false, if◌then◌else◌, List, [], ◌∷◌, ◌++◌, length, map, filter}
use Rattle.std.specs.List.{flat_map}
use Rattle.std.specs.Option.{option_map}
use Rattle.ctl_io.specs.Custody.{Custody}
use Rattle.ctl_io.specs.Faults.{count_after}
use Rattle.ctl_io.specs.Sink.{appended}
use Rattle.ctl_net.specs.Acceptor.{LinkEnd, IsFresh}
use Rattle.ctl_net.specs.Net.{AcceptorEnd}
use Rattle.history_lock.specs.History.{entries_of, IsLegal}
use Rattle.plant_config.specs.Plant.{PlantData}
use Rattle.plant_core.specs.State.{start, Fits as Takes}
use Rattle.plant_core.specs.Step.{step}
use Rattle.plant_core.specs.declared.request.Request.TheVariants.{Leave}
use Rattle.panel_session.specs.declared.serve.SessionEnd.{SessionEnd}
use Rattle.panel_session.specs.declared.serve.SessionEnd.TheVariants.{ReadFault, WriteFault, TraceFault, IdleOut, Spent, Full}
use Rattle.panel_session.specs.declared.session.Session.{Session}
use Rattle.panel_session.specs.Entry.{PlantEntry}
use Rattle.panel_session.specs.Served.{PlantSeat, Served, StandsOrAwaits, TraceData, own_lines, trace_failed_at, TracesUnless}
use Rattle.panel_session.specs.SoFar.{Progress}
use Rattle.panel_server.specs.declared.panel.PanelDone.{PanelDone}

-- A link that a panel's session was served over: it was handed out as `link`, new, and given back as `link_then`. What the
-- session did meanwhile, from one seat and trace to others, until it ended so, is what `Served` says.
pub record LinkServed (plant : PlantData) (panel turns : ℕ) : Type 0 where
  pub end : SessionEnd
  pub session_then : Session
  pub seat : PlantSeat
  pub seat_then : PlantSeat
  pub link : LinkEnd
  pub link_then : LinkEnd
  pub trace : TraceData
  pub trace_then : TraceData
  pub fresh : IsFresh link
  pub served : Served plant panel turns end session_then seat seat_then link link_then trace
      trace_then

-- which ends are by a fault of the link, which by a limit, and which by a full history
abbrev pub is_link_fault : SessionEnd → Bool
is_link_fault ReadFault = true
is_link_fault WriteFault = true
is_link_fault other = false

abbrev pub is_limit : SessionEnd → Bool
is_limit IdleOut = true
is_limit Spent = true
is_limit Full = true
is_limit other = false

abbrev pub is_full : SessionEnd → Bool
is_full Full = true
is_full other = false

-- behind which ends no further link is taken
abbrev pub is_last_end : SessionEnd → Bool
is_last_end TraceFault = true
is_last_end Full = true
is_last_end other = false

-- the own entries of a link's session
abbrev pub own_of : {plant : PlantData} {panel turns : ℕ} → LinkServed plant panel turns
    → List PlantEntry
own_of one = entries_of one.seat.number one.served.new

-- the links whose session ended so
abbrev pub that_ended : {plant : PlantData} {panel turns : ℕ} → (SessionEnd → Bool)
    → List (LinkServed plant panel turns) → List (LinkServed plant panel turns)
that_ended is links = filter (λ one. is one.end) links

-- The links were served one behind the other, from one seat and trace to others: each from the seat and the trace that the
-- one before it left. Behind one after which no further link is taken there is none.
abbrev pub AreInTurn : {plant : PlantData} {panel turns : ℕ} → PlantSeat → TraceData
    → List (LinkServed plant panel turns) → PlantSeat → TraceData → Type 0
AreInTurn seat trace [] seat_then trace_then = (seat_then ≡ seat) × (trace_then ≡ trace)
AreInTurn seat trace (one ∷ later) seat_then trace_then =
    (one.seat ≡ seat) × (one.trace ≡ trace) × (is_last_end one.end ≡ true → later ≡ [])
    × AreInTurn one.seat_then one.trace_then later seat_then trace_then

-- An acceptor's count of links with faults, once these were given back: each whose session ended by a fault of its link is one.
abbrev pub faults_back : {plant : PlantData} {panel turns : ℕ}
    → List (LinkServed plant panel turns) → ℕ → ℕ
faults_back [] count = count
faults_back (one ∷ later) count =
    faults_back later (count_after (is_link_fault one.end) count)

-- the custody of objects once these were handed out and given back: as many are out as before
abbrev pub all_returned : {Shown : Type 0} → List Shown → Custody Shown → Custody Shown
all_returned ends custody = record custody { back = option_map (λ back. back ++ ends) custody.back }

-- The entry of a panel's leave by a seat, which is missing where the seat found that the history has no place.
abbrev pub leave_of : Bool → ℕ → ℕ → List PlantEntry
leave_of full seat panel =
    if full then [] else record { seat = seat; request = Leave panel; answers = [] } ∷ []

-- What the worker of a panel did from one seat, acceptor and trace to others, and what it answered of it: the links that it
-- was handed, in their order, the entries that the history has more, and the lines that it traced.
pub record PanelServed (plant : PlantData) (panel turns : ℕ) (done : PanelDone)
    (session_then : Session) (seat seat_then : PlantSeat) (acceptor acceptor_then : AcceptorEnd)
    (trace trace_then : TraceData) : Type 0 where
  pub links : List (LinkServed plant panel turns)
  pub new : List PlantEntry
  pub lines : List ℕ
  -- Each link that the acceptor handed out was given back, and there are so many. They were served one behind the other, and
  -- then the seat and the trace were so.
  pub used : acceptor.sessions ≡ acceptor_then.sessions + length links
  pub back : acceptor_then.links ≡ all_returned (map (λ one. one.link_then) links) acceptor.links
  pub seat_last : PlantSeat
  pub trace_last : TraceData
  pub in_turn : AreInTurn seat trace links seat_last trace_last
  -- The seat has seen a legal history that begins with the one that it had seen. Its own entries are its former ones and then
  -- those of this call: those of each link's session, in their order, and the panel's leave.
  pub legal : new ≢ [] → IsLegal step Takes (start plant) seat_then.seen
  pub seen : seat_then.seen ≡ seat.seen ++ new
  pub own : entries_of seat.number seat_then.seen
      ≡ entries_of seat.number seat.seen ++ entries_of seat.number new
  pub entries : entries_of seat.number new
      ≡ flat_map own_of links ++ leave_of seat_then.ticket_full seat.number panel
  pub full : that_ended is_full links ≢ [] → seat_then.ticket_full ≡ true
  pub seat_same : seat_then
      ≡ record seat { seen = seat_then.seen; ticket_full = seat_then.ticket_full }
  -- The trace has the line of each. Behind a session that ended by a fault of the trace no line was written.
  pub traced : trace_then.written ≡ appended trace.written lines
  pub traces : TracesUnless done.trace_failed
      (own_lines plant seat.number (length seat.seen) new) lines
  pub trace_count : trace_then.faults ≡ count_after done.trace_failed trace.faults
  pub torn : that_ended trace_failed_at links ≢ []
      → (done.trace_failed ≡ true) × (trace_then ≡ trace_last)
  -- It counts the links, those whose session ended by a fault of the link, and those whose session ended by a limit.
  pub sessions : done.sessions ≡ length links
  pub link_faults : done.link_faults ≡ length (that_ended is_link_fault links)
  pub limits : done.limits ≡ length (that_ended is_limit links)
  pub done_count : acceptor_then.done_faults ≡ faults_back links acceptor.done_faults
  -- A further link was refused, or none was left, or none was asked for behind the last one. So the acceptor has a session left
  -- only if it refused one, or if a session ended by a fault of the trace or by a full history.
  pub next_count : acceptor_then.next_faults ≡ count_after done.refused acceptor.next_faults
  pub refused : done.refused ≡ true → that_ended is_last_end links ≡ []
  pub sessions_left : acceptor_then.sessions ≢ 0
      → (done.refused ≡ true) ⊎ (that_ended is_last_end links ≢ [])
  -- The session may be made anew.
  pub left : (past : Progress) × StandsOrAwaits plant panel session_then past
