-- A net in memory.
use Rattle.std.proofs.Common.{◌≡◌, ℕ, min, Bool, true, false, if◌then◌else◌, slice_get, Option, Some, None, IfSome, option_map, refl}
use Rattle.std.specs.Option.{option_map_or}
use Rattle.ctl_net.specs.MemAcceptor.{AcceptorState, opened_as}
use Rattle.ctl_net.specs.MemNet.{NetState, opens_none, acceptor_answer, sessions_for}
use Rattle.ctl_net.specs.declared.opening.Opening.{Opening}

-- an acceptor that is opened has the sessions that the net has for it
pub as_asked : (net : NetState) (opening : Opening) (sessions : ℕ) → IfSome (acceptor_answer net opening sessions) (λ (acceptor : AcceptorState). acceptor.sessions ≡ sessions_for net sessions)
as_asked net opening sessions = by (opens_none net) (slice_get net.acceptors 0)
  where
    by : (none : Bool) (first : Option AcceptorState) →
        IfSome (option_map (opened_as opening sessions) (if none then None else first)) (λ (acceptor : AcceptorState). acceptor.sessions ≡ option_map_or (λ (acceptor : AcceptorState). min acceptor.sessions sessions) first sessions)
    by true first = tt
    by false None = tt
    by false (Some acceptor) = refl
