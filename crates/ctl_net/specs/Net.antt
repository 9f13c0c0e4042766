-- What a net opens, hands out and takes back.
use Rattle.std.specs.Prelude.{◌≡◌, ℕ, Bool, true, false, ◌||◌, List, [], ◌∷◌, ◌++◌, Option, Some, None, IfSome}
use Rattle.std.specs.Option.{option_map}
use Rattle.ctl_io.specs.Custody.{Custody, lent}
use Rattle.ctl_io.specs.Faults.{is_faulty}
use Rattle.ctl_net.specs.Acceptor.{AcceptorData, LinkEnd}
use Rattle.ctl_net.specs.Port.{IsSomePacket}
use Rattle.ctl_net.specs.declared.opening.Opening.{Opening}

-- What an acceptor shows when it is given back: the number of the panel that it is given back for, the opening that made it,
-- how many sessions are left, the links that it handed out and took back, and its counts of faults.
pub record AcceptorEnd : Type 0 where
  pub panel : ℕ
  pub opening : Option Opening
  pub sessions : ℕ
  pub links : Custody LinkEnd
  pub next_faults : ℕ
  pub done_faults : ℕ

abbrev pub acceptor_end : ℕ → AcceptorData → AcceptorEnd
acceptor_end panel acceptor = record {
  panel = panel;
  opening = acceptor.opening;
  sessions = acceptor.sessions;
  links = acceptor.links;
  next_faults = acceptor.next_faults;
  done_faults = acceptor.done_faults;
}

-- What a display port shows when it is given back: the opening that made it, and itself.
pub record PortEnd (P : Type 0) : Type 0 where
  pub opening : Option Opening
  pub port : P

abbrev pub port_end : {P : Type 0} → Option Opening → P → PortEnd P
port_end opening port = record { opening = opening; port = port }

-- What a net shows: the openings that handed something out, in order; its acceptors and its ports that are out and that came
-- back; and its counts of openings that were refused and of objects that came back with faults.
pub record NetData (P : Type 0) : Type 0 where
  pub openings : Option (List Opening)
  pub acceptors : Custody AcceptorEnd
  pub ports : Custody (PortEnd P)
  pub open_faults : ℕ
  pub close_faults : ℕ

-- whether an acceptor with these counts of faults met one
abbrev pub ends_faulty : ℕ → ℕ → Bool
ends_faulty next_faults done_faults = is_faulty next_faults || is_faulty done_faults

-- An acceptor has handed out nothing and taken nothing back, and no call of it has failed.
pub record IsFreshAcceptor (links : Custody LinkEnd) (next_faults done_faults : ℕ) : Type 0 where
  pub none_out : links.out ≡ 0
  pub none_back : IfSome links.back (λ all. all ≡ [])
  pub next_count : next_faults ≡ 0
  pub done_count : done_faults ≡ 0

-- No packet was sent to a port, and no call of it has failed.
pub record IsFreshPort (was_sent : List (List ℕ) → Type 0) (faults : ℕ) : Type 0 where
  pub none : was_sent []
  pub count : faults ≡ 0

-- Each packet that isn't empty is one that is taken.
abbrev pub TakesAll : (List ℕ → Type 0) → Type 0
TakesAll takes = (packet : List ℕ) → IsSomePacket packet → takes packet

-- whether an opening was refused
abbrev pub is_refused : {A : Type 0} → Option A → Bool
is_refused (Some one) = false
is_refused None = true

-- the openings that are shown after this one, which is among them where it wasn't refused
abbrev pub opened : {A : Type 0} → Option A → Opening → Option (List Opening)
    → Option (List Opening)
opened (Some one) opening shown = option_map (λ all. all ++ opening ∷ []) shown
opened None opening shown = shown

-- the custody of a kind after an opening of that kind
abbrev pub opening_lent : {A Shown : Type 0} → Option A → Custody Shown → Custody Shown
opening_lent (Some one) custody = lent custody
opening_lent None custody = custody
