-- The links that an acceptor hands out and takes back.
use Rattle.std.specs.Prelude.{◌≡◌, ℕ, ◌+◌, Bool, true, false, ◌||◌, List, Option}
use Rattle.ctl_io.specs.Custody.{Custody, lent}
use Rattle.ctl_io.specs.Faults.{is_faulty}
use Rattle.ctl_io.specs.ReadHalf.{ReadHalf}
use Rattle.ctl_io.specs.Sink.{IsUnwritten}
use Rattle.ctl_net.specs.Link.{IsUnread}
use Rattle.ctl_net.specs.declared.acceptor.Next.{Next}
use Rattle.ctl_net.specs.declared.acceptor.Next.TheVariants.{One, NoMore, Failed}
use Rattle.ctl_net.specs.declared.opening.Opening.{Opening}

-- what a link shows when it is given back: what was written, its count of failed writes, and its read half
pub record LinkEnd : Type 0 where
  pub written : Option (List ℕ)
  pub write_faults : ℕ
  pub read_half : ReadHalf

abbrev pub link_end : Option (List ℕ) → ℕ → ReadHalf → LinkEnd
link_end written write_faults read_half = record {
  written = written;
  write_faults = write_faults;
  read_half = read_half;
}

-- What an acceptor shows: the opening that made it, or none, if no net opened it; how many sessions are left; the links that it
-- handed out and took back; how often the next link couldn't be handed out, and how often a link with faults was given back.
pub record AcceptorData : Type 0 where
  pub opening : Option Opening
  pub sessions : ℕ
  pub links : Custody LinkEnd
  pub next_faults : ℕ
  pub done_faults : ℕ

-- whether a read or a write of a link failed
abbrev pub is_faulty_link : ℕ → ReadHalf → Bool
is_faulty_link write_faults read_half = is_faulty write_faults || is_faulty read_half.faults

-- Nothing was read from a link and nothing was written to it, and no call failed.
pub record IsFresh (end : LinkEnd) : Type 0 where
  pub unwritten : IsUnwritten end.written
  pub no_faults : end.write_faults ≡ 0
  pub unread : IsUnread end.read_half

-- a fact of the link that is handed out
abbrev pub IfOne : {L : Type 0} → Next L → (L → Type 0) → Type 0
IfOne (One link) P = P link
IfOne NoMore P = Unit {0}
IfOne Failed P = Unit {0}

-- whether the answer is that the call failed
abbrev pub next_failed : {L : Type 0} → Next L → Bool
next_failed (One link) = false
next_failed NoMore = false
next_failed Failed = true

-- A link uses up one session of those that are left, which are none where there is no more.
abbrev pub Uses : {L : Type 0} → Next L → ℕ → ℕ → Type 0
Uses (One link) before now = before ≡ now + 1
Uses NoMore before now = (before ≡ 0) × (now ≡ 0)
Uses Failed before now = now ≡ before

-- the custody of the links after the next one was asked for
abbrev pub link_lent : {L : Type 0} → Next L → Custody LinkEnd → Custody LinkEnd
link_lent (One link) custody = lent custody
link_lent NoMore custody = custody
link_lent Failed custody = custody
