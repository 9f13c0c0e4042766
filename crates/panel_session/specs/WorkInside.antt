-- What a session has yet to spell.
use Rattle.std.specs.Prelude.{◌≡◌, ℕ, List}
use Rattle.panel_session.specs.declared.session.Session.{Session}
use Rattle.panel_session.specs.declared.session.phase.Phase.TheVariants.{Poll}
use Rattle.panel_session.specs.NamePagesInside.{frames_left}
use Rattle.panel_session.specs.NamesLeftInside.{left_at, stage_of, with_left}
use Rattle.panel_session.specs.SenderKept.{sending}
use Rattle.panel_session.specs.Text.{bytes_in}

-- a session that has spelled all pages of names that are left
abbrev pub spelled_all : Session → Session
spelled_all session = record session {
  phase = stage_of session.phase;
  sender = sending
      (with_left session.sender.names session.phase session.sender.output) session.sender;
}

-- the bytes of these pages
abbrev pub left_bytes : Session → List ℕ
left_bytes session = bytes_in (frames_left session.sender.names (left_at session.phase))

-- All pages that were left were spelled and handed out, part by part: the session is one that has spelled them all, but for
-- the bytes that it has yet.
pub record IsSpelled (session after : Session) : Type 0 where
  pub bytes : List ℕ
  pub same : after ≡ record (spelled_all session) {
    sender = sending (record (spelled_all session).sender.output { bytes = bytes }) session.sender;
  }

-- a session that has polled so often in the turn, and polls again
abbrev pub polling_at : ℕ → Session → Session
polling_at polls session = record session { phase = Poll; polls = polls }
