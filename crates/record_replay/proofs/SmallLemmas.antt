-- That what sessions do stays small.
use Rattle.std.proofs.Common.{◌≡◌, ℕ, suc, ◌+◌, ◌*◌, ◌^◌, ◌≤◌, ◌<◌, List, [], ◌∷◌, ◌++◌, false, ap, ◌∙◌, arith}
use Rattle.std.proofs.lemmas.List.{append-nil, length-append}
use Rattle.panel_session.specs.Acting.{MayGoOn}
use Rattle.panel_session.specs.Run.{turned}
use Rattle.panel_session.specs.SoFar.{Progress, unstarted, nothing_yet, read_so_far}
use Rattle.panel_session.specs.Turns.{Turn, bytes_read}
use Rattle.panel_session.proofs.KeptTurnLemmas.{bytes_of-append}
use Rattle.record_replay.specs.ReplayerInside.{IsSmall, ends_in}
use Rattle.record_replay.proofs.ItemsFew.{ends_behind-append, items-few}

pub small_nothing : (used : ℕ) → IsSmall used nothing_yet
small_nothing used = record { ends = omega arith; turns = omega arith }

pub small_later : (used later : ℕ) (past : Progress) → used ≤ later → IsSmall used past → IsSmall later past
small_later used later past within small = record { ends = omega (arith, within, small.ends); turns = omega (arith, within, small.turns) }

-- A turn more has a piece.
pub small_turned : (used : ℕ) (past : Progress) (turn : Turn) (more : List ℕ) → IsSmall used past → IsSmall (used + 2 * suc (ends_in turn.piece)) (turned turn more past)
small_turned used past turn more small =
    record {
      ends = omega (arith, small.ends, ap ends_in (bytes_of-append past.turns turn), ends_behind-append false (bytes_read past.turns) turn.piece);
      turns = omega (arith, small.turns, length-append past.turns (turn ∷ []));
    }

-- What is small may go on.
pub may_go_on : (used : ℕ) (past : Progress) (piece : List ℕ) → past.now ≡ unstarted → IsSmall used past → used + 2 * suc (ends_in piece) < 2 ^ 63 → MayGoOn past piece
may_go_on used past piece begins small within =
    let read : read_so_far past ≡ bytes_read past.turns = ap (λ (now : Turn). bytes_read past.turns ++ now.piece) begins ∙ append-nil (bytes_read past.turns) in
    record {
      items = omega (arith, small.ends, within, ap ends_in read, ends_behind-append false (read_so_far past) piece, items-few (read_so_far past ++ piece));
      turns = omega (arith, small.turns, within);
      rest = λ some. absurd (some (ap (λ (now : Turn). now.polls) begins));
    }
