-- A session that is served and cut short.
use Rattle.std.proofs.Common.{◌≡◌, ℕ, true, Bool, List, [], ◌++◌, length, Option, refl, sym, ap, ◌∙◌, subst}
use Rattle.std.proofs.lemmas.List.{append_assoc, append-nil}
use mathlib.Core.List.{IsPrefix}
use Rattle.ctl_io.specs.Sink.{appended}
use Rattle.history_lock.specs.Calls.{FoundFull}
use Rattle.plant_config.specs.Plant.{PlantData}
use Rattle.panel_session.specs.declared.serve.SessionEnd.{SessionEnd}
use Rattle.panel_session.specs.declared.serve.SessionEnd.TheVariants.{Ended, ReadFault, WriteFault, TraceFault, IdleOut, Spent, Full}
use Rattle.panel_session.specs.AnsweringLaws.{appended-both, appended-none, lines-behind, mark-both, sees_both}
use Rattle.panel_session.specs.Entry.{PlantEntry}
use Rattle.panel_session.specs.Served.{AnsweredButLast, PlantSeat, full_after, mark_after, own_lines}
use Rattle.panel_session.specs.ServedInside.{Outside, HasBrokenOff, HasGoneOn, KeepsAnswered, outside}
use Rattle.panel_session.specs.SoFar.{Progress, entries_so_far, read_so_far}
use Rattle.panel_session.proofs.AnsweredLemmas.{answered_front}
use Rattle.panel_session.proofs.GoneOnLemmas.{own-behind}

-- The mark of a seat where it ended so.
full-both : (end : SessionEnd) (one other : List PlantEntry) (before : Bool) → full_after end (one ++ other) before ≡ full_after end other (mark_after one before)
full-both Ended one other before = mark-both one other before
full-both ReadFault one other before = mark-both one other before
full-both WriteFault one other before = mark-both one other before
full-both TraceFault one other before = mark-both one other before
full-both IdleOut one other before = mark-both one other before
full-both Spent one other before = mark-both one other before
full-both Full one other before = refl

-- It goes on, and then is cut short.
pub broken_both : (plant : PlantData) (end : SessionEnd) (a b c : Outside) (p q r : Progress) → HasGoneOn plant a b p q → HasBrokenOff plant end b c q r → HasBrokenOff plant end a c p r
broken_both plant end a b c p q r one other =
    let lines = own_lines plant a.seat.number (length a.seat.seen) one.new in
    let later = own_lines plant b.seat.number (length b.seat.seen) other.new in
    let behind = lines-behind plant a.seat b.seat one.new other.new one.sees in
    let sent : q.sent ++ other.bytes ≡ p.sent ++ (one.sent ++ other.bytes) = ap (λ (sent : List ℕ). sent ++ other.bytes) one.sent_is ∙ append_assoc p.sent one.sent other.bytes in
    let Front : List ℕ → Type 0 = λ bytes. IsPrefix bytes r.sent in
    let Answered : List ℕ → Type 0 = λ bytes. AnsweredButLast plant (read_so_far r) (entries_so_far r) bytes in
    record {
      new = one.new ++ other.new;
      sees = sees_both plant a.seat b.seat c.seat one.new other.new one.sees other.sees;
      full = other.full ∙ ap (full_after end other.new) one.full ∙ sym (full-both end one.new other.new a.seat.ticket_full);
      entries = own-behind plant a.seat b.seat one.new other.new (entries_so_far p) (entries_so_far q) (entries_so_far r) one.sees one.entries other.entries;
      bytes = one.sent ++ other.bytes;
      front = subst Front sent other.front;
      answered = subst Answered sent other.answered;
      written = other.written ∙ ap (λ (written : Option (List ℕ)). appended written other.bytes) one.written ∙ appended-both a.written one.sent other.bytes;
      lines = lines ++ other.lines;
      traced = other.traced ∙ ap (λ (traced : Option (List ℕ)). appended traced other.lines) one.traced ∙ appended-both a.traced lines other.lines;
      traces = (
        (other.traces.0.0, append_assoc lines other.lines other.traces.0.0 ∙ ap (λ (bytes : List ℕ). lines ++ bytes) other.traces.0.1 ∙ sym behind),
        λ whole. ap (λ (bytes : List ℕ). lines ++ bytes) (other.traces.1 whole) ∙ sym behind,
      );
    }

-- The history had no place.
pub broken_full : (plant : PlantData) (past : Progress) (seat seat_then : PlantSeat) (written traced traced_then : Option (List ℕ)) → FoundFull seat seat_then → traced_then ≡ traced → KeepsAnswered plant past
    → HasBrokenOff plant Full (outside seat written traced) (outside seat_then written traced_then) past past
broken_full plant past seat seat_then written traced traced_then found same keeps =
    let seen : seat_then.seen ≡ seat.seen = ap (λ (seat : PlantSeat). seat.seen) found in
    let full : seat_then.ticket_full ≡ true = ap (λ (seat : PlantSeat). seat.ticket_full) found in
    record {
      new = [];
      sees = record {
        seen = seen ∙ sym (append-nil seat.seen);
        same = found
            ∙ ap (λ (seen : List PlantEntry). record seat { seen = seen; ticket_full = true }) (sym seen)
            ∙ ap (λ (full : Bool). record seat { seen = seat_then.seen; ticket_full = full }) (sym full);
        legal = λ some. absurd (some refl);
      };
      full = full;
      entries = sym (append-nil (entries_so_far past));
      bytes = [];
      front = ([], append-nil (past.sent ++ []) ∙ append-nil past.sent);
      answered = answered_front plant (read_so_far past) (entries_so_far past) past.sent (past.sent ++ []) ([], refl) keeps;
      written = sym (appended-none written);
      lines = [];
      traced = same ∙ sym (appended-none traced);
      traces = (([], refl), λ whole. refl);
    }
