-- How a session that is served ends.
use Rattle.std.proofs.Common.{◌≡◌, ◌≢◌, ℕ, ◌<◌, ◌≤◌, ◌==◌, true, false, Bool, List, [], ◌∷◌, ◌++◌, length, map, Option, inl, inr, refl, sym, ap, ◌∙◌, subst, arith}
use Rattle.std.proofs.lemmas.Bool.{false≢true}
use Rattle.std.proofs.lemmas.List.{append_assoc, append-nil, length-append}
use Rattle.std.proofs.lemmas.List.Elements.{filter-append}
use Rattle.ctl_io.specs.Faults.{count_after}
use Rattle.ctl_io.specs.ReadHalf.{ReadHalf}
use Rattle.ctl_net.specs.Acceptor.{LinkEnd}
use Rattle.dle_framing.specs.Items.{items}
use Rattle.history_lock.specs.History.{entries_of}
use Rattle.history_lock.proofs.Fronts.{front_self, front_trans}
use Rattle.plant_config.specs.Plant.{PlantData}
use Rattle.panel_session.specs.declared.serve.SessionEnd.{SessionEnd}
use Rattle.panel_session.specs.declared.serve.SessionEnd.TheVariants.{Ended, ReadFault, WriteFault, TraceFault, IdleOut, Spent, Full}
use Rattle.panel_session.specs.declared.session.Session.{Session}
use Rattle.panel_session.specs.Entry.{PlantEntry}
use Rattle.panel_session.specs.Served.{PlantSeat, TraceData, Served, AnsweredButLast, AreTaken, HasCause, IdlesAsEnded, StandsOrAwaits, all_read, full_after, idles_after, mark_after, may_be_idle, own_lines, read_failed_at, trace_failed_at, was_cut, write_failed_at}
use Rattle.panel_session.specs.ServedInside.{HasBrokenOff, GavePiece, HasTurned, SeesMore, WasStopped, outside}
use Rattle.panel_session.specs.Session.{Awaits, StandsFor, plant_of}
use Rattle.panel_session.specs.SoFar.{Progress, FitsOn, IsSoFar, entries_so_far, nothing_yet, read_so_far}
use Rattle.panel_session.specs.Text.{IsText}
use Rattle.panel_session.specs.Turns.{FitsReads, Turn, bytes_read, entries_of_turns}
use Rattle.panel_session.proofs.ActsLemmas.{stands_so_far_lem}
use Rattle.panel_session.proofs.AnsweredLemmas.{answered_more}
use Rattle.panel_session.proofs.FitsOnLemmas.{stands_fit}
use Rattle.panel_session.proofs.BrokenOffLemmas.{broken_both}
use Rattle.panel_session.proofs.IdleLemmas.{StaysBelow, below_last}
use Rattle.panel_session.proofs.TextFronts.{text_front}
use Rattle.panel_session.proofs.TurnsFit.{turns_fit_lem}
use Rattle.panel_session.proofs.ReadsLemmas.{idles_both, read-more, read-pieces, taken_both, told_both}
use Rattle.panel_session.proofs.TurnedLemmas.{turned_entries, turned_read}

-- Of an end that didn't cut it short no write failed, and the mark is that of the calls.
pub record IsUncut (end : SessionEnd) : Type 0 where
  pub written : write_failed_at end ≡ false
  pub traced : trace_failed_at end ≡ false
  pub mark : (new : List PlantEntry) (before : Bool) → full_after end new before ≡ mark_after new before

uncut : (end : SessionEnd) → was_cut end ≡ false → IsUncut end
uncut Ended is = record { written = refl; traced = refl; mark = λ new before. refl }
uncut ReadFault is = record { written = refl; traced = refl; mark = λ new before. refl }
uncut WriteFault is = absurd (false≢true (sym is))
uncut TraceFault is = absurd (false≢true (sym is))
uncut IdleOut is = record { written = refl; traced = refl; mark = λ new before. refl }
uncut Spent is = record { written = refl; traced = refl; mark = λ new before. refl }
uncut Full is = absurd (false≢true (sym is))

-- An end that cut it short has its cause in the turn of the last read, and no read failed.
pub record IsCut (end : SessionEnd) : Type 0 where
  pub cause : (turns limit : ℕ) (reads : List (List ℕ)) (left : Option (List ℕ)) → reads ≢ [] → HasCause end turns limit reads left
  pub read : read_failed_at end ≡ false
  pub idle : may_be_idle end ≡ true

cut : (end : SessionEnd) → was_cut end ≡ true → IsCut end
cut Ended is = absurd (false≢true is)
cut ReadFault is = absurd (false≢true is)
cut WriteFault is = record { cause = λ turns limit reads left some. some; read = refl; idle = refl }
cut TraceFault is = record { cause = λ turns limit reads left some. some; read = refl; idle = refl }
cut IdleOut is = absurd (false≢true is)
cut Spent is = absurd (false≢true is)
cut Full is = record { cause = λ turns limit reads left some. some; read = refl; idle = refl }

-- the plant of a session that stands for a past
pub stands_plant : (plant : PlantData) (panel : ℕ) (session : Session) (past : Progress) → StandsFor plant panel session past → plant_of session ≡ plant
unfolding StandsFor
stands_plant plant panel session past stands = stands.0.plant_is

-- what its own entries are, once it has seen more
own_behind : (plant : PlantData) (seat seat_then : PlantSeat) (new : List PlantEntry) → SeesMore plant seat seat_then new → entries_of seat.number seat_then.seen ≡ entries_of seat.number seat.seen ++ entries_of seat.number new
own_behind plant seat seat_then new sees = ap (entries_of seat.number) sees.seen ∙ filter-append (λ (entry : PlantEntry). entry.seat == seat.number) seat.seen new

-- what it stands for, or awaits an answer in, fits what was read and the rest of the piece
left_fits : (plant : PlantData) (panel : ℕ) (session : Session) (past : Progress) (rest : List ℕ) → StandsOrAwaits plant panel session past → (past.now.polls ≢ [] → rest ≡ []) → FitsOn panel past (past.now.piece ++ rest)
unfolding StandsFor Awaits
left_fits plant panel session past rest left idle = elim left [
  | (inl stands) ↦ stands_fit plant panel session past rest stands.0 idle
  | (inr awaits) ↦ stands_fit plant panel session past rest awaits.1.0 idle
]

left_so_far : (plant : PlantData) (panel : ℕ) (session : Session) (past : Progress) → StandsOrAwaits plant panel session past → IsSoFar plant panel past
unfolding StandsFor Awaits
left_so_far plant panel session past left = elim left [
  | (inl stands) ↦ stands_so_far_lem plant panel session past stands.0
  | (inr awaits) ↦ stands_so_far_lem plant panel session past awaits.1.0
]

module _ {plant : PlantData} {panel : ℕ} where
  -- It ended, and wasn't cut short.
  pub served_uncut : {reads : List (List ℕ)} {session : Session} {seat seat_then : PlantSeat} {link link_now link_then : LinkEnd} {trace trace_then : TraceData} (turns : ℕ) (end : SessionEnd)
      (t : HasTurned plant panel reads session seat seat_then link link_now trace trace_then) → was_cut end ≡ false
      → link_then ≡ record link_now { read_half = record link_now.read_half { faults = count_after (read_failed_at end) link_now.read_half.faults } }
      → length reads ≤ turns → HasCause end turns plant.server.idle_limit reads link_now.read_half.left → IdlesAsEnded end plant.server.idle_limit reads
      → Served plant panel turns end session seat seat_then link link_then trace trace_then
  unfolding StandsFor
  served_uncut {reads = reads} {session = session} {seat = seat} {seat_then = seat_then} {link = link} {link_now = link_now} {link_then = link_then} {trace = trace} {trace_then = trace_then} turns end t whole ended few cause idles =
      let past = t.past in
      let new = t.gone.new in
      let entries = entries_of seat.number new in
      let is = uncut end whole in
      let lines = own_lines plant seat.number (length seat.seen) new in
      let half : link_then.read_half ≡ record link_now.read_half { faults = count_after (read_failed_at end) link_now.read_half.faults } = ap (λ (link : LinkEnd). link.read_half) ended in
      let left : link_then.read_half.left ≡ link_now.read_half.left = ap (λ (half : ReadHalf). half.left) half in
      let of_turns : entries_of_turns past.turns ≡ entries = turned_entries t ∙ t.gone.entries in
      let FitReads : List (List ℕ) → Type 0 = λ reads. FitsReads panel reads (entries_of_turns past.turns) in
      let FitEntries : List PlantEntry → Type 0 = λ entries. FitsReads panel reads entries in
      let fit : FitsReads panel reads entries = subst FitEntries of_turns (subst FitReads t.pieces (turns_fit_lem plant panel session past t.stands.0)) in
      let TextOf : List ℕ → Type 0 = λ read. IsText plant (items read) (entries_of_turns past.turns) past.sent in
      let TextIn : List PlantEntry → Type 0 = λ entries. IsText plant (items (all_read reads)) entries past.sent in
      let TextIs : List ℕ → Type 0 = λ bytes. IsText plant (items (all_read reads)) entries bytes in
      let text = subst TextIs t.gone.sent_is (subst TextIn of_turns (subst TextOf (read-pieces past.turns ∙ ap all_read t.pieces) t.text)) in
      let AnsweredTo : List ℕ → Type 0 = λ read. AnsweredButLast plant read (entries_so_far past) past.sent in
      let AnsweredOf : List PlantEntry → Type 0 = λ entries. AnsweredButLast plant (all_read reads) entries past.sent in
      let AnsweredIn : List ℕ → Type 0 = λ bytes. AnsweredButLast plant (all_read reads) entries bytes in
      let Taken : Option (List ℕ) → Type 0 = λ left. AreTaken (all_read reads) link.read_half.left left in
      let Cause : Option (List ℕ) → Type 0 = λ left. HasCause end turns plant.server.idle_limit reads left in
      record {
        reads = reads;
        new = new;
        bytes = t.gone.sent;
        lines = lines;
        told = ap (λ (half : ReadHalf). half.reads) half ∙ t.told;
        taken = subst Taken (sym left) t.taken;
        few = few;
        legal = t.gone.sees.legal;
        seen = t.gone.sees.seen;
        own = own_behind plant seat seat_then new t.gone.sees;
        full = t.gone.full ∙ sym (is.mark new seat.ticket_full);
        seat_same = t.gone.sees.same;
        fits = (λ _. fit, ([], subst FitEntries (sym (append-nil entries)) fit));
        written = ap (λ (link : LinkEnd). link.written) ended ∙ t.gone.written;
        says = (t.gone.sent, text, front_self t.gone.sent, λ _. refl);
        answered = subst AnsweredIn t.gone.sent_is (subst AnsweredOf t.gone.entries (subst AnsweredTo (turned_read t) t.answered));
        traced = t.gone.traced;
        traces = (front_self lines, λ _. refl);
        cause = subst Cause (sym left) cause;
        idles = idles;
        read_count = ap (λ (half : ReadHalf). half.faults) half ∙ ap (count_after (read_failed_at end)) t.read_count;
        write_count = ap (λ (link : LinkEnd). link.write_faults) ended ∙ t.write_count ∙ ap (λ (failed : Bool). count_after failed link.write_faults) (sym is.written);
        trace_count = t.trace_count ∙ ap (λ (failed : Bool). count_after failed trace.faults) (sym is.traced);
        idle_count = ap (λ (half : ReadHalf). half.idles) half ∙ t.idle_count;
        left = (λ _. record { past = past; stands = t.stands; begins = t.begins; pieces = t.pieces }, (past, inl t.stands));
      }

  -- It was cut short in the turn of one read more.
  pub served_cut : {reads : List (List ℕ)} {session session_then : Session} {seat seat_now seat_then : PlantSeat} {link link_now link_read link_then : LinkEnd} {trace trace_now trace_then : TraceData} {piece : List ℕ} (turns : ℕ) (end : SessionEnd)
      (t : HasTurned plant panel reads session seat seat_now link link_now trace trace_now) → was_cut end ≡ true → GavePiece piece link_now link_read
      → WasStopped plant panel end t.past piece session_then (outside seat_now link_read.written trace_now.written) (outside seat_then link_then.written trace_then.written)
      → link_then.read_half ≡ link_read.read_half → link_then.write_faults ≡ count_after (write_failed_at end) link_read.write_faults → trace_then.faults ≡ count_after (trace_failed_at end) trace_now.faults
      → length reads < turns → {count : ℕ} → StaysBelow plant.server.idle_limit count reads
      → Served plant panel turns end session_then seat seat_then link link_then trace trace_then
  served_cut {reads = reads} {session_then = session_then} {seat = seat} {seat_now = seat_now} {seat_then = seat_then} {link = link} {link_now = link_now} {link_read = link_read} {link_then = link_then} {trace = trace} {trace_now = trace_now} {trace_then = trace_then} {piece = piece} turns end t short r s half writes traces few {count = count} below =
      let past = t.past in
      let now = s.now in
      let all = reads ++ piece ∷ [] in
      let From : Option (List ℕ) → Type 0 = λ written. HasBrokenOff plant end (outside seat_now written trace_now.written) (outside seat_then link_then.written trace_then.written) past now in
      let b = broken_both plant end (outside seat link.written trace.written) (outside seat_now link_now.written trace_now.written) (outside seat_then link_then.written trace_then.written) nothing_yet past now t.gone (subst From r.written s.broken) in
      let entries = entries_of seat.number b.new in
      let is = cut end short in
      let some : all ≢ [] = λ none. absurd (omega (arith, ap (length {A = List ℕ}) none, length-append reads (piece ∷ []))) in
      let not_whole : was_cut end ≡ false → ⊥ = λ whole. false≢true (sym whole ∙ short) in
      let on = left_fits plant panel session_then now s.rest s.left s.idle in
      let pieces : map (λ (turn : Turn). turn.piece) now.turns ++ (now.now.piece ++ s.rest) ∷ [] ≡ all =
      ap (λ (turns : List Turn). map (λ (turn : Turn). turn.piece) turns ++ (now.now.piece ++ s.rest) ∷ []) s.turns
      ∙ ap (λ (pieces : List (List ℕ)). pieces ++ (now.now.piece ++ s.rest) ∷ []) t.pieces
      ∙ ap (λ (piece : List ℕ). reads ++ piece ∷ []) s.piece_is in
      let FitReads : List (List ℕ) → Type 0 = λ reads. FitsReads panel reads on.entries in
      let FitEntries : List PlantEntry → Type 0 = λ entries. FitsReads panel all entries in
      let behind : on.entries ≡ entries ++ on.front.0 = sym on.front.1 ∙ ap (λ (entries : List PlantEntry). entries ++ on.front.0) b.entries in
      let so_far = left_so_far plant panel session_then now s.left in
      let whole = text_front plant (read_so_far now) s.rest (entries_so_far now) so_far.text so_far.is_text in
      let read : read_so_far now ++ s.rest ≡ all_read all =
      append_assoc (bytes_read now.turns) now.now.piece s.rest
      ∙ ap (λ (turns : List Turn). bytes_read turns ++ (now.now.piece ++ s.rest)) s.turns
      ∙ ap (λ (piece : List ℕ). bytes_read past.turns ++ piece) s.piece_is
      ∙ ap (λ (bytes : List ℕ). bytes ++ piece) (read-pieces past.turns ∙ ap all_read t.pieces)
      ∙ sym (read-more reads piece) in
      let TextOf : List ℕ → Type 0 = λ read. IsText plant (items read) (entries_so_far now) whole.0 in
      let TextIn : List PlantEntry → Type 0 = λ entries. IsText plant (items (all_read all)) entries whole.0 in
      let AnsweredTo : List ℕ → Type 0 = λ read. AnsweredButLast plant read (entries_so_far now) b.bytes in
      let AnsweredOf : List PlantEntry → Type 0 = λ entries. AnsweredButLast plant (all_read all) entries b.bytes in
      let Taken : List ℕ → Type 0 = λ bytes. AreTaken bytes link.read_half.left link_read.read_half.left in
      let TakenOf : ReadHalf → Type 0 = λ half. AreTaken (all_read all) link.read_half.left half.left in
      record {
        reads = all;
        new = b.new;
        bytes = b.bytes;
        lines = b.lines;
        told = ap (λ (half : ReadHalf). half.reads) half ∙ told_both reads piece link.read_half.reads link_now.read_half.reads link_read.read_half.reads t.told r.told;
        taken = subst TakenOf (sym half) (subst Taken (sym (read-more reads piece)) (taken_both (all_read reads) piece link.read_half.left link_now.read_half.left link_read.read_half.left t.taken r.taken));
        few = omega (arith, few, length-append reads (piece ∷ []));
        legal = b.sees.legal;
        seen = b.sees.seen;
        own = own_behind plant seat seat_then b.new b.sees;
        full = b.full;
        seat_same = b.sees.same;
        fits = (λ whole. absurd (not_whole whole), (on.front.0, subst FitEntries behind (subst FitReads pieces on.fits)));
        written = b.written;
        says = (
          whole.0,
          subst TextIn b.entries (subst TextOf read whole.1),
          front_trans b.bytes so_far.text whole.0 (front_trans b.bytes now.sent so_far.text b.front so_far.sent) whole.2,
          λ whole. absurd (not_whole whole),
        );
        answered = subst AnsweredOf b.entries (subst AnsweredTo read (answered_more plant (read_so_far now) s.rest (entries_so_far now) b.bytes b.answered));
        traced = b.traced;
        traces = b.traces;
        cause = is.cause turns plant.server.idle_limit all link_then.read_half.left some;
        idles = λ front more at ends. (below_last plant.server.idle_limit count reads piece below front more at ends, is.idle);
        read_count = ap (λ (half : ReadHalf). half.faults) half ∙ r.faults ∙ t.read_count ∙ ap (λ (failed : Bool). count_after failed link.read_half.faults) (sym is.read);
        write_count = writes ∙ ap (count_after (write_failed_at end)) (r.write_faults ∙ t.write_count);
        trace_count = traces ∙ ap (count_after (trace_failed_at end)) t.trace_count;
        idle_count = ap (λ (half : ReadHalf). half.idles) half ∙ r.idles ∙ ap (idles_after (piece ∷ [])) t.idle_count ∙ sym (idles_both reads piece link.read_half.idles);
        left = (λ whole. absurd (not_whole whole), (now, s.left));
      }
