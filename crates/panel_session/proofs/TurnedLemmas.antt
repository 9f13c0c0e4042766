-- Reads that were worked, each as a turn.
use Rattle.std.proofs.Common.{◌≡◌, ℕ, ◌^◌, ◌<◌, ◌≤◌, List, [], ◌∷◌, ◌++◌, length, Option, refl, sym, ap, ◌∙◌, subst, arith}
use Rattle.std.proofs.lemmas.List.{append-nil, length-append, length-map, map-append}
use Rattle.std.proofs.lemmas.List.Elements.{All-nil, All-push}
use Rattle.ctl_io.specs.ReadHalf.{ReadHalf}
use Rattle.ctl_net.specs.Acceptor.{LinkEnd}
use Rattle.dle_framing.specs.Items.{items}
use Rattle.plant_config.specs.Plant.{PlantData}
use Rattle.panel_session.specs.declared.session.Session.{Session}
use Rattle.panel_session.specs.Acting.{MayGoOn}
use Rattle.panel_session.specs.Entry.{PlantEntry}
use Rattle.panel_session.specs.Run.{turned}
use Rattle.panel_session.specs.Served.{PlantSeat, TraceData, AreTaken, all_read, idles_after, read_room}
use Rattle.panel_session.specs.ServedInside.{HasGoneOn, GavePiece, HasServed, HasTurned, outside}
use Rattle.panel_session.specs.Session.{StandsFor}
use Rattle.panel_session.specs.SoFar.{entries_so_far, nothing_yet, read_so_far}
use Rattle.panel_session.specs.Text.{IsText, nothing_sent}
use Rattle.panel_session.specs.Turns.{Turn, bytes_read, entries_in, entries_of_turns}
use Rattle.panel_session.proofs.AnsweredLemmas.{answered_begins}
use Rattle.panel_session.proofs.GoneOnLemmas.{appended-none, gone_both, sees_none}
use Rattle.panel_session.proofs.KeptItemLemmas.{reading}
use Rattle.panel_session.proofs.KeptTurnLemmas.{bytes_of-append, entries_of-append, keeps_nothing, keeps_text}
use Rattle.panel_session.proofs.ReadsLemmas.{few_items, idles_both, read-more, read-pieces, short_all, taken_both, taken_none, told_both, told_none}

module _ {plant : PlantData} {panel : ℕ} where
  -- Nothing was read yet.
  pub turned_begins : (session : Session) (seat : PlantSeat) (link : LinkEnd) (trace : TraceData) → StandsFor plant panel session nothing_yet → HasTurned plant panel [] session seat seat link link trace trace
  turned_begins session seat link trace stands = record {
    past = nothing_yet;
    stands = stands;
    begins = refl;
    pieces = refl;
    gone = record {
      new = [];
      sees = sees_none plant seat;
      full = refl;
      entries = refl;
      sent = [];
      sent_is = refl;
      written = sym (appended-none link.written);
      traced = sym (appended-none trace.written);
    };
    text = keeps_text plant (reading panel 0 0 0 nothing_sent) nothing_yet (keeps_nothing plant panel);
    answered = answered_begins plant;
    short = All-nil _;
    told = told_none link.read_half.reads;
    taken = taken_none link.read_half.left;
    read_count = refl;
    idle_count = refl;
    write_count = refl;
    trace_count = refl;
  }

  -- what was read in a past of these reads
  pub turned_read : {reads : List (List ℕ)} {session : Session} {seat seat_now : PlantSeat} {link link_now : LinkEnd} {trace trace_now : TraceData} (t : HasTurned plant panel reads session seat seat_now link link_now trace trace_now)
      → read_so_far t.past ≡ all_read reads
  turned_read t =
      ap (λ (now : Turn). bytes_read t.past.turns ++ now.piece) t.begins
      ∙ append-nil (bytes_read t.past.turns)
      ∙ read-pieces t.past.turns
      ∙ ap all_read t.pieces

  pub turned_entries : {reads : List (List ℕ)} {session : Session} {seat seat_now : PlantSeat} {link link_now : LinkEnd} {trace trace_now : TraceData} (t : HasTurned plant panel reads session seat seat_now link link_now trace trace_now)
      → entries_of_turns t.past.turns ≡ entries_so_far t.past
  turned_entries t = sym (ap (λ (now : Turn). entries_of_turns t.past.turns ++ entries_in now) t.begins ∙ append-nil (entries_of_turns t.past.turns))

  -- One piece more may be a turn.
  pub turned_may : {reads : List (List ℕ)} {session : Session} {seat seat_now : PlantSeat} {link link_now : LinkEnd} {trace trace_now : TraceData} (t : HasTurned plant panel reads session seat seat_now link link_now trace trace_now) (piece : List ℕ)
      → length reads < 2 ^ 40 → length piece ≤ read_room → MayGoOn t.past piece
  turned_may {reads = reads} t piece few short =
      let past = t.past in
      record {
        items = omega (
          arith,
          few_items (read_so_far past ++ piece),
          length-append (read_so_far past) piece,
          ap (length {A = ℕ}) (turned_read t),
          short_all reads t.short,
          few,
          short,
        );
        turns = omega (arith, few, ap (length {A = List ℕ}) t.pieces, length-map past.turns (λ (turn : Turn). turn.piece));
        rest = λ some. absurd (some (ap (λ (now : Turn). now.polls) t.begins));
      }

  -- One read more was worked as a turn.
  pub turned_more : {reads : List (List ℕ)} {session session_then : Session} {seat seat_now seat_then : PlantSeat} {link link_now link_read link_then : LinkEnd} {trace trace_now trace_then : TraceData} {piece : List ℕ}
      (t : HasTurned plant panel reads session seat seat_now link link_now trace trace_now) → GavePiece piece link_now link_read
      → HasServed plant panel t.past piece session_then (outside seat_now link_read.written trace_now.written) (outside seat_then link_then.written trace_then.written)
      → link_then.read_half ≡ link_read.read_half → link_then.write_faults ≡ link_read.write_faults → trace_then.faults ≡ trace_now.faults
      → HasTurned plant panel (reads ++ piece ∷ []) session_then seat seat_then link link_then trace trace_then
  turned_more {reads = reads} {seat = seat} {seat_now = seat_now} {seat_then = seat_then} {link = link} {link_now = link_now} {link_read = link_read} {link_then = link_then} {trace = trace} {trace_now = trace_now} {trace_then = trace_then} {piece = piece} t r s half writes traces =
      let past = t.past in
      let TextOf : List ℕ → Type 0 = λ read. IsText plant (items read) (entries_of_turns past.turns ++ entries_in s.turn) (past.sent ++ s.sent) in
      let TextIn : List PlantEntry → Type 0 = λ entries. IsText plant (items (bytes_read (past.turns ++ s.turn ∷ []))) entries (past.sent ++ s.sent) in
      let From : Option (List ℕ) → Type 0 = λ written. HasGoneOn plant (outside seat_now written trace_now.written) (outside seat_then link_then.written trace_then.written) past (turned s.turn s.sent past) in
      let Taken : List ℕ → Type 0 = λ bytes. AreTaken bytes link.read_half.left link_read.read_half.left in
      let TakenOf : ReadHalf → Type 0 = λ half. AreTaken (all_read (reads ++ piece ∷ [])) link.read_half.left half.left in
      record {
        past = turned s.turn s.sent past;
        stands = s.stands;
        begins = refl;
        pieces = map-append (λ (turn : Turn). turn.piece) past.turns (s.turn ∷ [])
            ∙ ap (λ (pieces : List (List ℕ)). pieces ++ s.turn.piece ∷ []) t.pieces
            ∙ ap (λ (piece : List ℕ). reads ++ piece ∷ []) s.piece_is;
        gone = gone_both plant (outside seat link.written trace.written) (outside seat_now link_now.written trace_now.written) (outside seat_then link_then.written trace_then.written) nothing_yet past (turned s.turn s.sent past)
            t.gone (subst From r.written s.gone);
        text = subst TextIn (sym (entries_of-append past.turns s.turn)) (subst TextOf (sym (bytes_of-append past.turns s.turn)) s.text);
        answered = s.answered;
        short = All-push (λ (read : List ℕ). length read ≤ read_room) reads piece t.short r.short;
        told = ap (λ (half : ReadHalf). half.reads) half ∙ told_both reads piece link.read_half.reads link_now.read_half.reads link_read.read_half.reads t.told r.told;
        taken = subst TakenOf (sym half) (subst Taken (sym (read-more reads piece)) (taken_both (all_read reads) piece link.read_half.left link_now.read_half.left link_read.read_half.left t.taken r.taken));
        read_count = ap (λ (half : ReadHalf). half.faults) half ∙ r.faults ∙ t.read_count;
        idle_count = ap (λ (half : ReadHalf). half.idles) half ∙ r.idles ∙ ap (idles_after (piece ∷ [])) t.idle_count ∙ sym (idles_both reads piece link.read_half.idles);
        write_count = writes ∙ r.write_faults ∙ t.write_count;
        trace_count = traces ∙ t.trace_count;
      }
