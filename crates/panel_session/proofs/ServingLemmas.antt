-- A turn of a session that is served: what the engine says of a lock's seat, its trace and a link.
use Rattle.std.proofs.Common.{◌≡◌, ℕ, true, List, [], ◌∷◌, ◌++◌, length, take, drop, Option, inl, inr, refl, sym, ap, ◌∙◌, subst}
use Rattle.std.proofs.lemmas.Bool.{false≢true}
use Rattle.std.proofs.lemmas.List.{append_assoc, append-nil, take-append-drop}
use Rattle.ctl_io.specs.Faults.{count_after, one_more}
use Rattle.ctl_io.specs.ReadHalf.{ReadHalf}
use Rattle.ctl_io.specs.Sink.{appended}
use Rattle.history_lock.specs.History.{entries_of}
use Rattle.history_lock.specs.Locks.{LockData}
use Rattle.plant_config.specs.IsPlant.{IsPlant}
use Rattle.plant_config.specs.Plant.{PlantData}
use Rattle.plant_core.specs.State.{State, start}
use Rattle.panel_session.specs.declared.engine.at_lock.AtLock.{AtLock}
use Rattle.panel_session.specs.declared.engine.outlet.WriteHalf.{WriteHalf}
use Rattle.panel_session.specs.declared.serve.SessionEnd.TheVariants.{WriteFault, TraceFault, Full}
use Rattle.panel_session.specs.declared.session.cut.Cut.{Cut}
use Rattle.panel_session.specs.declared.session.cut.Cut.TheVariants.{Refused, Untraced, Unsent}
use Rattle.panel_session.specs.declared.session.Session.{Session}
use Rattle.panel_session.specs.Acting.{MayGoOn}
use Rattle.panel_session.specs.Answering.{AnswersAt, FailedOver, GivenOver, RefusesAt, ServesAt, TracesPartAt}
use Rattle.panel_session.specs.AnsweringLaws.{appended-both, lines-behind, mark-both, sees_both}
use Rattle.panel_session.specs.Engine.{HasRun, IsRefused, IsUnsent, IsUntraced, MayTurn, WasCut}
use Rattle.panel_session.specs.Entry.{PlantEntry}
use Rattle.panel_session.specs.Served.{AnsweredButLast, PlantSeat, mark_after, own_lines, trace_failed_at, write_failed_at}
use Rattle.panel_session.specs.ServedInside.{HasBrokenOff, HasGoneOn, HasServed, KeepsAnswered, MayServeTurn, SeesMore, WasStopped, ended_by, outside}
use Rattle.panel_session.specs.Session.{StandsFor, plant_of}
use Rattle.panel_session.specs.SoFar.{Progress, entries_so_far, read_so_far, unstarted}
use Rattle.panel_session.specs.Reply.{trace_line}
use Rattle.panel_session.specs.Turns.{Turn, entries_in, entries_of_turns}
use Rattle.panel_session.proofs.AnsweredLemmas.{answered_front}
use Rattle.panel_session.proofs.AnsweringLemmas.{entered}
use Rattle.panel_session.proofs.BrokenOffLemmas.{broken_both, broken_full}
use Rattle.panel_session.proofs.GoneOnLemmas.{own-behind}
use Rattle.panel_session.proofs.KeptTurnLemmas.{entries_of-append}

-- A session stands for pasts of one plant.
plant_is : (plant : PlantData) (panel : ℕ) (session : Session) (past : Progress) → StandsFor plant panel session past → plant_of session ≡ plant
unfolding StandsFor
plant_is plant panel session past stands = stands.0.plant_is

-- A session that is served may have a turn behind each past that it stands for.
pub may_turn : {W K : Type 0} {lock : LockData State} {seat : PlantSeat} (plant : PlantData) (panel : ℕ) (session : Session) (past : Progress) (piece : List ℕ) (at : AtLock W K) → MayServeTurn session lock seat piece
    → at.lock.now ≡ lock → at.seat.now ≡ seat → StandsFor plant panel session past → past.now ≡ unstarted → MayGoOn past piece
    → MayTurn (λ (at : AtLock W K) (seat : ℕ). at.seat.now.number ≡ seat) (λ (plant : PlantData) (at : AtLock W K). ServesAt plant at.lock.now at.seat.now) plant panel at.seat.now.number session past at piece
may_turn plant panel session past piece at may lock seat stands begins goes_on =
    let same : may.plant ≡ plant = sym (plant_is may.plant may.panel session may.past may.stands) ∙ plant_is plant panel session past stands in
    record {
      stands = stands;
      begins = begins;
      may = goes_on;
      seated = refl;
      serves = record {
        is_plant = subst IsPlant same may.is_plant;
        seat_of = ap (λ (seat : PlantSeat). seat.lock) seat ∙ may.seat_of ∙ ap (λ (lock : LockData State). lock.id) (sym lock);
        first_is = ap (λ (seat : PlantSeat). seat.first) seat ∙ may.first ∙ ap start same;
      };
    }

-- What is outside of a session is the same.
pub same_outside : {seat seat_then : PlantSeat} {written written_then traced traced_then : Option (List ℕ)} → seat ≡ seat_then → written ≡ written_then → traced ≡ traced_then → outside seat written traced ≡ outside seat_then written_then traced_then
same_outside {seat_then = seat_then} {written = written} {written_then = written_then} {traced = traced} seats writes traces =
    ap (λ (seat : PlantSeat). outside seat written traced) seats
    ∙ ap (λ (written : Option (List ℕ)). outside seat_then written traced) writes
    ∙ ap (λ (traced : Option (List ℕ)). outside seat_then written_then traced) traces

-- Its seat began with the start of the plant.
pub begun_at : {lock : LockData State} {seat : PlantSeat} (plant : PlantData) (panel : ℕ) (session : Session) (past : Progress) (piece : List ℕ) → MayServeTurn session lock seat piece → StandsFor plant panel session past → seat.first ≡ start plant
begun_at plant panel session past piece may stands =
    may.first ∙ ap start (sym (plant_is may.plant may.panel session may.past may.stands) ∙ plant_is plant panel session past stands)

-- the entries of a past whose present turn wasn't begun
entries_before : (past : Progress) → past.now ≡ unstarted → entries_so_far past ≡ entries_of_turns past.turns
entries_before past begins = ap (λ (now : Turn). entries_of_turns past.turns ++ entries_in now) begins ∙ append-nil (entries_of_turns past.turns)

-- With the present turn they have its entries more.
entries_now : (past now : Progress) → past.now ≡ unstarted → now.turns ≡ past.turns → entries_so_far now ≡ entries_so_far past ++ entries_in now.now
entries_now past now begins turns =
    ap (λ (turns : List Turn). entries_of_turns turns ++ entries_in now.now) turns
    ∙ ap (λ (entries : List PlantEntry). entries ++ entries_in now.now) (sym (entries_before past begins))

-- What became of a link and a trace in a turn that was cut short.
pub record KeepsCounts {W K L : Type 0} (kf : K → ℕ) (kn : K → Option (List ℕ)) (lf : L → ℕ) (ln : L → Option (List ℕ)) (lh : L → ReadHalf) (cut : Cut) (first last : AtLock W K) (out out_then : WriteHalf L) : Type 0 where
  pub link_count : lf out_then.link.now ≡ count_after (write_failed_at (ended_by cut)) (lf out.link.now)
  pub trace_count : kf last.trace.now ≡ count_after (trace_failed_at (ended_by cut)) (kf first.trace.now)
  pub read_half : lh out_then.link.now ≡ lh out.link.now
  pub link_name : ln out_then.link.now ≡ ln out.link.now
  pub trace_name : kn last.trace.now ≡ kn first.trace.now

module _ {W K L : Type 0} {kw : K → Option (List ℕ)} {kf : K → ℕ} {kn : K → Option (List ℕ)} {lw : L → Option (List ℕ)} {lf : L → ℕ} {ln : L → Option (List ℕ)} {lh : L → ReadHalf}
    {plant : PlantData} {panel : ℕ} {past : Progress} {first : AtLock W K} where
  -- A request was refused.
  refused_of : {now : Progress} {given : List ℕ} {last : AtLock W K} {session : Session} {out out_then : WriteHalf L}
      → first.seat.now.first ≡ start plant → past.now ≡ unstarted → now.turns ≡ past.turns
      → AnsweredButLast plant (read_so_far now) (entries_so_far now) (past.sent ++ given)
      → IsRefused (AnswersAt kw kf kn) (RefusesAt kf kn) (GivenOver lw lf ln lh) plant panel past now [] given session first last out out_then
      → HasBrokenOff plant Full (outside first.seat.now (lw out.link.now) (kw first.trace.now)) (outside last.seat.now (lw out_then.link.now) (kw last.trace.now)) past now
  refused_of {now = now} {given = given} {last = last} {out = out} {out_then = out_then} begun begins turns answered ends =
      let has = ends.answers.has plant begun in
      let there = outside ends.between.seat.now (lw out_then.link.now) (kw ends.between.trace.now) in
      let Sent : List ℕ → Type 0 = λ sent. AnsweredButLast plant (read_so_far now) (entries_so_far now) sent in
      let gone : HasGoneOn plant (outside first.seat.now (lw out.link.now) (kw first.trace.now)) there past now = record {
        new = has.new;
        sees = has.sees;
        full = has.full;
        entries = entries_now past now begins turns ∙ ap (λ (entries : List PlantEntry). entries_so_far past ++ entries) (sym has.own);
        sent = given;
        sent_is = ends.sent;
        written = ends.gave.writes;
        traced = has.traces;
      } in
      broken_both plant Full (outside first.seat.now (lw out.link.now) (kw first.trace.now)) there (outside last.seat.now (lw out_then.link.now) (kw last.trace.now)) past now now gone
      (broken_full plant now ends.between.seat.now last.seat.now (lw out_then.link.now) (kw ends.between.trace.now) (kw last.trace.now) ends.refuses.full (ap kw ends.refuses.trace_is) (subst Sent (sym ends.sent) answered))

  -- A line wasn't traced.
  untraced_of : {now : Progress} {given : List ℕ} {last : AtLock W K} {session : Session} {out out_then : WriteHalf L}
      → first.seat.now.first ≡ start plant → past.now ≡ unstarted → now.turns ≡ past.turns
      → AnsweredButLast plant (read_so_far now) (entries_so_far now) (past.sent ++ given)
      → IsUntraced (AnswersAt kw kf kn) (TracesPartAt kw kf kn) (GivenOver lw lf ln lh) plant panel past now [] given session first last out out_then
      → HasBrokenOff plant TraceFault (outside first.seat.now (lw out.link.now) (kw first.trace.now)) (outside last.seat.now (lw out_then.link.now) (kw last.trace.now)) past now
  untraced_of {now = now} {given = given} {last = last} {out = out} {out_then = out_then} begun begins turns answered ends =
      let has = ends.answers.has plant begun in
      let part = ends.traces in
      let entry = ends.entry in
      let seat = first.seat.now in
      let one = entered plant part.enters (ends.answers.same.first_is ∙ begun) in
      let line = trace_line plant part.position entry.request entry.answers in
      let lines = own_lines plant seat.number (length seat.seen) has.new in
      let cut = part.part plant in
      let front = take cut.count line in
      let behind = lines-behind plant seat ends.between.seat.now has.new one.new has.sees in
      let all : lines ++ line ≡ own_lines plant seat.number (length seat.seen) (has.new ++ one.new) = ap (λ (line : List ℕ). lines ++ line) (sym one.lines) ∙ sym behind in
      record {
        new = has.new ++ one.new;
        sees = sees_both plant seat ends.between.seat.now last.seat.now has.new one.new has.sees (subst (λ (there : PlantSeat). SeesMore plant ends.between.seat.now there one.new) (sym part.seat_is) one.sees);
        full = ap (λ (there : PlantSeat). there.ticket_full) part.seat_is ∙ one.full ∙ ap (mark_after one.new) has.full ∙ sym (mark-both has.new one.new seat.ticket_full);
        entries = own-behind plant seat ends.between.seat.now has.new one.new (entries_so_far past) (entries_so_far past ++ ends.front) (entries_so_far now) has.sees
            (ap (λ (entries : List PlantEntry). entries_so_far past ++ entries) (sym has.own))
            (entries_now past now begins turns
            ∙ ap (λ (entries : List PlantEntry). entries_so_far past ++ entries) (ends.entries_are ∙ ap (λ (entries : List PlantEntry). ends.front ++ entries) (sym one.own))
            ∙ sym (append_assoc (entries_so_far past) ends.front (entries_of ends.between.seat.now.number one.new)));
        bytes = given;
        front = ends.sent;
        answered = answered;
        written = ends.gave.writes;
        lines = lines ++ front;
        traced = cut.appends ∙ ap (λ (traced : Option (List ℕ)). appended traced front) has.traces ∙ appended-both (kw first.trace.now) lines front;
        traces = (
          (drop cut.count line, append_assoc lines front (drop cut.count line) ∙ ap (λ (line : List ℕ). lines ++ line) (take-append-drop cut.count line) ∙ all),
          λ whole. absurd (false≢true (sym whole)),
        );
      }

  -- Bytes weren't sent as a whole.
  unsent_of : {now : Progress} {given : List ℕ} {last : AtLock W K} {session : Session} {out out_then : WriteHalf L}
      → first.seat.now.first ≡ start plant → past.now ≡ unstarted → now.turns ≡ past.turns
      → AnsweredButLast plant (read_so_far now) (entries_so_far now) (past.sent ++ given)
      → IsUnsent (AnswersAt kw kf kn) (GivenOver lw lf ln lh) (FailedOver lw lf ln lh) plant panel past now [] given session first last out out_then
      → HasBrokenOff plant WriteFault (outside first.seat.now (lw out.link.now) (kw first.trace.now)) (outside last.seat.now (lw out_then.link.now) (kw last.trace.now)) past now
  unsent_of {now = now} {given = given} {out = out} begun begins turns answered ends =
      let has = ends.answers.has plant begun in
      let fails = ends.fails in
      let cut = fails.failed.part in
      let front = take cut.count fails.part in
      let later = drop cut.count fails.part ++ fails.later in
      let lines = own_lines plant first.seat.now.number (length first.seat.now.seen) has.new in
      let bytes : (past.sent ++ (given ++ front)) ++ later ≡ past.sent ++ ends.bytes =
      append_assoc past.sent (given ++ front) later
      ∙ ap (λ (bytes : List ℕ). past.sent ++ bytes)
      (append_assoc given front later
      ∙ ap (λ (bytes : List ℕ). given ++ bytes) (sym (append_assoc front (drop cut.count fails.part) fails.later) ∙ ap (λ (bytes : List ℕ). bytes ++ fails.later) (take-append-drop cut.count fails.part))
      ∙ sym fails.bytes_are) in
      record {
        new = has.new;
        sees = has.sees;
        full = has.full;
        entries = entries_now past now begins turns ∙ ap (λ (entries : List PlantEntry). entries_so_far past ++ entries) (sym has.own);
        bytes = given ++ front;
        front = (later, bytes ∙ sym ends.sent);
        answered = answered_front plant (read_so_far now) (entries_so_far now) (past.sent ++ given) (past.sent ++ (given ++ front)) (front, append_assoc past.sent given front) answered;
        written = cut.appends ∙ ap (λ (written : Option (List ℕ)). appended written front) fails.gave.writes ∙ appended-both (lw out.link.now) given front;
        lines = lines;
        traced = has.traces;
        traces = (([], append-nil lines), λ whole. refl);
      }

module _ {W K L : Type 0} {kw : K → Option (List ℕ)} {kf : K → ℕ} {kn : K → Option (List ℕ)} {lw : L → Option (List ℕ)} {lf : L → ℕ} {ln : L → Option (List ℕ)} {lh : L → ReadHalf}
    {plant : PlantData} {panel seat : ℕ} {past : Progress} {piece : List ℕ} {first : AtLock W K} where
  -- A turn was worked.
  pub served_of : {last : AtLock W K} {session : Session} {more : List ℕ} {out out_then : WriteHalf L}
      → first.seat.now.first ≡ start plant → past.now ≡ unstarted → KeepsAnswered plant past → GivenOver lw lf ln lh out more out_then
      → HasRun (AnswersAt kw kf kn) true plant panel seat past piece first last session more
      → HasServed plant panel past piece session (outside first.seat.now (lw out.link.now) (kw first.trace.now)) (outside last.seat.now (lw out_then.link.now) (kw last.trace.now))
  served_of {more = more} begun begins keeps gave ran =
      let has = ran.answers.has plant begun in
      record {
        turn = ran.turn;
        sent = more;
        piece_is = ran.piece_is;
        gone = record {
          new = has.new;
          sees = has.sees;
          full = has.full;
          entries = append-nil (entries_of_turns (past.turns ++ ran.turn ∷ []))
              ∙ entries_of-append past.turns ran.turn
              ∙ ap (λ (entries : List PlantEntry). entries ++ entries_in ran.turn) (sym (entries_before past begins))
              ∙ ap (λ (entries : List PlantEntry). entries_so_far past ++ entries) (sym has.own);
          sent = more;
          sent_is = refl;
          written = gave.writes;
          traced = has.traces;
        };
        stands = ran.stands;
        answered = ran.answered refl keeps;
        text = ran.text;
      }

  -- A turn was cut short.
  pub stopped_of : (cut : Cut) {last : AtLock W K} {session : Session} {out out_then : WriteHalf L}
      → first.seat.now.first ≡ start plant → past.now ≡ unstarted → KeepsAnswered plant past
      → WasCut (AnswersAt kw kf kn) (TracesPartAt kw kf kn) (RefusesAt kf kn) true (GivenOver lw lf ln lh) (FailedOver lw lf ln lh) cut plant panel seat past piece [] first last session out out_then
      → WasStopped plant panel (ended_by cut) past piece session (outside first.seat.now (lw out.link.now) (kw first.trace.now)) (outside last.seat.now (lw out_then.link.now) (kw last.trace.now))
  stopped_of Refused begun begins keeps was = record {
    now = was.now;
    rest = was.rest;
    broken = refused_of begun begins was.come.turns (was.answered refl keeps) was.ends;
    left = inr (was.ends.request, was.ends.awaits);
    turns = was.come.turns;
    piece_is = was.come.piece_is;
    idle = was.come.idle;
  }
  stopped_of Untraced begun begins keeps was = record {
    now = was.now;
    rest = was.rest;
    broken = untraced_of begun begins was.come.turns (was.answered refl keeps) was.ends;
    left = inl was.ends.stands;
    turns = was.come.turns;
    piece_is = was.come.piece_is;
    idle = was.come.idle;
  }
  stopped_of Unsent begun begins keeps was = record {
    now = was.now;
    rest = was.rest;
    broken = unsent_of begun begins was.come.turns (was.answered refl keeps) was.ends;
    left = inl was.ends.stands;
    turns = was.come.turns;
    piece_is = was.come.piece_is;
    idle = was.come.idle;
  }

  pub counts_of : (cut : Cut) {last : AtLock W K} {session : Session} {before : List ℕ} {out out_then : WriteHalf L}
      → WasCut (AnswersAt kw kf kn) (TracesPartAt kw kf kn) (RefusesAt kf kn) true (GivenOver lw lf ln lh) (FailedOver lw lf ln lh) cut plant panel seat past piece before first last session out out_then
      → KeepsCounts kf kn lf ln lh cut first last out out_then
  counts_of Refused was =
      let ends = was.ends in
      record {
        link_count = ends.gave.count;
        trace_count = ends.refuses.same.count ∙ ends.answers.same.count;
        read_half = ends.gave.half_is;
        link_name = ends.gave.name_is;
        trace_name = ends.refuses.same.trace_name ∙ ends.answers.same.trace_name;
      }
  counts_of Untraced was =
      let ends = was.ends in
      record {
        link_count = ends.gave.count;
        trace_count = ends.traces.count ∙ ap one_more ends.answers.same.count;
        read_half = ends.gave.half_is;
        link_name = ends.gave.name_is;
        trace_name = ends.traces.trace_name ∙ ends.answers.same.trace_name;
      }
  counts_of Unsent was =
      let ends = was.ends in
      let fails = ends.fails in
      record {
        link_count = fails.failed.count ∙ ap one_more fails.gave.count;
        trace_count = ends.answers.same.count;
        read_half = fails.failed.half_is ∙ fails.gave.half_is;
        link_name = fails.failed.name_is ∙ fails.gave.name_is;
        trace_name = ends.answers.same.trace_name;
      }
