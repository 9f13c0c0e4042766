-- A panel leaves.
use Rattle.std.proofs.Common.{◌≡◌, ℕ, not, Bool, true, false, List, [], ◌∷◌, ◌++◌, length, take, drop, Option, refl, sym, ap, ◌∙◌, subst}
use Rattle.std.specs.List.{flat_map}
use Rattle.std.specs.Bool.{OnFalse, OnTrue}
use Rattle.std.proofs.lemmas.Bool.{false≢true}
use Rattle.std.proofs.lemmas.List.{append_assoc, append-nil, take-append-drop}
use Rattle.ctl_io.specs.Faults.{count_after}
use Rattle.ctl_io.specs.Sink.{appended, AppendsPart}
use Rattle.ctl_net.specs.Net.{AcceptorEnd}
use Rattle.history_lock.specs.Calls.{FoundFull, SeesAnswers, asked_by}
use Rattle.history_lock.specs.History.{entries_of, IsLegal}
use Rattle.plant_config.specs.Plant.{PlantData}
use Rattle.plant_core.specs.State.{start, Fits as Takes}
use Rattle.plant_core.specs.Step.{step}
use Rattle.plant_core.specs.declared.answer.Answer.{Answer}
use Rattle.plant_core.specs.declared.request.Request.TheVariants.{Leave}
use Rattle.panel_session.specs.declared.session.Session.{Session}
use Rattle.panel_session.specs.Entry.{PlantEntry}
use Rattle.panel_session.specs.Served.{PlantSeat, TraceData, own_lines, TracesUnless}
use Rattle.panel_session.specs.Reply.{trace_line}
use Rattle.panel_session.proofs.GoneOnLemmas.{appended-both, appended-none, lines-behind, sees_both}
use Rattle.panel_server.specs.declared.panel.PanelDone.{PanelDone}
use Rattle.panel_server.specs.DrivenInside.{IsGiven}
use Rattle.panel_server.specs.PanelServed.{PanelServed, leave_of, own_of}
use Rattle.panel_server.specs.PanelServedInside.{HasLeft, MayBegin, ServedAll}
use Rattle.panel_server.proofs.AnswerLemmas.{legal_behind}
use Rattle.panel_server.proofs.SeatLemmas.{own-behind, own-seen, sees_own}

-- A leave has no answers.
pub leave_silent : (plant : PlantData) (panel : ℕ) (seat seat_then : PlantSeat) (answers : List Answer) → IsLegal step Takes (start plant) seat_then.seen → SeesAnswers seat (Leave panel) answers seat_then → answers ≡ []
leave_silent plant panel seat seat_then answers legal sees =
    let Legal : List PlantEntry → Type 0 = λ history. IsLegal step Takes (start plant) history in
    (legal_behind (start plant) (seat.seen ++ sees.0) (asked_by seat (Leave panel) answers ∷ []) (subst Legal sees.1 legal)).1

module _ {plant : PlantData} {panel : ℕ} {b c : PlantSeat} {t : TraceData} where
  -- The history has no place for it,
  pub left_full : (failed : Bool) → FoundFull b c → HasLeft plant panel failed failed b c t t
  left_full failed found =
      let mark : c.ticket_full ≡ true = ap (λ (seat : PlantSeat). seat.ticket_full) found in
      let seen : c.seen ≡ b.seen = ap (λ (seat : PlantSeat). seat.seen) found in
      record {
        new = [];
        lines = [];
        sees = record {
          seen = seen ∙ sym (append-nil b.seen);
          same = found
              ∙ ap (λ (full : Bool). record b { ticket_full = full }) (sym mark)
              ∙ ap (λ (seen : List PlantEntry). record b { seen = seen; ticket_full = c.ticket_full }) (sym seen);
          legal = λ some. absurd (some refl);
        };
        own = ap (λ (full : Bool). leave_of full b.number panel) (sym mark);
        traced = sym (appended-none t.written);
        traces = λ good. (([], refl), λ _. refl);
        count = λ good. ap (λ (failed : Bool). count_after failed t.faults) (sym good);
        none = λ bad. (refl, bad, refl);
      }

  -- or it was made, and its line traced as a whole or in part, or not at all.
  left_made : (position : ℕ) (failed failed_then : Bool) (u : TraceData) (lines : List ℕ) → IsGiven plant (Leave panel) [] position b c → u.written ≡ appended t.written lines
      → (failed ≡ false → TracesUnless failed_then (trace_line plant position (Leave panel) []) lines)
      → (failed ≡ false → u.faults ≡ count_after failed_then t.faults)
      → (failed ≡ true → (u ≡ t) × (failed_then ≡ true) × (lines ≡ []))
      → HasLeft plant panel failed failed_then b c t u
  left_made position failed failed_then u lines given traced traces count none =
      let one = sees_own plant (Leave panel) [] position b c given in
      let mark : c.ticket_full ≡ false = ap (λ (seat : PlantSeat). seat.ticket_full) given.rest in
      let Traces : List ℕ → Type 0 = λ all. TracesUnless failed_then all lines in
      record {
        new = one.new;
        lines = lines;
        sees = one.sees;
        own = one.own ∙ ap (λ (full : Bool). leave_of full b.number panel) (sym mark);
        traced = traced;
        traces = λ good. subst Traces (sym one.lines) (traces good);
        count = count;
        none = none;
      }

  pub left_silent : (position : ℕ) (failed : Bool) → failed ≡ true → IsGiven plant (Leave panel) [] position b c → HasLeft plant panel failed failed b c t t
  left_silent position failed bad given = left_made position failed failed t [] given (sym (appended-none t.written)) (λ good. absurd (false≢true (sym good ∙ bad))) (λ good. absurd (false≢true (sym good ∙ bad))) (λ _. (refl, bad, refl))

  left_traced : (position : ℕ) (failed : Bool) (u : TraceData) → failed ≡ false → IsGiven plant (Leave panel) [] position b c → u.written ≡ appended t.written (trace_line plant position (Leave panel) []) → u.faults ≡ t.faults
      → HasLeft plant panel failed false b c t u
  left_traced position failed u good given traced count =
      let line : List ℕ = trace_line plant position (Leave panel) [] in
      left_made position failed false u line given traced (λ _. (([], append-nil line), λ _. refl)) (λ _. count) (λ bad. absurd (false≢true (sym good ∙ bad)))

  left_torn : (position : ℕ) (failed : Bool) (u : TraceData) → failed ≡ false → IsGiven plant (Leave panel) [] position b c → AppendsPart (trace_line plant position (Leave panel) []) t.written u.written → u.faults ≡ count_after true t.faults
      → HasLeft plant panel failed true b c t u
  left_torn position failed u good given part count =
      let line : List ℕ = trace_line plant position (Leave panel) [] in
      left_made position failed true u (take part.count line) given part.appends (λ _. ((drop part.count line, take-append-drop part.count line), λ sound. absurd (false≢true (sym sound)))) (λ _. count) (λ bad. absurd (false≢true (sym good ∙ bad)))

  pub left_line : (position : ℕ) (failed written : Bool) (u : TraceData) → failed ≡ false → IsGiven plant (Leave panel) [] position b c → OnTrue written (u.written ≡ appended t.written (trace_line plant position (Leave panel) []))
      → OnFalse written (AppendsPart (trace_line plant position (Leave panel) []) t.written u.written) → u.faults ≡ count_after (not written) t.faults → HasLeft plant panel failed (not written) b c t u
  left_line position failed true u good given all part count = left_traced position failed u good given all count
  left_line position failed false u good given all part count = left_torn position failed u good given part count

module _ {plant : PlantData} {panel turns : ℕ} {done : PanelDone} {a b : PlantSeat} {p q : AcceptorEnd} {s t : TraceData} where
  -- the lines of both
  lines_both : {full failed : Bool} {c : PlantSeat} {u : TraceData} (d : ServedAll plant panel turns done full a b p q s t) (l : HasLeft plant panel done.trace_failed failed b c t u) (was : Bool) → was ≡ done.trace_failed
      → TracesUnless failed (own_lines plant a.number (length a.seen) (d.served.new ++ l.new)) (d.served.lines ++ l.lines)
  lines_both {failed = failed} d l true was =
      let none = l.none (sym was) in
      let before : List ℕ = own_lines plant a.number (length a.seen) d.served.new in
      let behind : List ℕ = own_lines plant b.number (length b.seen) l.new in
      let split = lines-behind plant a b d.served.new l.new d.served.sees in
      let front = d.served.traces.0 in (
        (
          front.0 ++ behind,
          ap (λ (lines : List ℕ). (d.served.lines ++ lines) ++ (front.0 ++ behind)) none.2
              ∙ ap (λ (lines : List ℕ). lines ++ (front.0 ++ behind)) (append-nil d.served.lines)
              ∙ sym (append_assoc d.served.lines front.0 behind)
              ∙ ap (λ (lines : List ℕ). lines ++ behind) front.1
              ∙ sym split,
        ),
        λ sound. absurd (false≢true (sym sound ∙ none.1)),
      )
  lines_both {failed = failed} d l false was =
      let before : List ℕ = own_lines plant a.number (length a.seen) d.served.new in
      let behind : List ℕ = own_lines plant b.number (length b.seen) l.new in
      let split = lines-behind plant a b d.served.new l.new d.served.sees in
      let whole : d.served.lines ≡ before = d.served.traces.1 (sym was) in
      let traces = l.traces (sym was) in
      let rest = traces.0 in (
        (
          rest.0,
          append_assoc d.served.lines l.lines rest.0
              ∙ ap (λ (lines : List ℕ). d.served.lines ++ lines) rest.1
              ∙ ap (λ (lines : List ℕ). lines ++ behind) whole
              ∙ sym split,
        ),
        λ sound. ap (λ (lines : List ℕ). d.served.lines ++ lines) (traces.1 sound) ∙ ap (λ (lines : List ℕ). lines ++ behind) whole ∙ sym split,
      )

  count_both : {full failed : Bool} {c : PlantSeat} {u : TraceData} (d : ServedAll plant panel turns done full a b p q s t) (l : HasLeft plant panel done.trace_failed failed b c t u) (was : Bool) → was ≡ done.trace_failed → u.faults ≡ count_after failed s.faults
  count_both {failed = failed} d l true was =
      let none = l.none (sym was) in
      ap (λ (trace : TraceData). trace.faults) none.0 ∙ d.served.trace_count ∙ ap (λ (failed : Bool). count_after failed s.faults) (sym was ∙ sym none.1)
  count_both {failed = failed} d l false was =
      l.count (sym was) ∙ ap (count_after failed) (d.served.trace_count ∙ ap (λ (failed : Bool). count_after failed s.faults) (sym was))

  -- The panel left behind its links.
  pub served_left : {full failed : Bool} {c : PlantSeat} {u : TraceData} {session : Session} → ServedAll plant panel turns done full a b p q s t → full ≡ false → HasLeft plant panel done.trace_failed failed b c t u → MayBegin plant panel session
      → PanelServed plant panel turns (record done { trace_failed = failed }) session a c p q s u
  served_left {full} {failed} {c} {u} {session} d asked l begins =
      let sees = sees_both plant a b c d.served.new l.new d.served.sees l.sees in
      let number : b.number ≡ a.number = ap (λ (seat : PlantSeat). seat.number) d.served.sees.same in
      record {
        links = d.served.links;
        new = d.served.new ++ l.new;
        lines = d.served.lines ++ l.lines;
        used = d.served.used;
        back = d.served.back;
        seat_last = b;
        trace_last = t;
        in_turn = d.served.in_turn;
        legal = sees.legal;
        seen = sees.seen;
        own = own-seen plant a c (d.served.new ++ l.new) sees;
        entries = own-behind plant a b d.served.new l.new d.served.sees
            ∙ ap (λ (entries : List PlantEntry). entries ++ entries_of b.number l.new) d.served.own
            ∙ ap (λ (entries : List PlantEntry). flat_map own_of d.served.links ++ entries) l.own
            ∙ ap (λ (number : ℕ). flat_map own_of d.served.links ++ leave_of c.ticket_full number panel) number;
        full = λ some. absurd (some (d.over.full_not asked));
        seat_same = sees.same;
        traced = l.traced ∙ ap (λ (written : Option (List ℕ)). appended written l.lines) d.served.traced ∙ appended-both s.written d.served.lines l.lines;
        traces = lines_both d l done.trace_failed refl;
        trace_count = count_both d l done.trace_failed refl;
        torn = λ some. let none = l.none (d.served.torn some) in (none.1, none.0);
        sessions = d.served.sessions;
        link_faults = d.served.link_faults;
        limits = d.served.limits;
        done_count = d.served.done_count;
        next_count = d.served.next_count;
        refused = d.over.refused;
        sessions_left = d.over.left;
        left = begins;
      }

  -- The history was full, and so there is no leave.
  pub served_full : {full : Bool} {session : Session} → ServedAll plant panel turns done full a b p q s t → full ≡ true → MayBegin plant panel session → PanelServed plant panel turns done session a b p q s t
  served_full {full} {session} d is begins =
      let mark : b.ticket_full ≡ true = d.served.full (d.over.full_is is) in
      record {
        links = d.served.links;
        new = d.served.new;
        lines = d.served.lines;
        used = d.served.used;
        back = d.served.back;
        seat_last = b;
        trace_last = t;
        in_turn = d.served.in_turn;
        legal = d.served.sees.legal;
        seen = d.served.sees.seen;
        own = own-seen plant a b d.served.new d.served.sees;
        entries = d.served.own
            ∙ sym (append-nil (flat_map own_of d.served.links))
            ∙ ap (λ (full : Bool). flat_map own_of d.served.links ++ leave_of full a.number panel) (sym mark);
        full = λ _. mark;
        seat_same = d.served.sees.same;
        traced = d.served.traced;
        traces = d.served.traces;
        trace_count = d.served.trace_count;
        torn = λ some. (d.served.torn some, refl);
        sessions = d.served.sessions;
        link_faults = d.served.link_faults;
        limits = d.served.limits;
        done_count = d.served.done_count;
        next_count = d.served.next_count;
        refused = d.over.refused;
        sessions_left = d.over.left;
        left = begins;
      }
