-- The links of a panel are served, one by one.
use Rattle.std.proofs.Common.{◌≡◌, ◌≢◌, ℕ, ◌+◌, ◌||◌, Bool, true, false, cond, if◌then◌else◌, List, [], ◌∷◌, ◌++◌, length, map, Option, refl, sym, ap, ◌∙◌, subst, arith}
use Rattle.std.specs.List.{flat_map}
use Rattle.std.proofs.lemmas.Bool.{false≢true}
use Rattle.std.proofs.lemmas.List.{append_assoc, append-nil, length-append, map-append}
use Rattle.std.proofs.lemmas.List.Concat.{flat_map-append}
use Rattle.ctl_io.specs.Custody.{Custody, lent, returned}
use Rattle.ctl_io.specs.Faults.{count_after}
use Rattle.ctl_io.specs.Sink.{appended}
use Rattle.ctl_net.specs.Acceptor.{LinkEnd, is_faulty_link}
use Rattle.ctl_net.specs.Net.{AcceptorEnd}
use Rattle.history_lock.specs.History.{entries_of}
use Rattle.plant_config.specs.Plant.{PlantData}
use Rattle.panel_session.specs.declared.serve.SessionEnd.{SessionEnd}
use Rattle.panel_session.specs.declared.serve.SessionEnd.TheVariants.{Ended, ReadFault, WriteFault, TraceFault, IdleOut, Spent, Full}
use Rattle.panel_session.specs.Entry.{PlantEntry}
use Rattle.panel_session.specs.Served.{PlantSeat, TraceData, full_after, own_lines, trace_failed_at, TracesUnless}
use Rattle.panel_session.specs.ServedInside.{SeesMore}
use Rattle.panel_session.proofs.GoneOnLemmas.{appended-both, appended-none, lines-behind, sees_both, sees_none}
use Rattle.panel_server.specs.declared.panel.PanelDone.{PanelDone}
use Rattle.panel_server.specs.PanelServed.{LinkServed, all_returned, is_full, is_last_end, is_limit, is_link_fault, own_of, that_ended}
use Rattle.panel_server.specs.PanelServedInside.{ServedLinks, with_session}
use Rattle.panel_server.proofs.LinkLemmas.{count_more, faults_more, faulty-is, filter_more, in_turn_more, none_full, none_torn, returned_more, returned_none}
use Rattle.panel_server.proofs.SeatLemmas.{own-behind}

-- nothing was served and nothing counted
abbrev pub none_done : PanelDone
none_done = record { sessions = 0; link_faults = 0; limits = 0; refused = false; trace_failed = false }

abbrev served_none : (plant : PlantData) (panel turns : ℕ) (a : PlantSeat) (p : AcceptorEnd) (s : TraceData) → ServedLinks plant panel turns none_done a a p p s s
served_none plant panel turns a p s = record {
  links = [];
  new = [];
  lines = [];
  used = omega arith;
  back = sym (returned_none p.links);
  in_turn = (refl, refl);
  sees = sees_none plant a;
  own = refl;
  full = λ some. absurd (some refl);
  traced = sym (appended-none s.written);
  traces = (([], refl), λ _. refl);
  trace_count = refl;
  torn = λ some. absurd (some refl);
  sessions = refl;
  link_faults = refl;
  limits = refl;
  done_count = refl;
  next_count = refl;
}

-- Some links were served, and behind each of them a further one is taken.
pub record ServesOn (plant : PlantData) (panel turns : ℕ) (done : PanelDone) (a b : PlantSeat) (p q : AcceptorEnd) (s t : TraceData) : Type 0 where
  pub served : ServedLinks plant panel turns done a b p q s t
  pub none_last : that_ended is_last_end served.links ≡ []

pub serves_none : (plant : PlantData) (panel turns : ℕ) (a : PlantSeat) (p : AcceptorEnd) (s : TraceData) → ServesOn plant panel turns none_done a a p p s s
serves_none plant panel turns a p s = record { served = served_none plant panel turns a p s; none_last = refl }

-- what a link's session has seen more
pub sees_one : {plant : PlantData} {panel turns : ℕ} → (one : LinkServed plant panel turns) → SeesMore plant one.seat one.seat_then one.served.new
sees_one one = record { seen = one.served.seen; same = one.served.seat_same; legal = one.served.legal }

-- where it ended by a full history, its seat has that mark
full_end : (end : SessionEnd) (new : List PlantEntry) (before after : Bool) → is_full end ≡ true → after ≡ full_after end new before → after ≡ true
full_end Ended new before after is mark = absurd (false≢true is)
full_end ReadFault new before after is mark = absurd (false≢true is)
full_end WriteFault new before after is mark = absurd (false≢true is)
full_end TraceFault new before after is mark = absurd (false≢true is)
full_end IdleOut new before after is mark = absurd (false≢true is)
full_end Spent new before after is mark = absurd (false≢true is)
full_end Full new before after is mark = mark

-- of links of which none was such, and one more, there is some only if that is such
pub some_is : {X : Type 0} → (b : Bool) (x : X) (xs : List X) → xs ≡ cond b (x ∷ []) [] → xs ≢ [] → b ≡ true
some_is true x xs is some = refl
some_is false x xs is some = absurd (some is)

-- A link was handed out, and given back once it was served.
abbrev pub handed_back : LinkEnd → ℕ → AcceptorEnd → AcceptorEnd → Type 0
handed_back link sessions before after = after ≡ record before {
  sessions = sessions;
  links = returned link (lent before.links);
  done_faults = count_after (is_faulty_link link.write_faults link.read_half) before.done_faults;
}

module _ {plant : PlantData} {panel turns : ℕ} {done : PanelDone} {a b : PlantSeat} {p q : AcceptorEnd} {s t : TraceData} where
  -- The links that were served before, and one more.
  pub record ServedMore (d : ServedLinks plant panel turns done a b p q s t) (one : LinkServed plant panel turns) (r : AcceptorEnd) : Type 0 where
    pub served : ServedLinks plant panel turns (with_session one.end done) a one.seat_then p r s one.trace_then
    pub links_are : served.links ≡ d.links ++ one ∷ []

  -- the lines, where the trace hadn't failed before
  lines_more : (d : ServedLinks plant panel turns done a b p q s t) → done.trace_failed ≡ false → (one : LinkServed plant panel turns) → one.seat ≡ b
      → TracesUnless (done.trace_failed || trace_failed_at one.end) (own_lines plant a.number (length a.seen) (d.new ++ one.served.new)) (d.lines ++ one.served.lines)
  lines_more d good one from =
      let before : List ℕ = own_lines plant a.number (length a.seen) d.new in
      let all : List ℕ = own_lines plant one.seat.number (length one.seat.seen) one.served.new in
      let Behind : PlantSeat → Type 0 = λ seat. own_lines plant a.number (length a.seen) (d.new ++ one.served.new) ≡ before ++ own_lines plant seat.number (length seat.seen) one.served.new in
      let split : Behind one.seat = subst Behind (sym from) (lines-behind plant a b d.new one.served.new d.sees) in
      let whole : d.lines ≡ before = d.traces.1 good in
      let Traces : Bool → Type 0 = λ failed. TracesUnless failed (own_lines plant a.number (length a.seen) (d.new ++ one.served.new)) (d.lines ++ one.served.lines) in
      let rest = one.served.traces.0 in
      subst Traces (sym (ap (λ (failed : Bool). failed || trace_failed_at one.end) good)) (
        (
          rest.0,
          append_assoc d.lines one.served.lines rest.0 ∙ ap (λ (lines : List ℕ). d.lines ++ lines) rest.1 ∙ ap (λ (lines : List ℕ). lines ++ all) whole ∙ sym split,
        ),
        λ sound. ap (λ (lines : List ℕ). d.lines ++ lines) (one.served.traces.1 sound) ∙ ap (λ (lines : List ℕ). lines ++ all) whole ∙ sym split,
      )

  pub served_more : (d : ServedLinks plant panel turns done a b p q s t) → that_ended is_last_end d.links ≡ [] → done.trace_failed ≡ false → done.refused ≡ false → (one : LinkServed plant panel turns) → one.seat ≡ b → one.trace ≡ t
      → (r : AcceptorEnd) → q.sessions ≡ r.sessions + 1 → handed_back one.link_then r.sessions q r → ServedMore d one r
  served_more d none good asked one from traced r used back =
      let End = λ (is : SessionEnd → Bool) (one : LinkServed plant panel turns). is one.end in
      let See : PlantSeat → Type 0 = λ seat. SeesMore plant seat one.seat_then one.served.new in
      let own : entries_of b.number one.served.new ≡ own_of one = ap (λ (seat : PlantSeat). entries_of seat.number one.served.new) (sym from) in
      record {
        served = record {
          links = d.links ++ one ∷ [];
          new = d.new ++ one.served.new;
          lines = d.lines ++ one.served.lines;
          used = omega (arith, d.used, used, length-append d.links (one ∷ []));
          back = ap (λ (acceptor : AcceptorEnd). acceptor.links) back
              ∙ ap (λ (links : Custody LinkEnd). returned one.link_then (lent links)) d.back
              ∙ returned_more (map (λ (one : LinkServed plant panel turns). one.link_then) d.links) one.link_then p.links
              ∙ ap (λ (ends : List LinkEnd). all_returned ends p.links) (sym (map-append (λ (one : LinkServed plant panel turns). one.link_then) d.links (one ∷ [])));
          in_turn = in_turn_more a b s t d.links one d.in_turn none from traced;
          sees = sees_both plant a b one.seat_then d.new one.served.new d.sees (subst See from (sees_one one));
          own = own-behind plant a b d.new one.served.new d.sees
              ∙ ap (λ (entries : List PlantEntry). entries ++ entries_of b.number one.served.new) d.own
              ∙ ap (λ (entries : List PlantEntry). flat_map own_of d.links ++ entries) own
              ∙ ap (λ (entries : List PlantEntry). flat_map own_of d.links ++ entries) (sym (append-nil (own_of one)))
              ∙ sym (flat_map-append own_of d.links (one ∷ []));
          full = λ some.
              let is = some_is (is_full one.end) one _ (filter_more (End is_full) d.links one (none_full d.links none)) some in
              full_end one.end one.served.new one.seat.ticket_full one.seat_then.ticket_full is one.served.full;
          traced = one.served.traced
              ∙ ap (λ (trace : TraceData). appended trace.written one.served.lines) traced
              ∙ ap (λ (written : Option (List ℕ)). appended written one.served.lines) d.traced
              ∙ appended-both s.written d.lines one.served.lines;
          traces = lines_more d good one from;
          trace_count = one.served.trace_count
              ∙ ap (λ (trace : TraceData). count_after (trace_failed_at one.end) trace.faults) traced
              ∙ ap (count_after (trace_failed_at one.end)) (d.trace_count ∙ ap (λ (failed : Bool). count_after failed s.faults) good)
              ∙ ap (λ (failed : Bool). count_after (failed || trace_failed_at one.end) s.faults) (sym good);
          torn = λ some.
              let is = some_is (trace_failed_at one.end) one _ (filter_more (End trace_failed_at) d.links one (none_torn d.links none)) some in
              ap (λ (failed : Bool). failed || trace_failed_at one.end) good ∙ is;
          sessions = omega (arith, d.sessions, length-append d.links (one ∷ []));
          link_faults = ap (λ (n : ℕ). if is_link_fault one.end then n + 1 else n) d.link_faults ∙ sym (count_more (End is_link_fault) d.links one);
          limits = ap (λ (n : ℕ). if is_limit one.end then n + 1 else n) d.limits ∙ sym (count_more (End is_limit) d.links one);
          done_count = ap (λ (acceptor : AcceptorEnd). acceptor.done_faults) back
              ∙ ap (λ (faulty : Bool). count_after faulty q.done_faults) (faulty-is one)
              ∙ ap (count_after (is_link_fault one.end)) d.done_count
              ∙ sym (faults_more d.links one p.done_faults);
          next_count = ap (λ (acceptor : AcceptorEnd). acceptor.next_faults) back ∙ d.next_count;
        };
        links_are = refl;
      }
