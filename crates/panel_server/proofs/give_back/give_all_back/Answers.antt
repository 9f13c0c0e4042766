use Rattle.std.proofs.Common.{◌≡◌, ℕ, ◌+◌, List, [], ◌∷◌, ◌++◌, length, map, sym, ap, ◌∙◌, subst, append_assoc, arith}
use Rattle.std.proofs.lemmas.List.{length-append, map-append}
use Rattle.std.specs.Vec.Iter.{into_iter_items, into_iter_len}
use Rattle.panel_session.specs.Served.{PlantSeat}
use Rattle.panel_server.specs.PlantServed.{NetData}
use Rattle.panel_server.specs.ServeInside.{MayGiveAll, after_all, given_back}
use Rattle.panel_server.specs.Workers.{WorkerData, seat_of, trace_sink_of, sink_shows, worker_shows}
use Rattle.panel_server.specs.declared.worker.Worker.{Worker}
use Rattle.panel_server.proofs.give_back.give_all_back.Goals as goal

-- what may be given back, what was, and what a list has, once the first worker of those that were left gave back
may_next : {One P : Type 0} (shows : One → WorkerData P) (faults : P → ℕ) (all later : List One) (one : One) (net net_then : NetData P) → all ≡ one ∷ later → net_then ≡ given_back faults (shows one) net
    → MayGiveAll faults (map shows all) net → MayGiveAll faults (map shows later) net_then
may_next {One} {P} shows faults all later one net net_then items given may =
    let Of : List One → Type 0 = λ workers. MayGiveAll faults (map shows workers) net in
    let At : NetData P → Type 0 = λ net. MayGiveAll faults (map shows later) net in
    subst At (sym given) (subst Of items may).1

given_next : {One P : Type 0} (shows : One → WorkerData P) (faults : P → ℕ) (all later : List One) (one : One) (net net_then : NetData P) → all ≡ one ∷ later → net_then ≡ given_back faults (shows one) net
    → after_all faults (map shows later) net_then ≡ after_all faults (map shows all) net
given_next {One} {P} shows faults all later one net net_then items given =
    ap (λ (net : NetData P). after_all faults (map shows later) net) given
    ∙ ap (λ (workers : List One). after_all faults (map shows workers) net) (sym items)

pushed_next : {One X : Type 0} (told : One → X) (all later : List One) (one : One) (before after : List X) (x : X) → all ≡ one ∷ later → after ≡ before ++ x ∷ [] → x ≡ told one
    → after ++ map told later ≡ before ++ map told all
pushed_next {One} {X} told all later one before after x items pushed is =
    ap (λ (xs : List X). xs ++ map told later) pushed ∙ append_assoc before (x ∷ []) (map told later)
    ∙ ap (λ (x : X). before ++ x ∷ map told later) is ∙ ap (λ (workers : List One). before ++ map told workers) (sym items)

pub loop-worker-preserved : goal.loop-worker-preserved
loop-worker-preserved g c =
    let One = Worker g.row.N-A.Denot g.row.N-P.Denot g.row.K.Denot in
    let shows = worker_shows g.N.A.Acceptor.shows g.N.P.DisplayPort.opening g.K.Sink.name g.K.Sink.written g.K.Sink.faults in
    let net = g.N.Net.shows in
    let trace = sink_shows g.K.Sink.name g.K.Sink.written g.K.Sink.faults in
    let faults = g.N.P.DisplayPort.faults in
    let all : List One = into_iter_items c.loop-worker.waiting in
    let later : List One = into_iter_items c.next.new.self in
    let one : One = c.in-Some.worker in
    let items : all ≡ one ∷ later = c.in-Some.ensures.items in
    let fewer = ap (λ (workers : List One). length workers) items in
    let len : into_iter_len c.next.new.self + 1 ≡ into_iter_len c.loop-worker.waiting = c.in-Some.ensures.len in
    let before = net c.loop-worker.net in
    let after = net c.give_back-seat.new.net in
    let was = c.loop-worker.invariant in
    let seat_pushed = c.push_reserved.ensures.items in
    let trace_pushed = c.push_reserved-in-Some.ensures.items in
    let seats_more : length c.push_reserved.new.self.items ≡ length c.loop-worker.seats.items + 1 =
    ap (λ (seats : List PlantSeat). length seats) seat_pushed ∙ length-append c.loop-worker.seats.items (_ ∷ []) in
    let traces_more : length c.push_reserved-in-Some.new.self.items ≡ length c.loop-worker.traces.items + 1 =
    ap (λ (traces : List g.row.K.Denot). length traces) trace_pushed ∙ length-append c.loop-worker.traces.items (_ ∷ []) in
    record {
      counted = omega (arith, len, was.counted, fewer);
      may = may_next shows faults all later one before after items c.give_back-seat.ensures.net was.may;
      given = given_next shows faults all later one before after items c.give_back-seat.ensures.net ∙ was.given;
      seats = pushed_next (λ (worker : One). seat_of (shows worker)) all later one c.loop-worker.seats.items c.push_reserved.new.self.items _ items seat_pushed c.give_back-seat.ensures.seat ∙ was.seats;
      traces = pushed_next (λ (worker : One). trace_sink_of (shows worker)) all later one (map trace c.loop-worker.traces.items) (map trace c.push_reserved-in-Some.new.self.items) _ items
          (ap (λ (traces : List g.row.K.Denot). map trace traces) trace_pushed ∙ map-append trace c.loop-worker.traces.items (_ ∷ [])) c.give_back-seat.ensures.trace ∙ was.traces;
      seat_places = omega (arith, was.seat_places, c.push_reserved.ensures.capacity, seats_more, fewer);
      trace_places = omega (arith, was.trace_places, c.push_reserved-in-Some.ensures.capacity, traces_more, fewer);
    }
