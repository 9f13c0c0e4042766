use Rattle.std.proofs.Common.{◌≡◌, ◌+◌, List, [], ◌∷◌, ◌++◌, length, sym, ap, ◌∙◌, append_assoc, arith}
use Rattle.std.proofs.lemmas.List.{length_push}
use Rattle.std.specs.Vec.Iter.{into_iter_items, into_iter_len}
use Rattle.panel_session.specs.Served.{PlantSeat}
use Rattle.drill.specs.declared.worker.Worker.{Worker}
use Rattle.drill.specs.WorkerInside.{seats_of}
use Rattle.drill.proofs.outcome.into_seats.Goals as goal

-- The first worker of those that were left has given its seat.
seats_on : (all later : List Worker) (worker : Worker) (before after whole : List PlantSeat) (seat : PlantSeat) → all ≡ worker ∷ later → after ≡ before ++ seat ∷ [] → seat ≡ worker.seat → before ++ seats_of all ≡ whole
    → after ++ seats_of later ≡ whole
seats_on all later worker before after whole seat items pushed is shared =
    ap (λ (seats : List PlantSeat). seats ++ seats_of later) pushed ∙ append_assoc before (seat ∷ []) (seats_of later)
    ∙ ap (λ (seat : PlantSeat). before ++ seat ∷ seats_of later) is ∙ ap (λ (workers : List Worker). before ++ seats_of workers) (sym items) ∙ shared

pub loop-worker-preserved : goal.loop-worker-preserved
loop-worker-preserved c =
    let all : List Worker = into_iter_items c.loop-worker.left in
    let later : List Worker = into_iter_items c.next.new.self in
    let items : all ≡ c.in-Some.worker ∷ later = c.in-Some.ensures.items in
    let fewer = ap (length {A = Worker}) items in
    let len : into_iter_len c.next.new.self + 1 ≡ into_iter_len c.loop-worker.left = c.in-Some.ensures.len in
    let was = c.loop-worker.invariant in
    let pushed : c.push_reserved.new.self.items ≡ c.loop-worker.seats.items ++ c.into_seat.result ∷ [] = c.push_reserved.ensures.items in
    let more : length c.push_reserved.new.self.items ≡ length c.loop-worker.seats.items + 1 = ap (length {A = PlantSeat}) pushed ∙ length_push c.loop-worker.seats.items c.into_seat.result in
    record {
      counted = omega (arith, len, was.counted, fewer);
      shared = seats_on all later c.in-Some.worker c.loop-worker.seats.items c.push_reserved.new.self.items _ c.into_seat.result items pushed c.into_seat.ensures was.shared;
      places = omega (arith, was.places, c.push_reserved.ensures.capacity, more, fewer);
    }
