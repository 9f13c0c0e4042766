use Rattle.std.proofs.Common.{◌≡◌, ◌+◌, ◌++◌, List, All, Result, length, map, take, drop, sym, ap, ◌∙◌, subst, arith}
use Rattle.panel_session.specs.Served.{PlantSeat, trace_shows}
use Rattle.panel_server.specs.declared.plant.PlantDone.{PlantDone}
use Rattle.panel_server.specs.declared.plant.ServeFault.{ServeFault}
use Rattle.panel_server.specs.declared.worker.Worker.{Worker}
use Rattle.panel_server.specs.PlantServed.{NetData, ServedSo}
use Rattle.panel_server.specs.ServeInside.{CountsFew, after_all, no_sums, sums_from}
use Rattle.panel_server.specs.Workers.{MayWork, worker_shows}
use Rattle.panel_server.proofs.FewLemmas.{few_of_more}
use Rattle.panel_server.proofs.OpenedLemmas.{AreBack, AreClosed, AreTold, HaveWorked, HasCrew, few_of, give_of, long_of, lost_of, may_of, names_of, own_of, seats_of, served_of, worked_of}
use Rattle.panel_server.proofs.plant.serve_opened.Goals as goal

pub all_work-requires-clause-some : goal.all_work-requires-clause-some
all_work-requires-clause-some g c κs within =
    let crewed : HasCrew g.N.A.Acceptor.shows g.N.P.DisplayPort.opening g.K.Sink.name g.K.Sink.written g.K.Sink.faults
    g.N.P.DisplayPort.was_sent g.N.P.DisplayPort.faults c.args.plant.now c.args.room c.args.port c.args.traces.items c.make_workers-workers.result.items = record { opened = c.requires.opened; traces_count = c.requires.traces; port_new = c.requires.port.0; port_own = c.requires.own; made_is = c.make_workers-workers.ensures } in
    let One = Worker g.row.N-A.Denot g.row.N-P.Denot g.row.K.Denot in
    let same : length c.as_mut_slice.result.now ≡ length c.make_workers-workers.result.items = ap (length {A = One}) c.as_mut_slice.ensures.value in
    let all : length c.make_workers-workers.result.items ≡ length c.args.plant.now.panels + 1 = long_of g.N.A.Acceptor.shows g.N.P.DisplayPort.opening g.K.Sink.name g.K.Sink.written g.K.Sink.faults
    g.N.P.DisplayPort.was_sent g.N.P.DisplayPort.faults c.args.plant.now c.args.room c.args.port c.args.traces.items c.make_workers-workers.result.items crewed in
    omega (arith, same, all)

pub all_work-requires-clause-may : goal.all_work-requires-clause-may
all_work-requires-clause-may g c κs within =
    let crewed : HasCrew g.N.A.Acceptor.shows g.N.P.DisplayPort.opening g.K.Sink.name g.K.Sink.written g.K.Sink.faults
    g.N.P.DisplayPort.was_sent g.N.P.DisplayPort.faults c.args.plant.now c.args.room c.args.port c.args.traces.items c.make_workers-workers.result.items = record { opened = c.requires.opened; traces_count = c.requires.traces; port_new = c.requires.port.0; port_own = c.requires.own; made_is = c.make_workers-workers.ensures } in
    let One = Worker g.row.N-A.Denot g.row.N-P.Denot g.row.K.Denot in
    let shows = worker_shows g.N.A.Acceptor.shows g.N.P.DisplayPort.opening g.K.Sink.name g.K.Sink.written g.K.Sink.faults in
    subst (λ (workers : List One). All (λ (worker : One). MayWork g.N.P.DisplayPort.takes c.args.plant.now c.args.room.lock (shows worker)) workers) (sym c.as_mut_slice.ensures.value)
    (may_of g.N.A.Acceptor.shows g.N.P.DisplayPort.opening g.K.Sink.name g.K.Sink.written g.K.Sink.faults
    g.N.P.DisplayPort.was_sent g.N.P.DisplayPort.faults c.args.plant.now c.args.room c.args.port c.args.traces.items c.make_workers-workers.result.items g.N.P.DisplayPort.takes crewed c.requires.port.1)

pub add_up-sums-requires-clause-few : goal.add_up-sums-requires-clause-few
add_up-sums-requires-clause-few g c κs within =
    let crewed : HasCrew g.N.A.Acceptor.shows g.N.P.DisplayPort.opening g.K.Sink.name g.K.Sink.written g.K.Sink.faults
    g.N.P.DisplayPort.was_sent g.N.P.DisplayPort.faults c.args.plant.now c.args.room c.args.port c.args.traces.items c.make_workers-workers.result.items = record { opened = c.requires.opened; traces_count = c.requires.traces; port_new = c.requires.port.0; port_own = c.requires.own; made_is = c.make_workers-workers.ensures } in
    let One = Worker g.row.N-A.Denot g.row.N-P.Denot g.row.K.Denot in
    let end : List One = take c.make_workers-workers.result.len (c.all_work.new.workers ++ drop (length c.all_work.new.workers) c.make_workers-workers.result.items) in
    let have : HaveWorked g.N.A.Acceptor.shows g.N.P.DisplayPort.opening g.K.Sink.name g.K.Sink.written g.K.Sink.faults
    g.N.P.DisplayPort.was_sent g.N.P.DisplayPort.faults c.args.plant.now c.args.room c.args.port c.args.traces.items c.make_workers-workers.result.items end = worked_of g.N.A.Acceptor.shows g.N.P.DisplayPort.opening g.K.Sink.name g.K.Sink.written g.K.Sink.faults
    g.N.P.DisplayPort.was_sent g.N.P.DisplayPort.faults c.args.plant.now c.args.room c.args.port c.args.traces.items c.make_workers-workers.result.items
    c.make_workers-workers.result.len c.as_mut_slice.result.now c.all_work.new.workers crewed c.as_mut_slice.ensures.value c.as_mut_slice.ensures.len c.all_work.ensures.length c.all_work.ensures.worked in
    let count : length c.as_slice.result.now ≡ length end = ap (length {A = One}) c.as_slice.ensures.value in
    let all : length c.make_workers-workers.result.items ≡ length c.args.plant.now.panels + 1 = long_of g.N.A.Acceptor.shows g.N.P.DisplayPort.opening g.K.Sink.name g.K.Sink.written g.K.Sink.faults
    g.N.P.DisplayPort.was_sent g.N.P.DisplayPort.faults c.args.plant.now c.args.room c.args.port c.args.traces.items c.make_workers-workers.result.items crewed in
    omega (arith, count, have.long, all, c.requires.opened.is_plant.panels)

pub add_up-sums-requires-clause-done : goal.add_up-sums-requires-clause-done
add_up-sums-requires-clause-done g c κs within =
    let crewed : HasCrew g.N.A.Acceptor.shows g.N.P.DisplayPort.opening g.K.Sink.name g.K.Sink.written g.K.Sink.faults
    g.N.P.DisplayPort.was_sent g.N.P.DisplayPort.faults c.args.plant.now c.args.room c.args.port c.args.traces.items c.make_workers-workers.result.items = record { opened = c.requires.opened; traces_count = c.requires.traces; port_new = c.requires.port.0; port_own = c.requires.own; made_is = c.make_workers-workers.ensures } in
    let One = Worker g.row.N-A.Denot g.row.N-P.Denot g.row.K.Denot in
    let end : List One = take c.make_workers-workers.result.len (c.all_work.new.workers ++ drop (length c.all_work.new.workers) c.make_workers-workers.result.items) in
    let have : HaveWorked g.N.A.Acceptor.shows g.N.P.DisplayPort.opening g.K.Sink.name g.K.Sink.written g.K.Sink.faults
    g.N.P.DisplayPort.was_sent g.N.P.DisplayPort.faults c.args.plant.now c.args.room c.args.port c.args.traces.items c.make_workers-workers.result.items end = worked_of g.N.A.Acceptor.shows g.N.P.DisplayPort.opening g.K.Sink.name g.K.Sink.written g.K.Sink.faults
    g.N.P.DisplayPort.was_sent g.N.P.DisplayPort.faults c.args.plant.now c.args.room c.args.port c.args.traces.items c.make_workers-workers.result.items
    c.make_workers-workers.result.len c.as_mut_slice.result.now c.all_work.new.workers crewed c.as_mut_slice.ensures.value c.as_mut_slice.ensures.len c.all_work.ensures.length c.all_work.ensures.worked in
    let shows = worker_shows g.N.A.Acceptor.shows g.N.P.DisplayPort.opening g.K.Sink.name g.K.Sink.written g.K.Sink.faults in
    subst (λ (workers : List One). All (λ (worker : One). CountsFew (shows worker)) workers) (sym c.as_slice.ensures.value) (few_of g.N.A.Acceptor.shows g.N.P.DisplayPort.opening g.K.Sink.name g.K.Sink.written g.K.Sink.faults
    g.N.P.DisplayPort.was_sent g.N.P.DisplayPort.faults c.args.plant.now c.args.room c.args.port c.args.traces.items c.make_workers-workers.result.items end have)

pub give_all_back-requires-clause-out : goal.give_all_back-requires-clause-out
give_all_back-requires-clause-out g c κs within =
    let crewed : HasCrew g.N.A.Acceptor.shows g.N.P.DisplayPort.opening g.K.Sink.name g.K.Sink.written g.K.Sink.faults
    g.N.P.DisplayPort.was_sent g.N.P.DisplayPort.faults c.args.plant.now c.args.room c.args.port c.args.traces.items c.make_workers-workers.result.items = record { opened = c.requires.opened; traces_count = c.requires.traces; port_new = c.requires.port.0; port_own = c.requires.own; made_is = c.make_workers-workers.ensures } in
    let One = Worker g.row.N-A.Denot g.row.N-P.Denot g.row.K.Denot in
    let end : List One = take c.make_workers-workers.result.len (c.all_work.new.workers ++ drop (length c.all_work.new.workers) c.make_workers-workers.result.items) in
    let have : HaveWorked g.N.A.Acceptor.shows g.N.P.DisplayPort.opening g.K.Sink.name g.K.Sink.written g.K.Sink.faults
    g.N.P.DisplayPort.was_sent g.N.P.DisplayPort.faults c.args.plant.now c.args.room c.args.port c.args.traces.items c.make_workers-workers.result.items end = worked_of g.N.A.Acceptor.shows g.N.P.DisplayPort.opening g.K.Sink.name g.K.Sink.written g.K.Sink.faults
    g.N.P.DisplayPort.was_sent g.N.P.DisplayPort.faults c.args.plant.now c.args.room c.args.port c.args.traces.items c.make_workers-workers.result.items
    c.make_workers-workers.result.len c.as_mut_slice.result.now c.all_work.new.workers crewed c.as_mut_slice.ensures.value c.as_mut_slice.ensures.len c.all_work.ensures.length c.all_work.ensures.worked in
    give_of g.N.A.Acceptor.shows g.N.P.DisplayPort.opening g.K.Sink.name g.K.Sink.written g.K.Sink.faults
    g.N.P.DisplayPort.was_sent g.N.P.DisplayPort.faults c.args.plant.now c.args.room c.args.port c.args.traces.items c.make_workers-workers.result.items end have
    (g.N.Net.shows c.args.net.now) c.requires.out.0 c.requires.out.1

pub give_all_back-requires-clause-seats : goal.give_all_back-requires-clause-seats
give_all_back-requires-clause-seats g c κs within =
    let crewed : HasCrew g.N.A.Acceptor.shows g.N.P.DisplayPort.opening g.K.Sink.name g.K.Sink.written g.K.Sink.faults
    g.N.P.DisplayPort.was_sent g.N.P.DisplayPort.faults c.args.plant.now c.args.room c.args.port c.args.traces.items c.make_workers-workers.result.items = record { opened = c.requires.opened; traces_count = c.requires.traces; port_new = c.requires.port.0; port_own = c.requires.own; made_is = c.make_workers-workers.ensures } in
    let One = Worker g.row.N-A.Denot g.row.N-P.Denot g.row.K.Denot in
    let end : List One = take c.make_workers-workers.result.len (c.all_work.new.workers ++ drop (length c.all_work.new.workers) c.make_workers-workers.result.items) in
    let have : HaveWorked g.N.A.Acceptor.shows g.N.P.DisplayPort.opening g.K.Sink.name g.K.Sink.written g.K.Sink.faults
    g.N.P.DisplayPort.was_sent g.N.P.DisplayPort.faults c.args.plant.now c.args.room c.args.port c.args.traces.items c.make_workers-workers.result.items end = worked_of g.N.A.Acceptor.shows g.N.P.DisplayPort.opening g.K.Sink.name g.K.Sink.written g.K.Sink.faults
    g.N.P.DisplayPort.was_sent g.N.P.DisplayPort.faults c.args.plant.now c.args.room c.args.port c.args.traces.items c.make_workers-workers.result.items
    c.make_workers-workers.result.len c.as_mut_slice.result.now c.all_work.new.workers crewed c.as_mut_slice.ensures.value c.as_mut_slice.ensures.len c.all_work.ensures.length c.all_work.ensures.worked in
    let all : length c.make_workers-workers.result.items ≡ length c.args.plant.now.panels + 1 = long_of g.N.A.Acceptor.shows g.N.P.DisplayPort.opening g.K.Sink.name g.K.Sink.written g.K.Sink.faults
    g.N.P.DisplayPort.was_sent g.N.P.DisplayPort.faults c.args.plant.now c.args.room c.args.port c.args.traces.items c.make_workers-workers.result.items crewed in
    let none : length c.args.room.lists.seats.items ≡ 0 = ap (length {A = PlantSeat}) c.requires.opened.no_seats in
    omega (arith, none, have.long, all, c.requires.opened.seat_places)

pub give_all_back-requires-clause-traces : goal.give_all_back-requires-clause-traces
give_all_back-requires-clause-traces g c κs within =
    let crewed : HasCrew g.N.A.Acceptor.shows g.N.P.DisplayPort.opening g.K.Sink.name g.K.Sink.written g.K.Sink.faults
    g.N.P.DisplayPort.was_sent g.N.P.DisplayPort.faults c.args.plant.now c.args.room c.args.port c.args.traces.items c.make_workers-workers.result.items = record { opened = c.requires.opened; traces_count = c.requires.traces; port_new = c.requires.port.0; port_own = c.requires.own; made_is = c.make_workers-workers.ensures } in
    let One = Worker g.row.N-A.Denot g.row.N-P.Denot g.row.K.Denot in
    let end : List One = take c.make_workers-workers.result.len (c.all_work.new.workers ++ drop (length c.all_work.new.workers) c.make_workers-workers.result.items) in
    let have : HaveWorked g.N.A.Acceptor.shows g.N.P.DisplayPort.opening g.K.Sink.name g.K.Sink.written g.K.Sink.faults
    g.N.P.DisplayPort.was_sent g.N.P.DisplayPort.faults c.args.plant.now c.args.room c.args.port c.args.traces.items c.make_workers-workers.result.items end = worked_of g.N.A.Acceptor.shows g.N.P.DisplayPort.opening g.K.Sink.name g.K.Sink.written g.K.Sink.faults
    g.N.P.DisplayPort.was_sent g.N.P.DisplayPort.faults c.args.plant.now c.args.room c.args.port c.args.traces.items c.make_workers-workers.result.items
    c.make_workers-workers.result.len c.as_mut_slice.result.now c.all_work.new.workers crewed c.as_mut_slice.ensures.value c.as_mut_slice.ensures.len c.all_work.ensures.length c.all_work.ensures.worked in
    let all : length c.make_workers-workers.result.items ≡ length c.args.plant.now.panels + 1 = long_of g.N.A.Acceptor.shows g.N.P.DisplayPort.opening g.K.Sink.name g.K.Sink.written g.K.Sink.faults
    g.N.P.DisplayPort.was_sent g.N.P.DisplayPort.faults c.args.plant.now c.args.room c.args.port c.args.traces.items c.make_workers-workers.result.items crewed in
    let none : length c.args.room.lists.traces.items ≡ 0 = ap (length {A = g.row.K.Denot}) c.requires.opened.no_traces in
    omega (arith, none, have.long, all, c.requires.opened.traces)

pub close-closed-requires-clause-own : goal.close-closed-requires-clause-own
close-closed-requires-clause-own g c =
    let crewed : HasCrew g.N.A.Acceptor.shows g.N.P.DisplayPort.opening g.K.Sink.name g.K.Sink.written g.K.Sink.faults
    g.N.P.DisplayPort.was_sent g.N.P.DisplayPort.faults c.args.plant.now c.args.room c.args.port c.args.traces.items c.make_workers-workers.result.items = record { opened = c.requires.opened; traces_count = c.requires.traces; port_new = c.requires.port.0; port_own = c.requires.own; made_is = c.make_workers-workers.ensures } in
    let One = Worker g.row.N-A.Denot g.row.N-P.Denot g.row.K.Denot in
    let end : List One = take c.make_workers-workers.result.len (c.all_work.new.workers ++ drop (length c.all_work.new.workers) c.make_workers-workers.result.items) in
    let have : HaveWorked g.N.A.Acceptor.shows g.N.P.DisplayPort.opening g.K.Sink.name g.K.Sink.written g.K.Sink.faults
    g.N.P.DisplayPort.was_sent g.N.P.DisplayPort.faults c.args.plant.now c.args.room c.args.port c.args.traces.items c.make_workers-workers.result.items end = worked_of g.N.A.Acceptor.shows g.N.P.DisplayPort.opening g.K.Sink.name g.K.Sink.written g.K.Sink.faults
    g.N.P.DisplayPort.was_sent g.N.P.DisplayPort.faults c.args.plant.now c.args.room c.args.port c.args.traces.items c.make_workers-workers.result.items
    c.make_workers-workers.result.len c.as_mut_slice.result.now c.all_work.new.workers crewed c.as_mut_slice.ensures.value c.as_mut_slice.ensures.len c.all_work.ensures.length c.all_work.ensures.worked in
    let back : List PlantSeat = c.give_all_back.new.seats.items in
    let are : AreBack g.N.A.Acceptor.shows g.N.P.DisplayPort.opening g.K.Sink.name g.K.Sink.written g.K.Sink.faults
    g.N.P.DisplayPort.was_sent g.N.P.DisplayPort.faults c.args.plant.now c.args.room c.args.port c.args.traces.items c.make_workers-workers.result.items end back = record { have = have; seats = c.give_all_back.ensures.seats } in
    own_of g.N.A.Acceptor.shows g.N.P.DisplayPort.opening g.K.Sink.name g.K.Sink.written g.K.Sink.faults
    g.N.P.DisplayPort.was_sent g.N.P.DisplayPort.faults c.args.plant.now c.args.room c.args.port c.args.traces.items c.make_workers-workers.result.items end back are

pub close-closed-requires-clause-all : goal.close-closed-requires-clause-all
close-closed-requires-clause-all g c =
    let crewed : HasCrew g.N.A.Acceptor.shows g.N.P.DisplayPort.opening g.K.Sink.name g.K.Sink.written g.K.Sink.faults
    g.N.P.DisplayPort.was_sent g.N.P.DisplayPort.faults c.args.plant.now c.args.room c.args.port c.args.traces.items c.make_workers-workers.result.items = record { opened = c.requires.opened; traces_count = c.requires.traces; port_new = c.requires.port.0; port_own = c.requires.own; made_is = c.make_workers-workers.ensures } in
    let One = Worker g.row.N-A.Denot g.row.N-P.Denot g.row.K.Denot in
    let end : List One = take c.make_workers-workers.result.len (c.all_work.new.workers ++ drop (length c.all_work.new.workers) c.make_workers-workers.result.items) in
    let have : HaveWorked g.N.A.Acceptor.shows g.N.P.DisplayPort.opening g.K.Sink.name g.K.Sink.written g.K.Sink.faults
    g.N.P.DisplayPort.was_sent g.N.P.DisplayPort.faults c.args.plant.now c.args.room c.args.port c.args.traces.items c.make_workers-workers.result.items end = worked_of g.N.A.Acceptor.shows g.N.P.DisplayPort.opening g.K.Sink.name g.K.Sink.written g.K.Sink.faults
    g.N.P.DisplayPort.was_sent g.N.P.DisplayPort.faults c.args.plant.now c.args.room c.args.port c.args.traces.items c.make_workers-workers.result.items
    c.make_workers-workers.result.len c.as_mut_slice.result.now c.all_work.new.workers crewed c.as_mut_slice.ensures.value c.as_mut_slice.ensures.len c.all_work.ensures.length c.all_work.ensures.worked in
    let back : List PlantSeat = c.give_all_back.new.seats.items in
    let are : AreBack g.N.A.Acceptor.shows g.N.P.DisplayPort.opening g.K.Sink.name g.K.Sink.written g.K.Sink.faults
    g.N.P.DisplayPort.was_sent g.N.P.DisplayPort.faults c.args.plant.now c.args.room c.args.port c.args.traces.items c.make_workers-workers.result.items end back = record { have = have; seats = c.give_all_back.ensures.seats } in
    seats_of g.N.A.Acceptor.shows g.N.P.DisplayPort.opening g.K.Sink.name g.K.Sink.written g.K.Sink.faults
    g.N.P.DisplayPort.was_sent g.N.P.DisplayPort.faults c.args.plant.now c.args.room c.args.port c.args.traces.items c.make_workers-workers.result.items end back are

pub answer-requires-clause-few : goal.answer-requires-clause-few
answer-requires-clause-few g c =
    let crewed : HasCrew g.N.A.Acceptor.shows g.N.P.DisplayPort.opening g.K.Sink.name g.K.Sink.written g.K.Sink.faults
    g.N.P.DisplayPort.was_sent g.N.P.DisplayPort.faults c.args.plant.now c.args.room c.args.port c.args.traces.items c.make_workers-workers.result.items = record { opened = c.requires.opened; traces_count = c.requires.traces; port_new = c.requires.port.0; port_own = c.requires.own; made_is = c.make_workers-workers.ensures } in
    let One = Worker g.row.N-A.Denot g.row.N-P.Denot g.row.K.Denot in
    let end : List One = take c.make_workers-workers.result.len (c.all_work.new.workers ++ drop (length c.all_work.new.workers) c.make_workers-workers.result.items) in
    let have : HaveWorked g.N.A.Acceptor.shows g.N.P.DisplayPort.opening g.K.Sink.name g.K.Sink.written g.K.Sink.faults
    g.N.P.DisplayPort.was_sent g.N.P.DisplayPort.faults c.args.plant.now c.args.room c.args.port c.args.traces.items c.make_workers-workers.result.items end = worked_of g.N.A.Acceptor.shows g.N.P.DisplayPort.opening g.K.Sink.name g.K.Sink.written g.K.Sink.faults
    g.N.P.DisplayPort.was_sent g.N.P.DisplayPort.faults c.args.plant.now c.args.room c.args.port c.args.traces.items c.make_workers-workers.result.items
    c.make_workers-workers.result.len c.as_mut_slice.result.now c.all_work.new.workers crewed c.as_mut_slice.ensures.value c.as_mut_slice.ensures.len c.all_work.ensures.length c.all_work.ensures.worked in
    let count : length c.as_slice.result.now ≡ length end = ap (length {A = One}) c.as_slice.ensures.value in
    let all : length c.make_workers-workers.result.items ≡ length c.args.plant.now.panels + 1 = long_of g.N.A.Acceptor.shows g.N.P.DisplayPort.opening g.K.Sink.name g.K.Sink.written g.K.Sink.faults
    g.N.P.DisplayPort.was_sent g.N.P.DisplayPort.faults c.args.plant.now c.args.room c.args.port c.args.traces.items c.make_workers-workers.result.items crewed in
    few_of_more (length c.as_slice.result.now) 65536 c.add_up-sums.result (omega (arith, count, have.long, all, c.requires.opened.is_plant.panels)) c.add_up-sums.ensures.few

pub answer-requires-clause-lost : goal.answer-requires-clause-lost
answer-requires-clause-lost g c =
    let crewed : HasCrew g.N.A.Acceptor.shows g.N.P.DisplayPort.opening g.K.Sink.name g.K.Sink.written g.K.Sink.faults
    g.N.P.DisplayPort.was_sent g.N.P.DisplayPort.faults c.args.plant.now c.args.room c.args.port c.args.traces.items c.make_workers-workers.result.items = record { opened = c.requires.opened; traces_count = c.requires.traces; port_new = c.requires.port.0; port_own = c.requires.own; made_is = c.make_workers-workers.ensures } in
    let One = Worker g.row.N-A.Denot g.row.N-P.Denot g.row.K.Denot in
    let end : List One = take c.make_workers-workers.result.len (c.all_work.new.workers ++ drop (length c.all_work.new.workers) c.make_workers-workers.result.items) in
    let have : HaveWorked g.N.A.Acceptor.shows g.N.P.DisplayPort.opening g.K.Sink.name g.K.Sink.written g.K.Sink.faults
    g.N.P.DisplayPort.was_sent g.N.P.DisplayPort.faults c.args.plant.now c.args.room c.args.port c.args.traces.items c.make_workers-workers.result.items end = worked_of g.N.A.Acceptor.shows g.N.P.DisplayPort.opening g.K.Sink.name g.K.Sink.written g.K.Sink.faults
    g.N.P.DisplayPort.was_sent g.N.P.DisplayPort.faults c.args.plant.now c.args.room c.args.port c.args.traces.items c.make_workers-workers.result.items
    c.make_workers-workers.result.len c.as_mut_slice.result.now c.all_work.new.workers crewed c.as_mut_slice.ensures.value c.as_mut_slice.ensures.len c.all_work.ensures.length c.all_work.ensures.worked in
    let back : List PlantSeat = c.give_all_back.new.seats.items in
    let are : AreBack g.N.A.Acceptor.shows g.N.P.DisplayPort.opening g.K.Sink.name g.K.Sink.written g.K.Sink.faults
    g.N.P.DisplayPort.was_sent g.N.P.DisplayPort.faults c.args.plant.now c.args.room c.args.port c.args.traces.items c.make_workers-workers.result.items end back = record { have = have; seats = c.give_all_back.ensures.seats } in
    let shows = worker_shows g.N.A.Acceptor.shows g.N.P.DisplayPort.opening g.K.Sink.name g.K.Sink.written g.K.Sink.faults in
    let closed : AreClosed g.N.A.Acceptor.shows g.N.P.DisplayPort.opening g.K.Sink.name g.K.Sink.written g.K.Sink.faults
    g.N.P.DisplayPort.was_sent g.N.P.DisplayPort.faults c.args.plant.now c.args.room c.args.port c.args.traces.items c.make_workers-workers.result.items end back c.close-closed.result.entries c.close-closed.result.past c.add_up-sums.result = record {
      are = are;
      closed = record {
        legal = c.close-closed.ensures.legal;
        entries_are = c.close-closed.ensures.entries;
        limit = c.close-closed.ensures.limit;
        seen = c.close-closed.ensures.seen;
        own = c.close-closed.ensures.own;
        by_seats = c.close-closed.ensures.by_seats;
        ticket_full = c.close-closed.ensures.ticket_full;
      };
      sums_are = c.add_up-sums.ensures.sums ∙ ap (λ (workers : List One). sums_from 0 (map shows workers) no_sums) c.as_slice.ensures.value;
    } in
    lost_of g.N.A.Acceptor.shows g.N.P.DisplayPort.opening g.K.Sink.name g.K.Sink.written g.K.Sink.faults
    g.N.P.DisplayPort.was_sent g.N.P.DisplayPort.faults c.args.plant.now c.args.room c.args.port c.args.traces.items c.make_workers-workers.result.items end back c.close-closed.result.entries c.close-closed.result.past c.add_up-sums.result closed

pub returns-clause-served : goal.returns-clause-served
returns-clause-served g c =
    λ before was.
    let crewed : HasCrew g.N.A.Acceptor.shows g.N.P.DisplayPort.opening g.K.Sink.name g.K.Sink.written g.K.Sink.faults
    g.N.P.DisplayPort.was_sent g.N.P.DisplayPort.faults c.args.plant.now c.args.room c.args.port c.args.traces.items c.make_workers-workers.result.items = record { opened = c.requires.opened; traces_count = c.requires.traces; port_new = c.requires.port.0; port_own = c.requires.own; made_is = c.make_workers-workers.ensures } in
    let One = Worker g.row.N-A.Denot g.row.N-P.Denot g.row.K.Denot in
    let end : List One = take c.make_workers-workers.result.len (c.all_work.new.workers ++ drop (length c.all_work.new.workers) c.make_workers-workers.result.items) in
    let have : HaveWorked g.N.A.Acceptor.shows g.N.P.DisplayPort.opening g.K.Sink.name g.K.Sink.written g.K.Sink.faults
    g.N.P.DisplayPort.was_sent g.N.P.DisplayPort.faults c.args.plant.now c.args.room c.args.port c.args.traces.items c.make_workers-workers.result.items end = worked_of g.N.A.Acceptor.shows g.N.P.DisplayPort.opening g.K.Sink.name g.K.Sink.written g.K.Sink.faults
    g.N.P.DisplayPort.was_sent g.N.P.DisplayPort.faults c.args.plant.now c.args.room c.args.port c.args.traces.items c.make_workers-workers.result.items
    c.make_workers-workers.result.len c.as_mut_slice.result.now c.all_work.new.workers crewed c.as_mut_slice.ensures.value c.as_mut_slice.ensures.len c.all_work.ensures.length c.all_work.ensures.worked in
    let back : List PlantSeat = c.give_all_back.new.seats.items in
    let are : AreBack g.N.A.Acceptor.shows g.N.P.DisplayPort.opening g.K.Sink.name g.K.Sink.written g.K.Sink.faults
    g.N.P.DisplayPort.was_sent g.N.P.DisplayPort.faults c.args.plant.now c.args.room c.args.port c.args.traces.items c.make_workers-workers.result.items end back = record { have = have; seats = c.give_all_back.ensures.seats } in
    let shows = worker_shows g.N.A.Acceptor.shows g.N.P.DisplayPort.opening g.K.Sink.name g.K.Sink.written g.K.Sink.faults in
    let closed : AreClosed g.N.A.Acceptor.shows g.N.P.DisplayPort.opening g.K.Sink.name g.K.Sink.written g.K.Sink.faults
    g.N.P.DisplayPort.was_sent g.N.P.DisplayPort.faults c.args.plant.now c.args.room c.args.port c.args.traces.items c.make_workers-workers.result.items end back c.close-closed.result.entries c.close-closed.result.past c.add_up-sums.result = record {
      are = are;
      closed = record {
        legal = c.close-closed.ensures.legal;
        entries_are = c.close-closed.ensures.entries;
        limit = c.close-closed.ensures.limit;
        seen = c.close-closed.ensures.seen;
        own = c.close-closed.ensures.own;
        by_seats = c.close-closed.ensures.by_seats;
        ticket_full = c.close-closed.ensures.ticket_full;
      };
      sums_are = c.add_up-sums.ensures.sums ∙ ap (λ (workers : List One). sums_from 0 (map shows workers) no_sums) c.as_slice.ensures.value;
    } in
    let told_so : AreTold g.N.A.Acceptor.shows g.N.P.DisplayPort.opening g.K.Sink.name g.K.Sink.written g.K.Sink.faults
    g.N.P.DisplayPort.was_sent g.N.P.DisplayPort.faults c.args.plant.now c.args.room c.args.port c.args.traces.items c.make_workers-workers.result.items end back c.close-closed.result.entries c.close-closed.result.past c.add_up-sums.result c.give_all_back.new.traces.items = record { closed = closed; sinks = c.give_all_back.ensures.traces } in
    let net_then = g.N.Net.shows c.give_all_back.new.net in
    let net_is = c.give_all_back.ensures.net ∙ ap (λ (net : NetData g.row.N-P.Denot). after_all g.N.P.DisplayPort.faults (map shows end) net) was in
    subst (λ (result : Result PlantDone ServeFault). ServedSo g.N.P.DisplayPort.was_sent g.N.P.DisplayPort.faults c.args.plant.now before net_then
    (map (trace_shows g.K.Sink.written g.K.Sink.faults) c.args.traces.items) (map (trace_shows g.K.Sink.written g.K.Sink.faults) c.give_all_back.new.traces.items) result) (sym c.answer.ensures)
    (served_of g.N.A.Acceptor.shows g.N.P.DisplayPort.opening g.K.Sink.name g.K.Sink.written g.K.Sink.faults
    g.N.P.DisplayPort.was_sent g.N.P.DisplayPort.faults c.args.plant.now c.args.room c.args.port c.args.traces.items c.make_workers-workers.result.items end back c.close-closed.result.entries c.close-closed.result.past c.add_up-sums.result
    c.give_all_back.new.traces.items before net_then told_so net_is)

pub returns-clause-names : goal.returns-clause-names
returns-clause-names g c =
    let crewed : HasCrew g.N.A.Acceptor.shows g.N.P.DisplayPort.opening g.K.Sink.name g.K.Sink.written g.K.Sink.faults
    g.N.P.DisplayPort.was_sent g.N.P.DisplayPort.faults c.args.plant.now c.args.room c.args.port c.args.traces.items c.make_workers-workers.result.items = record { opened = c.requires.opened; traces_count = c.requires.traces; port_new = c.requires.port.0; port_own = c.requires.own; made_is = c.make_workers-workers.ensures } in
    let One = Worker g.row.N-A.Denot g.row.N-P.Denot g.row.K.Denot in
    let end : List One = take c.make_workers-workers.result.len (c.all_work.new.workers ++ drop (length c.all_work.new.workers) c.make_workers-workers.result.items) in
    let have : HaveWorked g.N.A.Acceptor.shows g.N.P.DisplayPort.opening g.K.Sink.name g.K.Sink.written g.K.Sink.faults
    g.N.P.DisplayPort.was_sent g.N.P.DisplayPort.faults c.args.plant.now c.args.room c.args.port c.args.traces.items c.make_workers-workers.result.items end = worked_of g.N.A.Acceptor.shows g.N.P.DisplayPort.opening g.K.Sink.name g.K.Sink.written g.K.Sink.faults
    g.N.P.DisplayPort.was_sent g.N.P.DisplayPort.faults c.args.plant.now c.args.room c.args.port c.args.traces.items c.make_workers-workers.result.items
    c.make_workers-workers.result.len c.as_mut_slice.result.now c.all_work.new.workers crewed c.as_mut_slice.ensures.value c.as_mut_slice.ensures.len c.all_work.ensures.length c.all_work.ensures.worked in
    let back : List PlantSeat = c.give_all_back.new.seats.items in
    let are : AreBack g.N.A.Acceptor.shows g.N.P.DisplayPort.opening g.K.Sink.name g.K.Sink.written g.K.Sink.faults
    g.N.P.DisplayPort.was_sent g.N.P.DisplayPort.faults c.args.plant.now c.args.room c.args.port c.args.traces.items c.make_workers-workers.result.items end back = record { have = have; seats = c.give_all_back.ensures.seats } in
    let shows = worker_shows g.N.A.Acceptor.shows g.N.P.DisplayPort.opening g.K.Sink.name g.K.Sink.written g.K.Sink.faults in
    let closed : AreClosed g.N.A.Acceptor.shows g.N.P.DisplayPort.opening g.K.Sink.name g.K.Sink.written g.K.Sink.faults
    g.N.P.DisplayPort.was_sent g.N.P.DisplayPort.faults c.args.plant.now c.args.room c.args.port c.args.traces.items c.make_workers-workers.result.items end back c.close-closed.result.entries c.close-closed.result.past c.add_up-sums.result = record {
      are = are;
      closed = record {
        legal = c.close-closed.ensures.legal;
        entries_are = c.close-closed.ensures.entries;
        limit = c.close-closed.ensures.limit;
        seen = c.close-closed.ensures.seen;
        own = c.close-closed.ensures.own;
        by_seats = c.close-closed.ensures.by_seats;
        ticket_full = c.close-closed.ensures.ticket_full;
      };
      sums_are = c.add_up-sums.ensures.sums ∙ ap (λ (workers : List One). sums_from 0 (map shows workers) no_sums) c.as_slice.ensures.value;
    } in
    let told_so : AreTold g.N.A.Acceptor.shows g.N.P.DisplayPort.opening g.K.Sink.name g.K.Sink.written g.K.Sink.faults
    g.N.P.DisplayPort.was_sent g.N.P.DisplayPort.faults c.args.plant.now c.args.room c.args.port c.args.traces.items c.make_workers-workers.result.items end back c.close-closed.result.entries c.close-closed.result.past c.add_up-sums.result c.give_all_back.new.traces.items = record { closed = closed; sinks = c.give_all_back.ensures.traces } in
    names_of g.N.A.Acceptor.shows g.N.P.DisplayPort.opening g.K.Sink.name g.K.Sink.written g.K.Sink.faults
    g.N.P.DisplayPort.was_sent g.N.P.DisplayPort.faults c.args.plant.now c.args.room c.args.port c.args.traces.items c.make_workers-workers.result.items end back c.close-closed.result.entries c.close-closed.result.past c.add_up-sums.result
    c.give_all_back.new.traces.items told_so
