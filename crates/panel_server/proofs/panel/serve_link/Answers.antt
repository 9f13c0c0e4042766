use Rattle.std.proofs.Common.{ap, ◌∙◌}
use Rattle.ctl_net.specs.Acceptor.{link_end}
use Rattle.panel_session.specs.Served.{PlantSeat}
use Rattle.panel_server.proofs.LeaveLemmas.{begins_anew}
use Rattle.panel_server.proofs.OverLemmas.{end_same}
use Rattle.panel_server.proofs.panel.serve_link.Goals as goal

pub returns-clause-gives_back : goal.returns-clause-gives_back
returns-clause-gives_back g c = λ plant panel begins.
    let stands = begins_anew plant panel c.args.session.now c.reset.new.self begins c.reset.ensures.stood c.reset.ensures.awaited in
    record {
      link_then = link_end (g.A.L.Sink.written c.serve_session-end.new.link) (g.A.L.Sink.faults c.serve_session-end.new.link) (g.A.L.Sink.read_half c.serve_session-end.new.link);
      served = c.serve_session-end.ensures.served plant panel stands;
      acceptor_is = end_same panel c.done.ensures.opening c.done.ensures.sessions c.done.ensures.returned c.done.ensures.next_count c.done.ensures.count;
    }

pub returns-clause-begins : goal.returns-clause-begins
returns-clause-begins g c = λ plant panel begins.
    let stands = begins_anew plant panel c.args.session.now c.reset.new.self begins c.reset.ensures.stood c.reset.ensures.awaited in
    (c.serve_session-end.ensures.served plant panel stands).left.1

pub returns-clause-may : goal.returns-clause-may
returns-clause-may g c =
    let may = c.requires.may in
    let stands = begins_anew may.plant may.panel c.args.session.now c.reset.new.self may.begins c.reset.ensures.stood c.reset.ensures.awaited in
    let served = c.serve_session-end.ensures.served may.plant may.panel stands in
    record {
      plant = may.plant;
      panel = may.panel;
      begins = served.left.1;
      is_plant = may.is_plant;
      seat_of = ap (λ (seat : PlantSeat). seat.lock) served.seat_same ∙ may.seat_of;
      first = ap (λ (seat : PlantSeat). seat.first) served.seat_same ∙ may.first;
    }
