use Rattle.std.proofs.Common.{length, ap, ◌∙◌, arith}
use Rattle.panel_server.specs.PlantServed.{NetData}
use Rattle.panel_server.specs.ServeInside.{with_refusal}
use Rattle.panel_server.proofs.OpenLemmas.{opened_whole, refused_all, refused_out}
use Rattle.panel_server.proofs.open.open_all.Goals as goal

pub returns-then-not-open_acceptors-clause-refused : goal.returns-then-not-open_acceptors-clause-refused
returns-then-not-open_acceptors-clause-refused g c =
    let shows = g.N.Net.shows in
    refused_all c.args.plant.now (length c.open_acceptors.new.acceptors.items) (shows c.args.net.now) (shows c.open_acceptors.new.net) (shows c.close_acceptors.new.net)
    (omega (arith, c.if-not-open_acceptors.ensures.fewer)) c.if-not-open_acceptors.ensures.some (c.close_acceptors.ensures.back c.args.plant.now c.open_acceptors.ensures.own)

pub returns-in-None-clause-refused : goal.returns-in-None-clause-refused
returns-in-None-clause-refused g c =
    let shows = g.N.Net.shows in
    refused_all c.args.plant.now (length c.open_acceptors.new.acceptors.items) (shows c.args.net.now) (shows c.open_port.new.net) (shows c.close_acceptors-in-None.new.net)
    (omega (arith, c.if-not-open_acceptors.ensures.count))
    (c.in-None.ensures.refused ∙ ap (λ (net : NetData g.row.N-P.Denot). with_refusal net) c.if-not-open_acceptors.ensures.all)
    (c.close_acceptors-in-None.ensures.back c.args.plant.now c.open_acceptors.ensures.own)

pub close_acceptors-requires-clause-out : goal.close_acceptors-requires-clause-out
close_acceptors-requires-clause-out g c κs within =
    let shows = g.N.Net.shows in
    refused_out c.args.plant.now (length c.open_acceptors.new.acceptors.items) (shows c.args.net.now) (shows c.open_acceptors.new.net) c.if-not-open_acceptors.ensures.some

pub close_acceptors-requires-clause-fresh : goal.close_acceptors-requires-clause-fresh
close_acceptors-requires-clause-fresh g c κs within = λ k d below. (c.open_acceptors.ensures.fresh k d below).fresh

pub close_acceptors-requires-in-None-clause-out : goal.close_acceptors-requires-in-None-clause-out
close_acceptors-requires-in-None-clause-out g c κs within =
    let shows = g.N.Net.shows in
    refused_out c.args.plant.now (length c.open_acceptors.new.acceptors.items) (shows c.args.net.now) (shows c.open_port.new.net)
    (c.in-None.ensures.refused ∙ ap (λ (net : NetData g.row.N-P.Denot). with_refusal net) c.if-not-open_acceptors.ensures.all)

pub close_acceptors-requires-in-None-clause-fresh : goal.close_acceptors-requires-in-None-clause-fresh
close_acceptors-requires-in-None-clause-fresh g c κs within = λ k d below. (c.open_acceptors.ensures.fresh k d below).fresh

pub returns-in-Some-clause-opened : goal.returns-in-Some-clause-opened
returns-in-Some-clause-opened g c =
    let shows = g.N.Net.shows in
    opened_whole c.args.plant.now (length c.open_acceptors.new.acceptors.items) (shows c.args.net.now) (shows c.open_acceptors.new.net) (shows c.open_port.new.net) c.server.result.now
    c.server.ensures.server c.if-not-open_acceptors.ensures.count c.if-not-open_acceptors.ensures.all c.in-Some.ensures.opened
