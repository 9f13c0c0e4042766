use Rattle.std.proofs.Common.{◌≡◌, ℕ, List, [], ◌∷◌, OnSome, subst}
use Rattle.ctl_io.specs.Custody.{lent}
use Rattle.ctl_net.specs.declared.opening.Opening.TheVariants.{Acceptor}
use Rattle.panel_server.specs.PlantServed.{opened_all}
use Rattle.panel_server.proofs.OpenLemmas.{acceptor_opened, acceptor_refused}
use Rattle.panel_server.proofs.open.open_acceptor.Goals as goal

pub returns-clause-opened : goal.returns-clause-opened
returns-clause-opened g c =
    let shows = g.N.Net.shows in
    let net = shows c.args.net.now in
    let next = shows c.acceptor.new.self in
    let server = c.args.server.now in
    let one = λ (address : List ℕ). Acceptor c.args.number address c.args.port server.sessions server.idle_ms in
    let Opens = λ (address : List ℕ). OnSome c.acceptor.result (next ≡ record net { openings = opened_all (one address ∷ []) net.openings; acceptors = lent net.acceptors }) in
    subst Opens c.as_str-address.ensures
    (acceptor_opened c.acceptor.result (one c.as_str-address.result.now) net next c.acceptor.ensures.told c.acceptor.ensures.lent c.acceptor.ensures.ports c.acceptor.ensures.count c.acceptor.ensures.close_count)

pub returns-clause-refused : goal.returns-clause-refused
returns-clause-refused g c =
    let shows = g.N.Net.shows in
    let server = c.args.server.now in
    acceptor_refused c.acceptor.result (Acceptor c.args.number c.as_str-address.result.now c.args.port server.sessions server.idle_ms) (shows c.args.net.now) (shows c.acceptor.new.self)
    c.acceptor.ensures.told c.acceptor.ensures.lent c.acceptor.ensures.ports c.acceptor.ensures.count c.acceptor.ensures.close_count
