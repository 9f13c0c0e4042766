use Rattle.std.proofs.Common.{rules, ◌≡◌, ℕ, ◌≤◌, length, All, List, sym, ap, ◌∙◌, subst, arith}
use Rattle.std.proofs.lemmas.List.Elements.{All-push}
use Rattle.plant_file.specs.declared.entries.Server.{Server}
use Rattle.plant_config.specs.declared.records.Panel.{Panel}
use Rattle.panel_server.specs.ServeInside.{AreOwn, IsFreshFor, opened_acceptors}
use Rattle.panel_server.proofs.OpenLemmas.{opened_begins, opened_step, own_none, own_step, refused_step}
use Rattle.panel_server.proofs.open.open_acceptors.Goals as goal

pub loop-number-init : goal.loop-number-init
loop-number-init g c =
    let none : length c.args.acceptors.now.items ≡ 0 = search rules in
    record {
      net = opened_begins c.args.plant.now _;
      count = none;
      fresh = λ k d below. absurd (omega (arith, below, none));
      own = own_none g.N.A.Acceptor.shows c.args.plant.now c.args.acceptors.now.items c.requires.empty;
      places = search rules;
    }

pub loop-number-preserved : goal.loop-number-preserved
loop-number-preserved g c =
    let shows = g.N.Net.shows in
    let plant = c.args.plant.now in
    let panels = c.panels-panel-items.result.now in
    let few : length panels ≤ 64 = subst (λ (panels : List Panel). length panels ≤ 64) (sym c.panels-panel-items.ensures.panels) c.panels-panel-items.ensures.plant.panels in
    let Fresh = λ (acceptor : g.row.N-A.Denot). IsFreshFor g.N.A.Acceptor.shows plant.server acceptor in
    let FreshBy = λ (server : Server). IsFreshFor g.N.A.Acceptor.shows server c.in-Some.acceptor in
    record {
      net = opened_step plant (shows c.args.net.now) (shows c.loop-number.net) (shows c.open_acceptor.new.net) c.server-server.result.now panels c.loop-number.number _ _
          c.server-server.ensures.server c.panels-panel-items.ensures.panels c.loop-number-test.true (search rules) c.loop-number.invariant.net c.in-Some.ensures.opened;
      count = search rules;
      fresh = subst (λ (items : List g.row.N-A.Denot). All Fresh items) (sym c.push_reserved.ensures.items)
          (All-push Fresh _ _ c.loop-number.invariant.fresh (subst FreshBy c.server-server.ensures.server c.in-Some.ensures.fresh));
      own = subst (λ (items : List g.row.N-A.Denot). AreOwn g.N.A.Acceptor.shows plant items) (sym c.push_reserved.ensures.items)
          (own_step g.N.A.Acceptor.shows plant c.server-server.result.now panels c.loop-number.number _ _ c.loop-number.acceptors.items c.in-Some.acceptor
          c.server-server.ensures.server c.panels-panel-items.ensures.panels c.loop-number-test.true (search rules) c.loop-number.invariant.count c.in-Some.ensures.own c.loop-number.invariant.own);
      places = search rules;
    }

pub returns-in-None-clause-some : goal.returns-in-None-clause-some
returns-in-None-clause-some g c =
    let shows = g.N.Net.shows in
    refused_step c.args.plant.now (shows c.args.net.now) (shows c.loop-number.net) (shows c.open_acceptor.new.net) c.loop-number.number (length c.loop-number.acceptors.items)
    c.loop-number.invariant.net c.loop-number.invariant.count c.in-None.ensures.refused

pub returns-in-None-clause-fresh : goal.returns-in-None-clause-fresh
returns-in-None-clause-fresh g c = c.loop-number.invariant.fresh

pub returns-clause-all : goal.returns-clause-all
returns-clause-all g c =
    let net = g.N.Net.shows c.args.net.now in
    c.loop-number.invariant.net ∙ ap (λ (count : ℕ). opened_acceptors c.args.plant.now count net) (sym c.loop-number.invariant.count)

pub returns-clause-fresh : goal.returns-clause-fresh
returns-clause-fresh g c = c.loop-number.invariant.fresh
