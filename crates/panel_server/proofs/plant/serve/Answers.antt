use Rattle.panel_server.proofs.plant.serve.Goals as goal

pub returns-clause-served : goal.returns-clause-served
returns-clause-served g c = c.serve_opened.ensures.served (g.N.Net.shows c.args.net.now) c.in-Some.ensures.opened
