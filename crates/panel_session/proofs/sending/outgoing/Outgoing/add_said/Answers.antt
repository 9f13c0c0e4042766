use Rattle.panel_session.proofs.AddLemmas.{adds_said}
use Rattle.panel_session.proofs.sending.outgoing.Outgoing.add_said.Goals as goal

pub returns-clause-output : goal.returns-clause-output
returns-clause-output c = adds_said c.args.message c.args.page.now _ c.args.self.now.output _ _ c.send_filled.ensures.output c.clear.ensures c.say.ensures.output
