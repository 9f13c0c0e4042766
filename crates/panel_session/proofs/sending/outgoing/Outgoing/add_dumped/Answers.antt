use Rattle.std.proofs.Common.{sym, ◌∙◌}
use Rattle.panel_session.proofs.AddLemmas.{adds_next, adds_page}
use Rattle.panel_session.proofs.sending.outgoing.Outgoing.add_dumped.Goals as goal

pub returns-then-goes_on-clause-output : goal.returns-then-goes_on-clause-output
returns-then-goes_on-clause-output c =
    adds_next c.args.matrix c.args.level c.args.dest c.args.source c.args.page.now c.args.self.now.output _ (sym c.goes_on.ensures.goes_on ∙ c.if-goes_on.true) c.push.ensures

pub returns-clause-output : goal.returns-clause-output
returns-clause-output c =
    adds_page c.args.matrix c.args.level c.args.dest c.args.source c.args.page.now c.args.self.now.output _ _ (sym c.goes_on.ensures.goes_on ∙ c.if-goes_on.false) c.begin.ensures c.send_filled.ensures.output
