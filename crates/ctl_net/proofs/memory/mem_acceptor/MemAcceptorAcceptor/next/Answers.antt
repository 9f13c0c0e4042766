use Rattle.std.proofs.Common.{ap, ◌∙◌, sym, subst}
use Rattle.ctl_net.specs.Acceptor.{Uses}
use Rattle.ctl_net.specs.MemLink.{LinkState}
use Rattle.ctl_net.specs.MemAcceptor.{AcceptorState, after_next, links_of}
use Rattle.ctl_net.specs.declared.acceptor.Next.{Next}
use Rattle.ctl_net.proofs.MemAcceptorLemmas.{fresh_one, lent_next, done_stays, uses_next}
use Rattle.ctl_net.proofs.memory.mem_acceptor.MemAcceptorAcceptor.next.Goals as goal

pub returns-clause-new : goal.returns-clause-new
returns-clause-new c = fresh_one c.lend.result c.lend.ensures.new

pub returns-clause-lent : goal.returns-clause-lent
returns-clause-lent c = ap links_of c.lend.ensures.after ∙ lent_next c.lend.result c.args.self.now

pub returns-clause-done_count : goal.returns-clause-done_count
returns-clause-done_count c = ap (λ (acceptor : AcceptorState). acceptor.done_faults) c.lend.ensures.after ∙ done_stays c.lend.result c.args.self.now

pub returns-clause-sessions : goal.returns-clause-sessions
returns-clause-sessions c =
    let P : Next LinkState → Type 0 = λ answer. Uses answer c.args.self.now.sessions (after_next answer c.args.self.now).sessions in
    let Q : AcceptorState → Type 0 = λ after. Uses c.lend.result c.args.self.now.sessions after.sessions in
    subst Q (sym c.lend.ensures.after) (subst P (sym c.lend.ensures.answer) (uses_next c.args.self.now))
