use Rattle.std.proofs.Common.{Option, IfSome, rules, sym, subst}
use Rattle.ctl_net.specs.MemLink.{LinkState, IsNewLink}
use Rattle.ctl_net.specs.MemAcceptor.{AreNewLinks}
use Rattle.ctl_net.proofs.MemAcceptorLemmas.{first_new, others_new}
use Rattle.ctl_net.proofs.memory.mem_acceptor.MemAcceptor.first.Goals as goal

pub invariant_of-self : goal.invariant_of-self
invariant_of-self c = record {
  new_links = subst AreNewLinks (sym c.take_front.ensures.rest) (others_new c.self.inside.waiting.items c.self.invariant.new_links);
  room = search rules;
  few = search rules;
}

pub returns-in-Some-clause-new : goal.returns-in-Some-clause-new
returns-in-Some-clause-new c =
    let P : Option LinkState → Type 0 = λ first. IfSome first IsNewLink in
    subst P (sym c.in-Some.ensures.found) (first_new c.self.inside.waiting.items c.self.invariant.new_links)
