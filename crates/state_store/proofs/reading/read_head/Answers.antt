use Rattle.std.proofs.Common.{rules, ◌≡◌, length, sym, subst, IfSome}
use Rattle.state_store.specs.Reading.{HasHead}
use Rattle.state_store.specs.declared.heads.Head.{Head}
use Rattle.state_store.proofs.ReadingLemmas.{head_leads}
use Rattle.state_store.proofs.reading.read_head.Goals as goal

pub returns-in-Done-clause-head : goal.returns-in-Done-clause-head
returns-in-Done-clause-head g c =
    let shown = g.D.Disk.contents c.args.disk.now in
    let nine : length c.read.new.into ≡ 9 = search rules in
    subst (λ (h : Head). IfSome shown (HasHead c.args.entry_len c.args.slot h)) (sym c.head_of.ensures)
    (head_leads c.args.entry_len c.args.slot c.gate.result c.read.new.into shown c.requires.number c.gate.ensures nine (c.read.ensures.bytes c.in-Done.is))
