use Rattle.std.proofs.Common.{sym, ap, ◌∙◌, subst, length}
use Rattle.ctl_io.specs.Calls.{next_fails}
use Rattle.ctl_net.specs.Link.{GivesWithin, after_link_read}
use Rattle.ctl_net.specs.MemLink.{read_half_of}
use Rattle.ctl_net.specs.declared.link.LinkRead.{LinkRead}
use Rattle.ctl_net.proofs.MemLinkLemmas.{answers_within, answers_end, half_after}
use Rattle.drill.proofs.panel_link.PanelLinkLink.read.Goals as goal

pub returns-clause-within : goal.returns-clause-within
returns-clause-within c =
    let P : LinkRead → Type 0 = λ answer. GivesWithin answer (length c.args.into.now) in
    subst P (sym c.give.ensures.answer) (answers_within (next_fails c.args.self.now.input.calls) c.args.self.now.input.events (length c.args.into.now) c.requires)

pub returns-clause-end : goal.returns-clause-end
returns-clause-end c = λ ends. answers_end (next_fails c.args.self.now.input.calls) c.args.self.now.input.events (length c.args.into.now) (sym c.give.ensures.answer ∙ ends)

pub returns-clause-read_half : goal.returns-clause-read_half
returns-clause-read_half c =
    ap read_half_of c.give.ensures.after
    ∙ (half_after (next_fails c.args.self.now.input.calls) c.args.self.now.input (length c.args.into.now) c.give.new.into
    ∙ ap (λ answer. after_link_read answer (length c.args.into.now) c.give.new.into (read_half_of c.args.self.now.input)) (sym c.give.ensures.answer))
