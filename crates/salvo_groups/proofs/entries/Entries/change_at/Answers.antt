use Rattle.std.proofs.Common.{ap, ◌∙◌}
use Rattle.salvo_groups.specs.Answers.{store_answer}
use Rattle.salvo_groups.specs.EntriesInside.{asked}
use Rattle.salvo_groups.proofs.Asking.{Asks-found}
use Rattle.salvo_groups.proofs.entries.Entries.change_at.Goals as goal

pub invariant_of-self : goal.invariant_of-self
invariant_of-self c =
    let asks = Asks-found c.self.inside.entries.items c.args.place c.args.change c.self.invariant.is_group (rw (← c.self.view_is) at c.requires) in
    record { is_group = asks.is_group; has_room = c.self.invariant.has_room }

pub returns-clause-answer : goal.returns-clause-answer
returns-clause-answer c =
    let asks = Asks-found c.self.inside.entries.items c.args.place c.args.change c.self.invariant.is_group (rw (← c.self.view_is) at c.requires) in
    asks.answer_is ∙ ap (λ group. store_answer group c.args.change) c.self.view_is

pub returns-clause-group : goal.returns-clause-group
returns-clause-group c =
    let asks = Asks-found c.self.inside.entries.items c.args.place c.args.change c.self.invariant.is_group (rw (← c.self.view_is) at c.requires) in
    asks.group ∙ ap (λ group. asked group c.args.change) c.self.view_is
