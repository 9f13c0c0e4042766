use Rattle.std.proofs.Common.{length, ap, sym, ◌∙◌}
use Rattle.std.proofs.lemmas.Bool.{iff_false}
use Rattle.salvo_groups.specs.Answers.{store_answer}
use Rattle.salvo_groups.specs.EntriesInside.{asked}
use Rattle.salvo_groups.proofs.Asking.{absent-place_of, Asks-full, Asks-behind}
use Rattle.salvo_groups.proofs.entries.Entries.store.Goals as goal

pub returns-then-is_full-clause-answer : goal.returns-then-is_full-clause-answer
returns-then-is_full-clause-answer c =
    let asks = Asks-full c.self.inside.entries.items c.args.change c.self.invariant.is_group (absent-place_of c.self.inside.entries.items c.args.change.dest (sym (rw c.deref.ensures.value at c.in_default.ensures))) (ap length c.self.view_is ∙ c.is_full.ensures.0 c.if-is_full.true) in
    asks.answer_is ∙ ap (λ group. store_answer group c.args.change) c.self.view_is

pub returns-then-is_full-clause-group : goal.returns-then-is_full-clause-group
returns-then-is_full-clause-group c =
    let asks = Asks-full c.self.inside.entries.items c.args.change c.self.invariant.is_group (absent-place_of c.self.inside.entries.items c.args.change.dest (sym (rw c.deref.ensures.value at c.in_default.ensures))) (ap length c.self.view_is ∙ c.is_full.ensures.0 c.if-is_full.true) in
    sym c.self.view_is ∙ asks.group ∙ ap (λ group. asked group c.args.change) c.self.view_is

pub invariant_of-self : goal.invariant_of-self
invariant_of-self c =
    let asks = Asks-behind c.self.inside.entries.items c.args.change c.self.invariant.is_group (absent-place_of c.self.inside.entries.items c.args.change.dest (sym (rw c.deref.ensures.value at c.in_default.ensures))) (λ full. iff_false c.is_full.ensures c.if-is_full.false (sym (ap length c.self.view_is) ∙ full)) in
    record {
      is_group = rw c.push_reserved.ensures.items asks.is_group;
      has_room = rw c.push_reserved.ensures.capacity c.self.invariant.has_room;
    }

pub returns-clause-group : goal.returns-clause-group
returns-clause-group c =
    let asks = Asks-behind c.self.inside.entries.items c.args.change c.self.invariant.is_group (absent-place_of c.self.inside.entries.items c.args.change.dest (sym (rw c.deref.ensures.value at c.in_default.ensures))) (λ full. iff_false c.is_full.ensures c.if-is_full.false (sym (ap length c.self.view_is) ∙ full)) in
    c.push_reserved.ensures.items ∙ asks.group ∙ ap (λ group. asked group c.args.change) c.self.view_is
