use Rattle.std.proofs.Common.{◌≡◌, ap, sym, ◌∙◌}
use Rattle.change_boards.specs.declared.sort.Sort.TheVariants.{Source, Protect}
use Rattle.plant_core.specs.State.{State}
use Rattle.plant_core.specs.Noticed.{marked_for_others}
use Rattle.plant_core.proofs.StepValidity.{changed-busy}
use Rattle.plant_core.proofs.state.PlantState.make.Goals as goal

-- it is a notice of a source
pub give_notice-requires-clause-short : goal.give_notice-requires-clause-short
give_notice-requires-clause-short c = λ same. let no : Source ≡ Protect = same in absurd cc

pub returns : goal.returns
returns c =
    let busy = sym c.is_idle.ensures.idle ∙ c.if-is_idle.false in
    c.give_notice.ensures
    ∙ ap (λ (state : State). record state { boards = marked_for_others state.boards c.args.asker c.args.change.now.dest Source }) c.apply.ensures
    ∙ changed-busy c.args.self.now c.args.asker c.args.change.now busy
