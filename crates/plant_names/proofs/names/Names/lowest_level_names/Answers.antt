use Rattle.std.proofs.Common.{◌≡◌, None, Some, ap, subst, sym, ◌∙◌, arith}
use Rattle.std.specs.Option.{option_map}
use Rattle.std.proofs.lemmas.Option.{get_or_from_slice_get}
use Rattle.plant_names.specs.Pages.{lowest_level}
use Rattle.plant_names.specs.NamesInside.{named}
use Rattle.plant_names.proofs.LevelLemmas.{lowest_level-none, level_among-lowest}
use Rattle.plant_names.proofs.names.Names.lowest_level_names.Goals as goal

pub returns-then-matrix-ge16-clause-names : goal.returns-then-matrix-ge16-clause-names
returns-then-matrix-ge16-clause-names c =
    let plant = c.self.inside.plant.value in
    subst (λ plant. None ≡ option_map (named plant) (lowest_level plant c.args.matrix)) c.self.view_is (sym (ap (option_map (named plant)) (lowest_level-none plant c.self.invariant.is c.args.matrix (omega arith))))

pub returns-in-None-clause-names : goal.returns-in-None-clause-names
returns-in-None-clause-names c =
    let plant = c.self.inside.plant.value in
    let entry = get_or_from_slice_get c.self.inside.lowest.items c.args.matrix (lowest_level plant c.args.matrix) c.index.result.now (c.self.invariant.lowest_levels.each c.args.matrix (omega arith)) in
    let none : None ≡ lowest_level plant c.args.matrix = cc in
    subst (λ plant. None ≡ option_map (named plant) (lowest_level plant c.args.matrix)) c.self.view_is (ap (option_map (named plant)) none)

pub returns-in-Some-clause-names : goal.returns-in-Some-clause-names
returns-in-Some-clause-names c =
    let plant = c.self.inside.plant.value in
    let entry = get_or_from_slice_get c.self.inside.lowest.items c.args.matrix (lowest_level plant c.args.matrix) c.index.result.now (c.self.invariant.lowest_levels.each c.args.matrix (omega arith)) in
    let found : lowest_level plant c.args.matrix ≡ Some c.in-Some.at = cc in
    let here = subst (λ plant. lowest_level plant c.args.matrix ≡ Some c.in-Some.at) c.self.view_is found in
    let place = level_among-lowest c.args.self.now.levels c.args.matrix c.in-Some.at here in
    c.level.ensures.names ∙ ap (option_map (named c.args.self.now)) (place ∙ sym here)
