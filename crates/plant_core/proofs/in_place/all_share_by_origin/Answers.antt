use Rattle.std.proofs.Common.{◌≡◌, true, false, ap, sym, ◌∙◌, arith}
use Rattle.std.proofs.lemmas.Grind.{common_steps}
use Rattle.plant_core.specs.StateFault.{shares_by_origin, all_share_by_origin}
use Rattle.plant_core.proofs.TestLemmas.{all_more, all_broken}
use Rattle.plant_core.proofs.in_place.all_share_by_origin.Goals as goal

pub returns-then-not-shares_by_origin : goal.returns-then-not-shares_by_origin
unfolding all_share_by_origin
returns-then-not-shares_by_origin c =
    let same = c.shares_by_origin.ensures ∙ ap (shares_by_origin c.args.plant.now c.args.bytes.now c.args.dest) c.of.ensures in
    let broken : shares_by_origin c.args.plant.now c.args.bytes.now c.args.dest c.loop-earlier.earlier ≡ false = grind (arith, common_steps) in
    sym (all_broken c.loop-earlier.earlier c.args.dest (shares_by_origin c.args.plant.now c.args.bytes.now c.args.dest) (omega arith) broken)

pub loop-earlier-preserved : goal.loop-earlier-preserved
loop-earlier-preserved c =
    let same = c.shares_by_origin.ensures ∙ ap (shares_by_origin c.args.plant.now c.args.bytes.now c.args.dest) c.of.ensures in
    let holds : shares_by_origin c.args.plant.now c.args.bytes.now c.args.dest c.loop-earlier.earlier ≡ true = grind (arith, common_steps) in
    all_more c.loop-earlier.earlier (shares_by_origin c.args.plant.now c.args.bytes.now c.args.dest) c.loop-earlier.invariant holds
