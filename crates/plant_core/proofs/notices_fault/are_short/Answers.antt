use Rattle.std.proofs.Common.{ℕ, sym, ap, ◌∙◌, arith}
use Rattle.std.proofs.lemmas.Bool.{leb-true}
use Rattle.plant_config.specs.Sites.{point_of}
use Rattle.plant_core.proofs.NoticesFaultLemmas.{short_near}
use Rattle.plant_core.proofs.notices_fault.are_short.Goals as goal

pub returns : goal.returns
returns c = λ low more below.
    short_near c.args.plant.now c.args.first more c.point.result c.requires.plant
    (sym (ap (λ (dest : ℕ). point_of c.args.plant.now dest) c.of.ensures) ∙ c.point.ensures)
    (omega (arith, below, leb-true c.point.result.dest 960 low)) (omega (arith, below, c.requires.first))
