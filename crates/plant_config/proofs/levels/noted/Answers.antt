use Rattle.std.proofs.Common.{◌≡◌, ◌<◌, ◌-◌, suc, arith, length-set}
use Rattle.std.proofs.Math.Seq.{drop-length}
use Rattle.std.proofs.lemmas.List.{get_or-replicate}
use Rattle.plant_config.specs.LevelsInside.{place_of}
use Rattle.plant_config.proofs.LevelsLemmas.{AreNotedOf-at}
use Rattle.plant_config.proofs.levels.noted.Goals as goal

pub loop-index-init : goal.loop-index-init
loop-index-init c = (
  omega arith,
  λ matrix level m l.
      let within : place_of matrix level < 256 = omega arith in
      rw (drop-length c.args.levels.now, get_or-replicate),
)

pub loop-index-preserved : goal.loop-index-preserved
loop-index-preserved c =
    let behind : suc (c.loop-index.index - 1) ≡ c.loop-index.index = omega (arith, c.loop-index-test.true) in
    let noted = rw (← behind) at c.loop-index.invariant.1 in (
      rw length-set c.loop-index.invariant.0,
      AreNotedOf-at c.args.levels.now c.loop-index.places (c.loop-index.index - 1) c.place_of.result _ c.requires.in_grid (omega (arith, c.loop-index.auto.index)) c.place_of.ensures.place (omega (arith, c.place_of.ensures.within, c.loop-index.invariant.0)) noted,
    )
