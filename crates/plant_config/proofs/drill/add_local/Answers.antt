use Rattle.std.proofs.Common.{◌≡◌, [], ◌∷◌, sym, append_assoc, arith}
use Rattle.std.proofs.lemmas.List.{append-nil}
use Rattle.plant_config.specs.DrillPlant.{local_source, local_sources}
use Rattle.plant_config.proofs.DrillParts.{local_more}
use Rattle.plant_config.proofs.drill.add_local.Goals as goal

pub loop-number-init : goal.loop-number-init
unfolding local_sources
loop-number-init c = sym (append-nil c.args.sources.now.items)

pub loop-number-preserved : goal.loop-number-preserved
loop-number-preserved c =
    let first = c.args.first in
    let number = c.loop-number.number in
    rw (c.in_ok-push.ensures.items, c.loop-number.invariant, c.numbered.ensures, c.of.ensures, c.from.ensures, local_more first number)
    (append_assoc c.args.sources.now.items (local_sources first number) (local_source first number ∷ []))

pub returns : goal.returns
returns c = let all : c.loop-number.number ≡ c.args.count = omega arith in rw (c.loop-number.invariant, all)
