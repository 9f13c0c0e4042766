use Rattle.std.proofs.Common.{◌≡◌, ℕ, sym, subst, arith}
use Rattle.plant_config.specs.Plant.{destinations_of}
use Rattle.plant_core.specs.ReadInside.{AreBrought}
use Rattle.plant_core.proofs.BroughtLemmas.{brought_none}
use Rattle.plant_core.proofs.brought.brought.Goals as goal

pub loop-number-init : goal.loop-number-init
loop-number-init c = record {
  brought = subst (AreBrought c.args.points.now.entries 0) (sym c.in_ok-changes.ensures.items) (brought_none c.args.points.now.entries);
  room = omega (arith, c.in_ok-changes.ensures.capacity);
}

pub returns : goal.returns
returns c =
    let all : c.loop-number.number ≡ destinations_of c.args.plant.now = omega arith in
    subst (λ (count : ℕ). AreBrought c.args.points.now.entries count c.loop-number.changes.items) all c.loop-number.invariant.brought
