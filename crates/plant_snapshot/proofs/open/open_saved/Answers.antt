use Rattle.std.proofs.Common.{◌≡◌, ℕ, subst}
use Rattle.plant_snapshot.specs.StandsFor.{store_size}
use Rattle.plant_snapshot.specs.Answers.{TellsSize}
use Rattle.plant_snapshot.proofs.open.open_saved.Goals as goal

pub returns-in-Ok-clause-wrong_size : goal.returns-in-Ok-clause-wrong_size
returns-in-Ok-clause-wrong_size g c =
    let size = g.D.Disk.size c.args.disk in
    let same : size ≡ store_size c.args.plant.now = cc in
    subst (λ (n : ℕ). TellsSize size n c.open_with.result) same (c.open_with.ensures.right_size size)
