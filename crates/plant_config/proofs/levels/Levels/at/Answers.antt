use Rattle.std.proofs.Common.{inl, inr, sym, arith}
use Rattle.plant_config.proofs.LevelsLemmas.{level_among-none}
use Rattle.plant_config.proofs.levels.Levels.at.Goals as goal

pub returns-else-matrix-lt-MATRICES : goal.returns-else-matrix-lt-MATRICES
returns-else-matrix-lt-MATRICES c =
    rw (← c.self.view_is) (sym (level_among-none c.self.inside.levels.items c.args.matrix c.args.level c.self.invariant.noted.in_grid (λ below.
    elim c.else-matrix-lt-MATRICES.either [
      | inl past ↦ past.1
      | inr past ↦ absurd (omega arith)
    ])))
