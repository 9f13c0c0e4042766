use Rattle.std.proofs.Common.{ℕ, None, ap, ◌∙◌}
use Rattle.plant_config.specs.PlantOfFile.{source_number, remote_at}
use Rattle.plant_config.specs.OfFileInside.{origin_with}
use Rattle.plant_config.proofs.of_file.sources.Origins.origin.Goals as goal

pub returns-in-Some : goal.returns-in-Some
returns-in-Some c =
    let levels = c.args.self.now.levels.now in
    let file = c.args.self.now.file.now in
    let level = c.args.level.now in
    let number = c.args.number in
    let matrix = c.matrix-matrix.result in
    let at = c.level-at.result in
    c.behind.ensures
    ∙ ap (origin_with levels file level number) (c.in-Some.ensures.value ∙ c.args.self.now.known.remotes (matrix, at, number))
    ∙ ap (λ (m : ℕ). origin_with levels file level number (remote_at file.remotes m at number)) c.matrix-matrix.ensures
    ∙ ap (λ (l : ℕ). origin_with levels file level number (remote_at file.remotes level.matrix l number)) c.level-at.ensures

pub returns-in-None : goal.returns-in-None
returns-in-None c =
    let levels = c.args.self.now.levels.now in
    let file = c.args.self.now.file.now in
    let level = c.args.level.now in
    let number = c.args.number in
    let matrix = c.matrix-matrix.result in
    let at = c.level-at.result in
    ap (λ (origin : ℕ). (origin, None)) (c.source_number.ensures
    ∙ ap (λ (m : ℕ). source_number levels m at number) c.matrix-matrix.ensures
    ∙ ap (λ (l : ℕ). source_number levels level.matrix l number) c.level-at.ensures)
    ∙ ap (origin_with levels file level number) (c.in-None.ensures.value ∙ c.args.self.now.known.remotes (matrix, at, number))
    ∙ ap (λ (m : ℕ). origin_with levels file level number (remote_at file.remotes m at number)) c.matrix-matrix.ensures
    ∙ ap (λ (l : ℕ). origin_with levels file level number (remote_at file.remotes level.matrix l number)) c.level-at.ensures
