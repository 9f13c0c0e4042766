use Rattle.std.proofs.Common.{◌≡◌, List, flat_map, IfOk, subst₂}
use Rattle.plant_file.specs.FileData.{FileData}
use Rattle.plant_config.specs.declared.records.Level.{Level}
use Rattle.plant_config.specs.PlantOfFile.{sources_at}
use Rattle.plant_config.specs.OfFileInside.{shown}
use Rattle.plant_config.proofs.of_file.sources.sources.Goals as goal

pub returns : goal.returns
returns c =
    subst₂ (λ (levels : List Level) (file : FileData). IfOk c.sources.result (λ made. made.items ≡ flat_map (sources_at levels file) (shown c.args.ordered.now)))
    c.in_ok-origins.ensures.levels c.in_ok-origins.ensures.file c.sources.ensures
