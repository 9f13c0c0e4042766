use Rattle.std.proofs.Common.{◌≡◌, ◌++◌, take}
use Rattle.plant_config.specs.OfFileInside.{sources_from}
use Rattle.plant_config.proofs.of_file.sources.Origins.add_sources.Given as goal

abbrev pub invariant-loop-number : goal.invariant-loop-number
invariant-loop-number l =
    l.made.items ≡ l.initial.made.items ++ sources_from l.self.levels.now l.self.file.now l.level (take l.number l.level.source_names)
