use Rattle.std.proofs.Common.{All, List, map, flat_map, ap, sym, subst, ◌∙◌}
use Rattle.plant_file.specs.FileData.{LevelData}
use Rattle.plant_config.specs.declared.records.Level.{Level}
use Rattle.plant_config.specs.PlantOfFile.{plant_of_file, levels_of, sources_at, pool_in}
use Rattle.plant_config.specs.Limits.{all_destinations_limit, all_sources_limit}
use Rattle.plant_config.specs.Plant.{dest_numbers, source_numbers}
use Rattle.plant_config.specs.LevelsInside.{IsInGrid, AreNumbered}
use Rattle.plant_config.proofs.LevelsOfFile.{each_level, length-levels_of, dests_follow, sources_follow, all_dests, all_sources}
use Rattle.plant_config.proofs.OneMore.{same_2}
use Rattle.plant_config.proofs.of_file.groups.routing_of.Goals as goal

pub of-requires-2-clause-in_grid : goal.of-requires-2-clause-in_grid
of-requires-2-clause-in_grid c =
    let in_grid : All IsInGrid (levels_of c.args.file.now) = λ k d inside. let level = each_level c.args.file.now c.requires.file k d inside in (level.matrix, level.level) in
    subst (All IsInGrid) (sym c.requires.numbered) in_grid

pub of-requires-2-clause-few : goal.of-requires-2-clause-few
of-requires-2-clause-few c = rw (c.requires.numbered, length-levels_of c.args.file.now c.requires.file) c.requires.file.ranges.levels.0.1

pub of-requires-2-clause-dests : goal.of-requires-2-clause-dests
of-requires-2-clause-dests c =
    let file = c.args.file.now in
    subst (AreNumbered dest_numbers all_destinations_limit) (sym c.requires.numbered) (record { follow = dests_follow file c.requires.file; few = rw (all_dests file c.requires.file) c.requires.file.destinations })

pub of-requires-2-clause-sources : goal.of-requires-2-clause-sources
of-requires-2-clause-sources c =
    let file = c.args.file.now in
    subst (AreNumbered source_numbers all_sources_limit) (sym c.requires.numbered) (record { follow = sources_follow file c.requires.file; few = rw (all_sources file c.requires.file) c.requires.file.sources })

pub returns : goal.returns
unfolding plant_of_file
returns c = record {
  levels = c.in_ok-of.ensures ∙ c.requires.numbered;
  sources = c.in_ok-sources.ensures ∙ same_2 (λ (among : List Level) (ordered : List LevelData). flat_map (sources_at among c.args.file.now) ordered) (c.as_slice.ensures.value ∙ c.requires.numbered) c.requires.ordered;
  dest_names = c.in_ok-dest_names.ensures ∙ ap (flat_map (λ (level : LevelData). level.destination_names)) c.requires.ordered;
  pools = c.of.ensures ∙ c.in_ok-pools.ensures ∙ ap (map pool_in) c.pools.ensures;
}
