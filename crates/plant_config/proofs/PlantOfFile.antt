-- A file without a fault gives a plant.
use Rattle.std.proofs.Common.{nat_eq, [], ◌∷◌, All, map, sym, ap, subst}
use Rattle.std.specs.List.{IsDistinct}
use Rattle.std.proofs.lemmas.List.{length-map}
use Rattle.std.proofs.lemmas.List.Elements.{All-map}
use Rattle.plant_file.specs.FileData.{FileData}
use Rattle.plant_rules.specs.Rules.{panel_key}
use Rattle.plant_rules.specs.IsFile.{IsFile}
use Rattle.plant_config.specs.IsPlant.{IsPanel, IsPlant}
use Rattle.plant_config.specs.PlantOfFile.{panel_in, plant_of_file}
use Rattle.plant_config.proofs.Differ.{numbers_differ}
use Rattle.plant_config.proofs.LevelsOfFile.{map-map, each_level, levels_rise, dests_follow, sources_follow, length-levels_of, all_dests, all_sources}
use Rattle.plant_config.proofs.NamesOfFile.{are_named}
use Rattle.plant_config.proofs.LinksOfFile.{are_linked}

module _ (file : FileData) (is : IsFile file) where
  each_panel : All IsPanel (map panel_in file.panels)
  each_panel = All-map IsPanel panel_in file.panels (λ k d inside.
      let panel = is.ranges.panels.1 k d inside in
      record { device = panel.device; port = panel.port.0 })

  ports_differ : IsDistinct nat_eq (map (λ panel. panel.port) (map panel_in file.panels))
  ports_differ =
      subst (IsDistinct nat_eq) (sym (map-map _ panel_in file.panels))
      (numbers_differ panel_key (λ panel. Unit {0}) (λ panel. panel.port) (λ one other is_one is_other same. ap (λ port. port ∷ []) same) file.panels (λ k d inside. tt) is.ports_differ)

  pub is_plant : IsPlant (plant_of_file file)
  unfolding plant_of_file
  is_plant = record {
    each_level = each_level file is;
    in_order = levels_rise file is;
    dests_numbered = dests_follow file is;
    sources_numbered = sources_follow file is;
    some_level = rw (length-levels_of file is) is.ranges.levels.0.0;
    levels = rw (length-levels_of file is) is.ranges.levels.0.1;
    sources = rw (all_sources file is) is.sources;
    destinations = rw (all_dests file is) is.destinations;
    each_panel = each_panel;
    some_panel = rw (length-map file.panels panel_in) is.ranges.panels.0.0;
    panels = rw (length-map file.panels panel_in) is.ranges.panels.0.1;
    ports_differ = ports_differ;
    title = is.ranges.title;
    server = is.ranges.server;
    named = are_named file is;
    linked = are_linked file is;
  }
