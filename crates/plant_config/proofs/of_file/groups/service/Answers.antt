use Rattle.std.proofs.Common.{All, List, map, ap, sym, subst, ◌∙◌}
use Rattle.std.proofs.lemmas.List.Elements.{All-map}
use Rattle.plant_file.specs.declared.entries.DisplayEntry.{DisplayEntry}
use Rattle.plant_config.specs.declared.records.Level.{Level}
use Rattle.plant_config.specs.PlantOfFile.{plant_of_file, display_in, panel_in}
use Rattle.plant_config.specs.DisplaysInside.{IsOnScreen}
use Rattle.plant_config.proofs.OneMore.{same_2}
use Rattle.plant_config.proofs.of_file.groups.service.Goals as goal

pub of-requires : goal.of-requires
of-requires c =
    let entries = c.args.file.now.displays in
    let levels = c.args.levels.now in
    let within = All-map IsOnScreen (display_in levels) entries (λ k d inside. (c.requires.file.ranges.displays.1 k d inside).screen.1) in
    subst (All IsOnScreen) (sym (c.in_ok-displays.ensures ∙ ap (map (display_in levels)) c.displays.ensures)) within

pub returns : goal.returns
unfolding plant_of_file
returns c = record {
  title = c.in_ok-copy.ensures ∙ c.title.ensures;
  server = c.in_ok-copy-2.ensures ∙ c.server.ensures;
  displays = c.in_ok-of.ensures ∙ c.in_ok-displays.ensures ∙ same_2 (λ (among : List Level) (entries : List DisplayEntry). map (display_in among) entries) c.requires.numbered c.displays.ensures;
  panels = c.in_ok-panels.ensures ∙ ap (map panel_in) c.panels.ensures;
}
