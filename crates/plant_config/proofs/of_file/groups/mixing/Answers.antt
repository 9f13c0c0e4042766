use Rattle.std.proofs.Common.{List, map, ◌∙◌}
use Rattle.plant_file.specs.declared.entries.RootEntry.{RootEntry}
use Rattle.plant_config.specs.declared.records.Level.{Level}
use Rattle.plant_config.specs.PlantOfFile.{plant_of_file, root_in, devices_in, buses_in}
use Rattle.plant_config.proofs.OneMore.{same_2, same_3}
use Rattle.plant_config.proofs.of_file.groups.mixing.Goals as goal

pub returns : goal.returns
unfolding plant_of_file
returns c =
    let roots = λ (among : List Level) (entries : List RootEntry). map (root_in among) entries in
    record {
      devices = c.in_ok-devices.ensures ∙ same_3 devices_in c.requires.numbered c.devices-devices.ensures c.buses-buses.ensures;
      buses = c.in_ok-buses.ensures ∙ same_3 buses_in c.requires.numbered c.devices-devices.ensures c.buses-buses.ensures;
      air = c.in_ok-roots.ensures ∙ same_2 roots c.requires.numbered c.air.ensures;
      preview = c.in_ok-roots-2.ensures ∙ same_2 roots c.requires.numbered c.preview.ensures;
    }
