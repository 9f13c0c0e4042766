use Rattle.std.proofs.Common.{ℕ, ◌++◌, take, ap, sym, ◌∙◌}
use Rattle.plant_config.specs.PlantOfFile.{device_buses, buses_in}
use Rattle.plant_config.proofs.OfFileLemmas.{buses_in-more}
use Rattle.plant_config.proofs.of_file.devices.buses.Goals as goal

pub loop-number-preserved : goal.loop-number-preserved
loop-number-preserved c =
    let levels = c.args.levels.now in
    let devices = c.args.devices.now in
    let buses = c.args.buses.now in
    let at = c.loop-number.number in
    let device = c.index-devices-number.result in
    let before = buses_in levels (take at devices) buses in
    c.in_ok-add_buses.ensures ∙ ap (λ front. front ++ device_buses levels buses c.of.result device) c.loop-number.invariant
    ∙ ap (λ (number : ℕ). before ++ device_buses levels buses number device) c.of.ensures
    ∙ ap (λ item. before ++ device_buses levels buses at item) c.index-devices-number.is
    ∙ sym (buses_in-more levels devices buses at device c.loop-number-test.true)
