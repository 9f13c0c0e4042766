use Rattle.std.proofs.Common.{ℕ, ◌+◌, [], ◌∷◌, ◌++◌, length, take, sum_by, ap, sym, ◌∙◌, arith}
use Rattle.std.proofs.lemmas.List.Sums.{sum_by_more}
use Rattle.plant_file.specs.declared.entries.DeviceEntry.{DeviceEntry}
use Rattle.plant_config.specs.declared.records.Device.{Device}
use Rattle.plant_config.specs.PlantOfFile.{named_buses, device_in}
use Rattle.plant_config.specs.OfFileInside.{devices_from}
use Rattle.plant_config.proofs.OfFileLemmas.{devices_from-more, device_in-is}
use Rattle.plant_config.proofs.of_file.devices.devices.Goals as goal

pub loop-device-preserved : goal.loop-device-preserved
loop-device-preserved c =
    let levels = c.args.levels.now in
    let devices = c.args.devices.now in
    let buses = c.args.buses.now in
    let at = c.loop-device.device-index in
    let device = c.device-item.result in
    let count = c.bus_count-count.result in
    let new : Device = record { output = c.source_number.result; first_bus = c.loop-device.first_bus; buses = count } in
    let has = λ (other : DeviceEntry). length (named_buses buses other) in
    let made = device_in-is levels devices buses at device _ _ _ c.source_number.ensures c.loop-device.invariant.first c.bus_count-count.ensures.count in
    let before = devices_from levels devices buses (take at devices) in
    record {
      made =
          c.in_ok-push.ensures.items ∙ ap (λ front. front ++ new ∷ []) c.loop-device.invariant.made
          ∙ ap (λ last. before ++ last ∷ []) made
          ∙ ap (λ item. before ++ device_in levels devices buses at item ∷ []) c.device-item.is
          ∙ sym (devices_from-more levels devices buses at device c.loop-device-test.true);
      first =
          ap (λ (sum : ℕ). sum + count) c.loop-device.invariant.first
          ∙ ap (λ (last : ℕ). sum_by has (take at devices) + last) (c.bus_count-count.ensures.count ∙ ap has c.device-item.is)
          ∙ sym (sum_by_more has devices at device c.loop-device-test.true);
      low = omega arith;
    }
