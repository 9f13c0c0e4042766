use Rattle.std.proofs.Common.{◌≡◌, ◌-◌, length, slice_get, List, Some, sym, ap, subst, ◌∙◌, arith}
use Rattle.std.specs.FinMap.{insert}
use Rattle.std.proofs.lemmas.Option.{slice_get_read}
use Rattle.plant_config.specs.declared.records.Device.{Device}
use Rattle.mixer_effects.specs.WiringInside.{HaveDevicesFrom}
use Rattle.mixer_effects.proofs.PlantLemmas.{output_below}
use Rattle.mixer_effects.proofs.TableLemmas.{devices_none, devices_more, devices_all}
use Rattle.mixer_effects.proofs.mixers.devices_by_output.Goals as goal

pub loop-number-init : goal.loop-number-init
loop-number-init c =
    let plant = c.args.plant.now in
    record {
      have = subst (λ (devices : List Device). HaveDevicesFrom plant (length devices) c.in_ok-by_output.by_output.entries) (sym c.devices-devices.ensures.devices) (devices_none plant c.in_ok-by_output.by_output.entries c.in_ok-by_output.ensures.empty);
      room = c.in_ok-by_output.ensures.room ∙ c.source_count.ensures.count;
    }

pub set-requires : goal.set-requires
set-requires c =
    let plant = c.args.plant.now in
    let device = c.index-devices-number.result in
    let at : slice_get c.devices-devices.result.now (c.loop-number.number - 1) ≡ Some device = slice_get_read c.devices-devices.result.now (length c.devices-devices.result.now) (c.loop-number.number - 1) device (omega arith) (omega (arith, c.loop-number-test.true, c.loop-number.auto.number)) c.index-devices-number.is in
    let there : slice_get plant.devices (c.loop-number.number - 1) ≡ Some device = subst (λ (devices : List Device). slice_get devices (c.loop-number.number - 1) ≡ Some device) c.devices-devices.ensures.devices at in
    let output : c.get.result ≡ device.output = c.get.ensures ∙ ap (λ (device : Device). device.output) (sym c.index-devices-number.is) in
    omega (arith, output_below plant c.devices-devices.ensures.plant (c.loop-number.number - 1) device there, output, c.loop-number.invariant.room)

pub loop-number-preserved : goal.loop-number-preserved
loop-number-preserved c =
    let plant = c.args.plant.now in
    let device = c.index-devices-number.result in
    let at : slice_get c.devices-devices.result.now (c.loop-number.number - 1) ≡ Some device = slice_get_read c.devices-devices.result.now (length c.devices-devices.result.now) (c.loop-number.number - 1) device (omega arith) (omega (arith, c.loop-number-test.true, c.loop-number.auto.number)) c.index-devices-number.is in
    let there : slice_get plant.devices (c.loop-number.number - 1) ≡ Some device = subst (λ (devices : List Device). slice_get devices (c.loop-number.number - 1) ≡ Some device) c.devices-devices.ensures.devices at in
    let output : c.get.result ≡ device.output = c.get.ensures ∙ ap (λ (device : Device). device.output) (sym c.index-devices-number.is) in
    record {
      have = devices_more plant c.loop-number.number (c.loop-number.number - 1) c.loop-number.by_output.entries c.set.new.self.entries device (omega (arith, c.loop-number-test.true)) there c.loop-number.invariant.have
          (c.set.ensures.entries ∙ (λ i. insert c.loop-number.by_output.entries (output i) (c.of.ensures i)));
      room = c.set.ensures.room ∙ c.loop-number.invariant.room;
    }

pub returns : goal.returns
returns c = devices_all c.args.plant.now c.loop-number.number c.loop-number.by_output.entries c.loop-number-test.false c.loop-number.invariant.have
