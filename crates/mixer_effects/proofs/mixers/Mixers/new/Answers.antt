use Rattle.std.proofs.Common.{◌≤◌, List, slice_get, length, arith, ap, ◌∙◌}
use Rattle.std.specs.Option.{option_and_then}
use Rattle.std.specs.FinMap.{get}
use Rattle.plant_config.specs.declared.records.Bus.{Bus}
use Rattle.mixer_effects.proofs.NumberLemmas.{numbers_all}
use Rattle.mixer_effects.proofs.TableLemmas.{fed-device_from}
use Rattle.mixer_effects.proofs.SpanLemmas.{spans_none, spans_all}
use Rattle.mixer_effects.proofs.mixers.Mixers.new.Goals as goal

pub loop-number-init : goal.loop-number-init
loop-number-init c = record {
  spans = spans_none c.args.plant.now c.in_ok-span_by_switch.span_by_switch.entries c.new-switched.result.items c.in_ok-span_by_switch.ensures.empty c.new-switched.ensures.items;
  room = c.in_ok-span_by_switch.ensures.room ∙ c.destination_count.ensures.count;
}

pub put_switch-requires-clause-room : goal.put_switch-requires-clause-room
put_switch-requires-clause-room c = c.loop-number.invariant.room

pub put_switch-requires-clause-spans : goal.put_switch-requires-clause-spans
put_switch-requires-clause-spans c = c.loop-number.invariant.spans

pub returns : goal.returns
returns c =
    let plant = c.args.plant.now in
    let few : length plant.buses ≤ c.loop-number.number = omega (arith, ap length c.buses-number-end.ensures.buses, c.loop-number-test.false) in
    record {
      is_plant = c.buses-number-end.ensures.plant;
      devices = c.in_ok-devices.ensures.items_if_clones_equal (λ x y same. same) ∙ c.devices.ensures.devices;
      buses = c.in_ok-buses.ensures.items_if_clones_equal (λ x y same. same) ∙ c.buses.ensures.buses;
      numbers = numbers_all plant c.in_ok-number_by_source.number_by_source.entries c.buses-number-end.ensures.plant c.in_ok-number_by_source.ensures;
      by_dest = λ dest. ap (λ (buses : List Bus). option_and_then (slice_get buses) (get c.in_ok-bus_by_dest.bus_by_dest.entries dest)) (c.in_ok-buses.ensures.items_if_clones_equal (λ x y same. same) ∙ c.buses.ensures.buses) ∙ c.in_ok-bus_by_dest.ensures dest;
      by_output = λ source. c.in_ok-device_by_output.ensures source ∙ fed-device_from plant source;
      switched = λ dest. spans_all plant c.loop-number.number c.loop-number.span_by_switch.entries c.loop-number.switched.items few c.loop-number.invariant.spans dest;
    }
