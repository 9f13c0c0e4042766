use Rattle.std.proofs.Common.{◌≡◌, ◌-◌, length, slice_get, List, Some, sym, ap, subst, ◌∙◌, arith}
use Rattle.std.specs.FinMap.{insert}
use Rattle.std.proofs.lemmas.Option.{slice_get_read}
use Rattle.plant_config.specs.declared.records.Bus.{Bus}
use Rattle.mixer_effects.specs.WiringInside.{HaveBusesFrom}
use Rattle.mixer_effects.proofs.PlantLemmas.{bus_dest_below}
use Rattle.mixer_effects.proofs.TableLemmas.{buses_none, buses_more, buses_all}
use Rattle.mixer_effects.proofs.mixers.buses_by_dest.Goals as goal

pub loop-number-init : goal.loop-number-init
loop-number-init c =
    let plant = c.args.plant.now in
    record {
      have = subst (λ (buses : List Bus). HaveBusesFrom plant (length buses) c.in_ok-by_dest.by_dest.entries) (sym c.buses-buses.ensures.buses) (buses_none plant c.in_ok-by_dest.by_dest.entries c.in_ok-by_dest.ensures.empty);
      room = c.in_ok-by_dest.ensures.room ∙ c.destination_count.ensures.count;
    }

pub set-requires : goal.set-requires
set-requires c =
    let plant = c.args.plant.now in
    let bus = c.index-buses-number.result in
    let at : slice_get c.buses-buses.result.now (c.loop-number.number - 1) ≡ Some bus = slice_get_read c.buses-buses.result.now (length c.buses-buses.result.now) (c.loop-number.number - 1) bus (omega arith) (omega (arith, c.loop-number-test.true, c.loop-number.auto.number)) c.index-buses-number.is in
    let there : slice_get plant.buses (c.loop-number.number - 1) ≡ Some bus = subst (λ (buses : List Bus). slice_get buses (c.loop-number.number - 1) ≡ Some bus) c.buses-buses.ensures.buses at in
    let dest : c.get.result ≡ bus.dest = c.get.ensures ∙ ap (λ (bus : Bus). bus.dest) (sym c.index-buses-number.is) in
    omega (arith, bus_dest_below plant c.buses-buses.ensures.plant (c.loop-number.number - 1) bus there, dest, c.loop-number.invariant.room)

pub loop-number-preserved : goal.loop-number-preserved
loop-number-preserved c =
    let plant = c.args.plant.now in
    let bus = c.index-buses-number.result in
    let at : slice_get c.buses-buses.result.now (c.loop-number.number - 1) ≡ Some bus = slice_get_read c.buses-buses.result.now (length c.buses-buses.result.now) (c.loop-number.number - 1) bus (omega arith) (omega (arith, c.loop-number-test.true, c.loop-number.auto.number)) c.index-buses-number.is in
    let there : slice_get plant.buses (c.loop-number.number - 1) ≡ Some bus = subst (λ (buses : List Bus). slice_get buses (c.loop-number.number - 1) ≡ Some bus) c.buses-buses.ensures.buses at in
    let dest : c.get.result ≡ bus.dest = c.get.ensures ∙ ap (λ (bus : Bus). bus.dest) (sym c.index-buses-number.is) in
    record {
      have = buses_more plant c.loop-number.number (c.loop-number.number - 1) c.loop-number.by_dest.entries c.set.new.self.entries bus (omega (arith, c.loop-number-test.true)) there c.loop-number.invariant.have
          (c.set.ensures.entries ∙ (λ i. insert c.loop-number.by_dest.entries (dest i) (c.of.ensures i)));
      room = c.set.ensures.room ∙ c.loop-number.invariant.room;
    }

pub returns : goal.returns
returns c = buses_all c.args.plant.now c.loop-number.number c.loop-number.by_dest.entries c.loop-number-test.false c.loop-number.invariant.have
