use Rattle.std.proofs.Common.{◌≡◌, ◌+◌, slice_get, List, Some, None, sym, ap, subst, ◌∙◌}
use Rattle.plant_config.specs.declared.records.Device.{Device}
use Rattle.plant_config.specs.declared.records.Bus.{Bus}
use Rattle.mixer_effects.specs.Wiring.{IsWiringOf}
use Rattle.mixer_effects.specs.GraphData.{GraphData}
use Rattle.mixer_effects.proofs.PlaceLemmas.{bus_found, bus_past, no_bus}
use Rattle.mixer_effects.proofs.graph.Graph.bus.Goals as goal

pub returns-in_err-device-clause-bus : goal.returns-in_err-device-clause-bus
returns-in_err-device-clause-bus g c = λ plant wired.
    let own : IsWiringOf plant c.self.inside.mixers.now = subst (λ (graph : GraphData). IsWiringOf plant graph.wiring) (sym c.self.view_is) wired in
    let none : slice_get plant.devices c.args.device ≡ None = ap (λ (devices : List Device). slice_get devices c.args.device) (sym own.devices) ∙ sym c.in_err-device.ensures in
    c.from_residual.ensures ∙ sym (no_bus plant own.is_plant c.args.device c.args.place none)

pub returns-then-place-device-clause-bus : goal.returns-then-place-device-clause-bus
returns-then-place-device-clause-bus g c = λ plant wired.
    let own : IsWiringOf plant c.self.inside.mixers.now = subst (λ (graph : GraphData). IsWiringOf plant graph.wiring) (sym c.self.view_is) wired in
    let device = c.in_ok-device.device in
    let at : slice_get plant.devices c.args.device ≡ Some device = ap (λ (devices : List Device). slice_get devices c.args.device) (sym own.devices) ∙ sym c.in_ok-device.ensures in
    sym (bus_past plant own.is_plant c.args.device c.args.place device at c.if-place-device.true)

pub returns-in_err-bus-clause-bus : goal.returns-in_err-bus-clause-bus
returns-in_err-bus-clause-bus g c = λ plant wired.
    let own : IsWiringOf plant c.self.inside.mixers.now = subst (λ (graph : GraphData). IsWiringOf plant graph.wiring) (sym c.self.view_is) wired in
    let device = c.in_ok-device.device in
    let at : slice_get plant.devices c.args.device ≡ Some device = ap (λ (devices : List Device). slice_get devices c.args.device) (sym own.devices) ∙ sym c.in_ok-device.ensures in
    let there : slice_get plant.buses (device.first_bus + c.args.place) ≡ None = ap (λ (buses : List Bus). slice_get buses (device.first_bus + c.args.place)) (sym own.buses) ∙ sym c.in_err-bus.ensures in
    c.from_residual-in_err-bus.ensures
    ∙ bus_found plant own.is_plant c.args.device c.args.place device None at c.if-place-device.false there

pub returns-clause-bus : goal.returns-clause-bus
returns-clause-bus g c = λ plant wired.
    let own : IsWiringOf plant c.self.inside.mixers.now = subst (λ (graph : GraphData). IsWiringOf plant graph.wiring) (sym c.self.view_is) wired in
    let device = c.in_ok-device.device in
    let at : slice_get plant.devices c.args.device ≡ Some device = ap (λ (devices : List Device). slice_get devices c.args.device) (sym own.devices) ∙ sym c.in_ok-device.ensures in
    let there : slice_get plant.buses (device.first_bus + c.args.place) ≡ Some c.in_ok-bus.bus = ap (λ (buses : List Bus). slice_get buses (device.first_bus + c.args.place)) (sym own.buses) ∙ sym c.in_ok-bus.ensures in
    bus_found plant own.is_plant c.args.device c.args.place device (Some c.in_ok-bus.bus) at c.if-place-device.false there
