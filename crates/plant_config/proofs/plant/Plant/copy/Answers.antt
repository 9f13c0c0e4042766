use Rattle.std.proofs.Common.{ap, sym, subst, ◌∙◌}
use Rattle.plant_config.specs.IsPlant.{IsPlant}
use Rattle.plant_config.specs.PlantInside.{data_of}
use Rattle.plant_config.proofs.PartsLemmas.{data_of-parts, own_routing, own_mixing, own_service}
use Rattle.plant_config.proofs.plant.Plant.copy.Goals as goal

pub returns-clause-equal : goal.returns-clause-equal
returns-clause-equal c =
    let parts = c.self.inside.parts.value in
    let own = data_of parts in
    ap data_of c.in_ok-new.ensures.ok
    ∙ data_of-parts own _ (c.in_ok-copy.ensures own (own_routing _ parts c.deref.ensures)) (c.in_ok-copy-2.ensures own (own_mixing _ parts c.deref-2.ensures)) (c.in_ok-copy-3.ensures own (own_service _ parts c.deref-3.ensures))
    ∙ c.self.view_is

pub invariant_of-result : goal.invariant_of-result
invariant_of-result c = subst IsPlant (sym (returns-clause-equal c ∙ sym c.self.view_is)) c.self.invariant
