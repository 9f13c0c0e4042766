use Rattle.std.proofs.Common.{ℕ, sym, ap, subst, ◌∙◌, arith}
use Rattle.plant_core.specs.ReadInside.{owner_in, HaveBelow}
use Rattle.plant_config.specs.Plant.{destinations_of}
use Rattle.plant_core.proofs.DuePolls.{kept_start}
use Rattle.plant_core.proofs.DestsCan.{read_crosspoints, read_ties}
use Rattle.plant_core.proofs.StateRead.{AreRead, read_valid, read_short, read_text}
use Rattle.plant_core.proofs.state.PlantState.of_text.Goals as goal

pub of-requires-clause-points : goal.of-requires-clause-points
of-requires-clause-points c =
    read_crosspoints c.args.plant.now c.args.bytes.now c.in_ok-crosspoints.crosspoints.entries c.destination_count-destinations.ensures.plant c.requires.whole c.in_ok-crosspoints.ensures.each

pub of-requires-clause-ties : goal.of-requires-clause-ties
of-requires-clause-ties c = read_ties c.args.plant.now c.args.bytes.now c.in_ok-crosspoints.crosspoints.entries c.requires.whole c.in_ok-crosspoints.ensures.each

pub invariant_of-result : goal.invariant_of-result
invariant_of-result c =
    let owned : HaveBelow (destinations_of c.args.plant.now) (owner_in c.args.bytes.now) c.in_ok-protects.protects.entries =
    subst (λ (count : ℕ). HaveBelow count (owner_in c.args.bytes.now) c.in_ok-protects.protects.entries) c.destination_count-destinations.ensures.count c.in_ok-protects.ensures.each in
    let are : AreRead c.args.plant.now c.args.bytes.now c.in_ok-crosspoints.crosspoints c.in_ok-protects.protects c.in_ok-groups.groups c.in_ok-notices.notices c.in_ok-shown.shown = record {
      is_plant = c.copy.ensures.plant;
      whole = c.requires.whole;
      spots = c.in_ok-crosspoints.ensures.each;
      devices = owned;
      salvos = c.in_ok-groups.ensures;
      notices = c.in_ok-notices.ensures;
      lamps = c.in_ok-shown.ensures;
    } in
    record {
      valid = rw c.in_ok-plant.ensures.equal (read_valid c.args.plant.now c.args.bytes.now c.in_ok-crosspoints.crosspoints c.in_ok-protects.protects c.in_ok-groups.groups c.in_ok-notices.notices c.in_ok-shown.shown are);
      short = rw c.in_ok-plant.ensures.equal (read_short c.args.plant.now c.args.bytes.now c.in_ok-crosspoints.crosspoints c.in_ok-protects.protects c.in_ok-groups.groups c.in_ok-notices.notices c.in_ok-shown.shown are);
      room = record {
        crosspoints = rw c.in_ok-plant.ensures.equal c.in_ok-crosspoints.ensures.kept;
        protects = c.in_ok-protects.ensures.room ∙ c.destination_count-destinations.ensures.count ∙ ap destinations_of (sym c.in_ok-plant.ensures.equal);
      };
      beside = rw c.in_ok-plant.ensures.equal c.in_ok-indexes.ensures.tables;
      due = rw c.in_ok-plant.ensures.equal (kept_start c.args.plant.now _ _ _ c.in_ok-indexes.ensures.due c.in_ok-indexes.ensures.all);
    }

pub returns-clause-text : goal.returns-clause-text
returns-clause-text c =
    let owned : HaveBelow (destinations_of c.args.plant.now) (owner_in c.args.bytes.now) c.in_ok-protects.protects.entries =
    subst (λ (count : ℕ). HaveBelow count (owner_in c.args.bytes.now) c.in_ok-protects.protects.entries) c.destination_count-destinations.ensures.count c.in_ok-protects.ensures.each in
    let are : AreRead c.args.plant.now c.args.bytes.now c.in_ok-crosspoints.crosspoints c.in_ok-protects.protects c.in_ok-groups.groups c.in_ok-notices.notices c.in_ok-shown.shown = record {
      is_plant = c.copy.ensures.plant;
      whole = c.requires.whole;
      spots = c.in_ok-crosspoints.ensures.each;
      devices = owned;
      salvos = c.in_ok-groups.ensures;
      notices = c.in_ok-notices.ensures;
      lamps = c.in_ok-shown.ensures;
    } in
    rw c.in_ok-plant.ensures.equal (read_text c.args.plant.now c.args.bytes.now c.in_ok-crosspoints.crosspoints c.in_ok-protects.protects c.in_ok-groups.groups c.in_ok-notices.notices c.in_ok-shown.shown (λ place. omega (arith, c.type_inv.bytes place)) c.requires.size are)
