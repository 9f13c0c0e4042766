use Rattle.std.proofs.Common.{sym, ap, ◌∙◌}
use Rattle.plant_file.specs.declared.fault.Section.TheVariants as sections
use Rattle.plant_file.specs.declared.fault.Field.TheVariants as fields
use Rattle.plant_rules.specs.Rules.{twice_at}
use Rattle.plant_rules.specs.RulesInside.{first_place, earlier}
use Rattle.plant_rules.proofs.PlaceLemmas.{first_place-devices}
use Rattle.plant_rules.proofs.twice.device_place.Goals as goal

pub returns : goal.returns
returns c =
    let names = c.as_slice.ensures.value ∙ c.in_ok-names.ensures in
    let name = c.in_ok-name.ensures ∙ ap (first_place sections.Device (twice_at fields.Name (λ name. name))) names in
    c.earlier_of.ensures ∙ (λ i. earlier (name i) (c.in_ok-output.ensures i)) ∙ sym (first_place-devices c.args.devices.now)
