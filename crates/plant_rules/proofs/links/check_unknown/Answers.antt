-- Where six sections have no fault, that of the seventh one is the first.
use Rattle.std.proofs.Common.{◌∙◌, sym}
use Rattle.plant_rules.specs.Links.{unknown_faults}
use Rattle.plant_rules.proofs.Checks.{seventh_check}
use Rattle.plant_rules.proofs.links.check_unknown.Goals as goal

pub returns : goal.returns
unfolding unknown_faults
returns c =
    let file = c.file-file.ensures in
    (rw (c.displays.ensures, file) at c.check_section-7.ensures)
    ∙ sym (seventh_check _ _ _ _ _ _ _
    (sym (rw (c.remotes.ensures, file) at c.check_section.ensures) ∙ c.in_ok-check_section.was)
    (sym (rw (c.pools.ensures, file) at c.check_section-2.ensures) ∙ c.in_ok-check_section-2.was)
    (sym (rw (c.devices.ensures, file) at c.check_section-3.ensures) ∙ c.in_ok-check_section-3.was)
    (sym (rw (c.buses.ensures, file) at c.check_section-4.ensures) ∙ c.in_ok-check_section-4.was)
    (sym (rw (c.air.ensures, file) at c.check_section-5.ensures) ∙ c.in_ok-check_section-5.was)
    (sym (rw (c.preview.ensures, file) at c.check_section-6.ensures) ∙ c.in_ok-check_section-6.was))
