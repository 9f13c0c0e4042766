use Rattle.std.proofs.Common.{append_assoc}
use Rattle.plant_file.proofs.fault_text.place_text.Goals as goal

pub returns : goal.returns
returns c = rw (c.in_ok-text.ensures.ok, c.key-section.ensures, c.key-field.ensures) (simp append_assoc)
