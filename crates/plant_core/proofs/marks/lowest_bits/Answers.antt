use Rattle.std.proofs.Common.{ℕ, ap, ◌∙◌}
use Rattle.std.specs.Int.{bit_at}
use Rattle.plant_core.proofs.MarkLemmas.{lowest_are, bit_beside}
use Rattle.plant_core.proofs.marks.lowest_bits.Goals as goal

pub returns : goal.returns
returns c = λ at below. ap (λ (bits : ℕ). bit_at bits at) (lowest_are c.args.eight) ∙ bit_beside 8 c.args.eight at below
