use Rattle.std.proofs.Common.{ℕ, false, Option, sym, ap, ◌∙◌}
use Rattle.std.specs.Option.{option_map_or}
use Rattle.mixer_effects.specs.Live.{is_origin_seen}
use Rattle.tally.specs.Marks.{is_lit}
use Rattle.tally.specs.Kept.{Kept}
use Rattle.tally.proofs.KeptLemmas.{kept_seen}
use Rattle.tally.proofs.tally.Tally.on.Goals as goal

pub returns : goal.returns
returns c = λ points roots kept.
    c.is_on.ensures
    ∙ ap (λ (tally : Kept). is_lit tally.marks.lit c.origin-origin.result) c.self.view_is
    ∙ kept_seen c.args.plant.now points roots c.args.self.now c.origin-origin.result kept
    ∙ ap (λ (found : Option ℕ). option_map_or (is_origin_seen c.args.plant.now points roots) found false) (sym c.origin-origin.ensures.origin)
