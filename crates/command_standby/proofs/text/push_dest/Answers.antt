use Rattle.std.proofs.Common.{◌<◌, ◌++◌, ◌∙◌, List, ℕ, sym, ap, subst₂, string_bytes}
use Rattle.std.specs.Fmt.{decimal}
use Rattle.plant_config.specs.Plant.{PlantData, sources_of}
use Rattle.plant_core.proofs.Validity.{IsCrosspoint-below, source_of-spot}
use Rattle.command_standby.proofs.TextLemmas.{at_parts, dest_shown}
use Rattle.command_standby.proofs.text.push_dest.Goals as goal

pub source_number-source-requires : goal.source_number-source-requires
source_number-source-requires c =
    let state = c.args.state.now in
    let valid = c.source_at.ensures.valid in
    let spot = source_of-spot state.crosspoints c.args.dest c.in-Some.source (sym c.in-Some.ensures.source) in
    let below = IsCrosspoint-below state.plant c.args.dest spot.0.source valid.is_plant (valid.is_crosspoint _ spot.0 spot.1) in
    subst₂ (λ (n : ℕ) (p : PlantData). n < sources_of p) spot.2 c.requires.plant below

pub returns : goal.returns
returns c =
    let at = c.point-at.result in
    let number = c.source_number-source.result in
    c.in_ok-push_str.ensures.bytes
    ∙ ap (λ (more : List ℕ). string_bytes c.args.text.now ++ more)
    (c.as_str.ensures.value ∙ c.in_ok-line.ensures.ok ∙ at_parts (decimal at.matrix) (decimal at.level) (decimal at.dest) (decimal number)
    ∙ sym (dest_shown c.args.state.now c.args.plant.now c.args.dest c.in-Some.source number at c.requires.plant c.point-at.ensures (sym c.in-Some.ensures.source) c.source_number-source.ensures.number))
