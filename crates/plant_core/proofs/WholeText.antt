-- The text of a valid state breaks no rule.
use Rattle.std.proofs.Common.{◌≡◌, ℕ, ◌+◌, ◌^◌, ◌<◌, ◌≤◌, ◌==◌, true, List, length, None, refl, sym, ◌∙◌, arith, eq-eqb}
use Rattle.plant_config.specs.Plant.{destinations_of, sources_of}
use Rattle.salvo_groups.specs.Limits.{salvo_limit}
use Rattle.plant_core.specs.State.{State, IsValid}
use Rattle.plant_core.specs.Short.{StaysShort}
use Rattle.plant_core.specs.StateText.{four, counts_text, state_text}
use Rattle.plant_core.specs.StateFields.{four_at}
use Rattle.plant_core.specs.StateFault.{first_broken, count_fields, dest_fields, group_fields, panel_fields, display_fields, first_fault}
use Rattle.plant_core.specs.ReadInside.{part}
use Rattle.plant_core.proofs.FaultLemmas.{in_displays}
use Rattle.plant_core.specs.TextLaws.{TextsAreWhole}
use Rattle.plant_core.proofs.TextParts.{part_within, four_is}
use Rattle.plant_core.proofs.TextPlaces.{StandIn, stand_in}
use Rattle.plant_core.proofs.TextRules.{holds_before, none_in_all}
use Rattle.plant_core.proofs.DestRules.{dest_whole}
use Rattle.plant_core.proofs.GroupRules.{group_whole}
use Rattle.plant_core.proofs.PanelRules.{panel_whole}
use Rattle.plant_core.proofs.DisplayRules.{display_whole}

-- the four counts
count_holds : (bytes text : List ℕ) (place number : ℕ) → number < 2 ^ 32 → part bytes 0 16 ≡ text → place + 4 ≤ 16 → part text place 4 ≡ four number → (four_at bytes place == number) ≡ true
count_holds bytes text place number fits stands inside is =
    eq-eqb (four_at bytes place) number (four_is bytes place number fits (part_within bytes text 0 16 place place 4 stands (omega arith) inside ∙ is))

counts_whole : (bytes : List ℕ) (state : State) → IsValid state → StandIn bytes state → first_broken (count_fields state.plant bytes) ≡ None
unfolding count_fields part
counts_whole bytes state is stand =
    let plant = state.plant in
    let sources_few = is.is_plant.sources in
    let dests_few = is.is_plant.destinations in
    let panels_few = is.is_plant.panels in
    let displays_few : length plant.displays ≤ 4096 = is.is_plant.linked.displays.0.1 in
    let text = counts_text plant in
    holds_before 0 (four_at bytes 0 == sources_of plant) _ (count_holds bytes text 0 (sources_of plant) (omega arith) stand.counts (omega arith) refl)
    (holds_before 4 (four_at bytes 4 == destinations_of plant) _ (count_holds bytes text 4 (destinations_of plant) (omega arith) stand.counts (omega arith) refl)
    (holds_before 8 (four_at bytes 8 == length plant.panels) _ (count_holds bytes text 8 (length plant.panels) (omega arith) stand.counts (omega arith) refl)
    (holds_before 12 (four_at bytes 12 == length plant.displays) None (count_holds bytes text 12 (length plant.displays) (omega arith) stand.counts (omega arith) refl) refl)))

-- all of a text that tells of a valid state
text_whole : (bytes : List ℕ) (state : State) → IsValid state → StaysShort state → StandIn bytes state → None ≡ first_fault state.plant bytes
text_whole bytes state is short stand =
    let plant = state.plant in
    in_displays plant bytes None (sym (counts_whole bytes state is stand))
    (sym (none_in_all (destinations_of plant) (dest_fields plant bytes) (λ dest below. dest_whole bytes state dest is short stand below)))
    (sym (none_in_all salvo_limit (group_fields plant bytes) (λ group below. group_whole bytes state group is short stand below)))
    (sym (none_in_all (length plant.panels) (panel_fields plant bytes) (λ panel below. panel_whole bytes state panel is short stand below)))
    (sym (none_in_all (length plant.displays) (display_fields plant bytes) (λ display below. display_whole bytes state display is stand below)))

pub whole_text : TextsAreWhole
whole_text state is short = sym (text_whole (state_text state) state is short (stand_in state))
