-- Where the texts of a state's parts stand in its text.
use Rattle.std.proofs.Common.{◌≡◌, ℕ, ◌+◌, ◌*◌, ◌<◌, ◌≤◌, List, ◌++◌, length, refl, ◌∙◌, arith}
use Rattle.std.proofs.lemmas.List.{length-append}
use Rattle.plant_config.specs.Plant.{PlantData, destinations_of}
use Rattle.salvo_groups.specs.Limits.{salvo_limit}
use Rattle.salvo_groups.specs.Groups.{group_of}
use Rattle.change_boards.specs.Notices.{board_of}
use Rattle.change_boards.specs.Shown.{last}
use Rattle.plant_core.specs.State.{State}
use Rattle.plant_core.specs.StateText.{texts_of, counts_text, dest_text, group_text, panel_text, display_text, state_text}
use Rattle.plant_core.specs.StateFields.{place_of_dest, place_of_group, place_of_panel, place_of_display}
use Rattle.plant_core.specs.ReadInside.{part}
use Rattle.plant_core.proofs.PartLemmas.{part_all}
use Rattle.plant_core.proofs.StateTextLemmas.{room_for_one}
use Rattle.plant_core.proofs.TextLengths.{texts_long, dest_long, group_long, panel_long, display_long}
use Rattle.plant_core.proofs.TextParts.{part_front, part_back, text_of_number}

-- parts of five lists, one behind the other
in_first : (a b c d e : List ℕ) (count : ℕ) → length a ≡ count → part (a ++ b ++ c ++ d ++ e) 0 count ≡ a
in_first a b c d e count long =
    let two = length-append a b in
    let three = length-append (a ++ b) c in
    let four = length-append (a ++ b ++ c) d in
    part_front (a ++ b ++ c ++ d) e 0 count (omega (arith, two, three, four))
    ∙ part_front (a ++ b ++ c) d 0 count (omega (arith, two, three))
    ∙ part_front (a ++ b) c 0 count (omega (arith, two))
    ∙ part_front a b 0 count (omega arith)
    ∙ part_all a count long

in_second : (a b c d e : List ℕ) (place from count : ℕ) → place ≡ length a + from → from + count ≤ length b → part (a ++ b ++ c ++ d ++ e) place count ≡ part b from count
in_second a b c d e place from count at inside =
    let two = length-append a b in
    let three = length-append (a ++ b) c in
    let four = length-append (a ++ b ++ c) d in
    part_front (a ++ b ++ c ++ d) e place count (omega (arith, two, three, four))
    ∙ part_front (a ++ b ++ c) d place count (omega (arith, two, three))
    ∙ part_front (a ++ b) c place count (omega (arith, two))
    ∙ part_back a b place from count at

in_third : (a b c d e : List ℕ) (place from count : ℕ) → place ≡ length a + length b + from → from + count ≤ length c → part (a ++ b ++ c ++ d ++ e) place count ≡ part c from count
in_third a b c d e place from count at inside =
    let two = length-append a b in
    let three = length-append (a ++ b) c in
    let four = length-append (a ++ b ++ c) d in
    part_front (a ++ b ++ c ++ d) e place count (omega (arith, two, three, four))
    ∙ part_front (a ++ b ++ c) d place count (omega (arith, two, three))
    ∙ part_back (a ++ b) c place from count (omega (arith, two))

in_fourth : (a b c d e : List ℕ) (place from count : ℕ) → place ≡ length a + length b + length c + from → from + count ≤ length d → part (a ++ b ++ c ++ d ++ e) place count ≡ part d from count
in_fourth a b c d e place from count at inside =
    let two = length-append a b in
    let three = length-append (a ++ b) c in
    let four = length-append (a ++ b ++ c) d in
    part_front (a ++ b ++ c ++ d) e place count (omega (arith, two, three, four))
    ∙ part_back (a ++ b ++ c) d place from count (omega (arith, two, three))

in_fifth : (a b c d e : List ℕ) (place from count : ℕ) → place ≡ length a + length b + length c + length d + from → part (a ++ b ++ c ++ d ++ e) place count ≡ part e from count
in_fifth a b c d e place from count at =
    let two = length-append a b in
    let three = length-append (a ++ b) c in
    let four = length-append (a ++ b ++ c) d in
    part_back (a ++ b ++ c ++ d) e place from count (omega (arith, two, three, four))

-- Each part's text stands at its place.
pub record StandIn (bytes : List ℕ) (state : State) : Type 0 where
  pub counts : part bytes 0 16 ≡ counts_text state.plant
  pub dest : (dest : ℕ) → dest < destinations_of state.plant → part bytes (place_of_dest dest) 10 ≡ dest_text state.crosspoints state.owners dest
  pub group : (group : ℕ) → group < salvo_limit → part bytes (place_of_group state.plant group) 2050 ≡ group_text (group_of state.groups group)
  pub panel : (panel : ℕ) → panel < length state.plant.panels → part bytes (place_of_panel state.plant panel) (1 + destinations_of state.plant) ≡ panel_text (destinations_of state.plant) (board_of state.boards panel)
  pub display : (display : ℕ) → display < length state.plant.displays → part bytes (place_of_display state.plant display) 7 ≡ display_text (last state.shown display)

counts_long : (plant : PlantData) → length (counts_text plant) ≡ 16
counts_long plant = refl

pub stand_in : (state : State) → StandIn (state_text state) state
unfolding state_text
stand_in state =
    let plant = state.plant in
    let dests = destinations_of plant in
    let panels = length plant.panels in
    let displays = length plant.displays in
    let dest_at : ℕ → List ℕ = dest_text state.crosspoints state.owners in
    let group_at : ℕ → List ℕ = λ group. group_text (group_of state.groups group) in
    let panel_at : ℕ → List ℕ = λ panel. panel_text dests (board_of state.boards panel) in
    let display_at : ℕ → List ℕ = λ display. display_text (last state.shown display) in
    let a = counts_text plant in
    let b = texts_of dests dest_at in
    let c = texts_of salvo_limit group_at in
    let d = texts_of panels panel_at in
    let e = texts_of displays display_at in
    let dest_wide : (dest : ℕ) → length (dest_at dest) ≡ 10 = dest_long state.crosspoints state.owners in
    let group_wide : (group : ℕ) → length (group_at group) ≡ 2050 = λ group. group_long (group_of state.groups group) in
    let panel_wide : (panel : ℕ) → length (panel_at panel) ≡ 1 + dests = λ panel. panel_long dests (board_of state.boards panel) in
    let display_wide : (display : ℕ) → length (display_at display) ≡ 7 = λ display. display_long (last state.shown display) in
    let long_a : length a ≡ 16 = counts_long plant in
    let long_b : length b ≡ dests * 10 = texts_long dests 10 dest_at dest_wide in
    let long_c : length c ≡ salvo_limit * 2050 = texts_long salvo_limit 2050 group_at group_wide in
    let long_d : length d ≡ panels * (1 + dests) = texts_long panels (1 + dests) panel_at panel_wide in
    record {
      counts = in_first a b c d e 16 long_a;
      dest = λ dest below.
          in_second a b c d e (place_of_dest dest) (dest * 10) 10 (omega (arith, long_a)) (omega (arith, long_b, below)) ∙ text_of_number dests 10 dest dest_at dest_wide below;
      group = λ group below.
          in_third a b c d e (place_of_group plant group) (group * 2050) 2050 (omega (arith, long_a, long_b)) (omega (arith, long_c, below)) ∙ text_of_number salvo_limit 2050 group group_at group_wide below;
      panel = λ panel below.
          in_fourth a b c d e (place_of_panel plant panel) (panel * (1 + dests)) (1 + dests) (omega (arith, long_a, long_b, long_c)) (omega (arith, long_d, room_for_one panel panels (1 + dests) below))
          ∙ text_of_number panels (1 + dests) panel panel_at panel_wide below;
      display = λ display below.
          in_fifth a b c d e (place_of_display plant display) (display * 7) 7 (omega (arith, long_a, long_b, long_c, long_d)) ∙ text_of_number displays 7 display display_at display_wide below;
    }
