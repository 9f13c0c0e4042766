-- What is read of a text without a fault is a valid state, and the text is that state's.
use Rattle.std.proofs.Common.{◌≡◌, ℕ, ◌+◌, ◌*◌, ◌≤◌, List, ◌++◌, length, None, refl, sym, ap, ◌∙◌, arith}
use Rattle.crosspoint_state.specs.Table.{Table}
use Rattle.crosspoint_state.specs.Taps.{Points}
use Rattle.plant_config.specs.Plant.{PlantData, destinations_of, sources_of}
use Rattle.plant_config.specs.IsPlant.{IsPlant}
use Rattle.salvo_groups.specs.Groups.{Group}
use Rattle.change_boards.specs.Board.{Board}
use Rattle.change_boards.specs.Shown.{Shown}
use Rattle.plant_core.specs.State.{IsValid}
use Rattle.plant_core.specs.StateInside.{state_of}
use Rattle.plant_core.specs.Short.{StaysShort}
use Rattle.plant_core.specs.StateText.{four, counts_text, state_text, state_size}
use Rattle.plant_core.specs.StateFields.{place_of_group, place_of_panel, place_of_display}
use Rattle.plant_core.specs.StateFault.{first_fault}
use Rattle.plant_core.specs.ReadInside.{part, spot_in, owner_in, HaveBelow, AreGroupsIn, AreBoardsIn, AreShownIn, dests_text, groups_text, panels_text, displays_text}
use Rattle.plant_core.proofs.HoldLemmas.{sources_held, dests_held, panels_held, displays_held}
use Rattle.plant_core.proofs.PartLemmas.{AreBytes, part_all, parts_join, part_four}
use Rattle.plant_core.proofs.DestsCan.{read_crosspoints, read_ties, read_owned, read_short_owned, read_dests_text}

-- the parts that were read
pub record AreRead (plant : PlantData) (bytes : List ℕ) (points : Points) (owners : Table ℕ) (groups : List Group) (boards : List Board) (shown : Shown) : Type 0 where
  pub is_plant : IsPlant plant
  pub whole : first_fault plant bytes ≡ None
  pub spots : HaveBelow (destinations_of plant) (spot_in bytes) points.entries
  pub devices : HaveBelow (destinations_of plant) (owner_in bytes) owners.entries
  pub salvos : AreGroupsIn plant bytes groups
  pub notices : AreBoardsIn plant bytes boards
  pub lamps : AreShownIn plant bytes shown

pub read_valid : (plant : PlantData) (bytes : List ℕ) (points : Points) (owners : Table ℕ) (groups : List Group) (boards : List Board) (shown : Shown) → AreRead plant bytes points owners groups boards shown → IsValid (state_of plant points owners groups boards shown)
read_valid plant bytes points owners groups boards shown are = record {
  is_plant = are.is_plant;
  is_crosspoint = read_crosspoints plant bytes points.entries are.is_plant are.whole are.spots;
  ties = read_ties plant bytes points.entries are.whole are.spots;
  owners = read_owned plant bytes owners.entries are.whole are.devices;
  groups = are.salvos.are_groups;
  changes = are.salvos.changes;
  boards = are.notices.are_boards;
  shown = are.lamps.are_shown;
}

pub read_short : (plant : PlantData) (bytes : List ℕ) (points : Points) (owners : Table ℕ) (groups : List Group) (boards : List Board) (shown : Shown) → AreRead plant bytes points owners groups boards shown → StaysShort (state_of plant points owners groups boards shown)
read_short plant bytes points owners groups boards shown are = record {
  owners = read_short_owned plant bytes owners.entries are.whole are.devices;
  notices = are.notices.short;
  changes = are.salvos.short;
}

-- the four counts
counts_part : (plant : PlantData) (bytes : List ℕ) → AreBytes bytes → 16 ≤ length bytes → first_fault plant bytes ≡ None → counts_text plant ≡ part bytes 0 16
counts_part plant bytes are inside none =
    let sources = ap four (sym (sources_held plant bytes none)) ∙ part_four bytes 0 are (omega arith) in
    let dests = ap four (sym (dests_held plant bytes none)) ∙ part_four bytes 4 are (omega arith) in
    let panels = ap four (sym (panels_held plant bytes none)) ∙ part_four bytes 8 are (omega arith) in
    let displays = ap four (sym (displays_held plant bytes none)) ∙ part_four bytes 12 are (omega arith) in
    parts_join bytes (four (sources_of plant) ++ four (destinations_of plant) ++ four (length plant.panels)) (four (length plant.displays)) 0 12 12 4
    (parts_join bytes (four (sources_of plant) ++ four (destinations_of plant)) (four (length plant.panels)) 0 8 8 4
    (parts_join bytes (four (sources_of plant)) (four (destinations_of plant)) 0 4 4 4 sources dests refl) panels refl)
    displays refl

-- five parts, one behind the other
parts_are : (bytes one two three four five : List ℕ) (dests groups panels displays at_groups at_panels at_displays : ℕ) → one ≡ part bytes 0 16 → two ≡ part bytes 16 dests → three ≡ part bytes at_groups groups → four ≡ part bytes at_panels panels → five ≡ part bytes at_displays displays →
    at_groups ≡ 16 + dests → at_panels ≡ 16 + dests + groups → at_displays ≡ 16 + dests + groups + panels → length bytes ≡ 16 + dests + groups + panels + displays → one ++ two ++ three ++ four ++ five ≡ bytes
parts_are bytes one two three four five dests groups panels displays at_groups at_panels at_displays first second third fourth fifth where_groups where_panels where_displays size =
    parts_join bytes (one ++ two ++ three ++ four) five 0 at_displays (16 + dests + groups + panels) displays
    (parts_join bytes (one ++ two ++ three) four 0 at_panels (16 + dests + groups) panels
    (parts_join bytes (one ++ two) three 0 at_groups (16 + dests) groups (parts_join bytes one two 0 16 16 dests first second refl) third (omega arith))
    fourth (omega arith))
    fifth (omega arith)
    ∙ part_all bytes (16 + dests + groups + panels + displays) size

at_first_group : (dests : ℕ) → 16 + 10 * dests + 0 * 2050 ≡ 16 + dests * 10
at_first_group dests = omega arith

at_first_panel : (dests : ℕ) → 16 + 10 * dests + 128 * 2050 + 0 * (1 + dests) ≡ 16 + dests * 10 + 128 * 2050
at_first_panel dests = omega arith

at_first_display : (dests panels : ℕ) → 16 + 10 * dests + 128 * 2050 + panels * (1 + dests) + 7 * 0 ≡ 16 + dests * 10 + 128 * 2050 + panels * (1 + dests)
at_first_display dests panels = omega arith

size_is : (dests panels displays size : ℕ) → size ≡ 16 + 10 * dests + 128 * 2050 + panels * (1 + dests) + 7 * displays → size ≡ 16 + dests * 10 + 128 * 2050 + panels * (1 + dests) + 7 * displays
size_is dests panels displays size is = omega arith

at_least : (dests groups panels displays size : ℕ) → size ≡ 16 + dests + groups + panels + displays → 16 ≤ size
at_least dests groups panels displays size is = omega arith

pub read_text : (plant : PlantData) (bytes : List ℕ) (points : Points) (owners : Table ℕ) (groups : List Group) (boards : List Board) (shown : Shown) → AreBytes bytes → length bytes ≡ state_size plant → AreRead plant bytes points owners groups boards shown → state_text (state_of plant points owners groups boards shown) ≡ bytes
unfolding state_text
read_text plant bytes points owners groups boards shown bytes_are size are =
    let dests = destinations_of plant in
    let panels = length plant.panels in
    let sized : length bytes ≡ 16 + dests * 10 + 128 * 2050 + panels * (1 + dests) + 7 * length plant.displays = size_is dests panels (length plant.displays) (length bytes) size in
    parts_are bytes (counts_text plant) (dests_text plant points.entries owners.entries) (groups_text groups) (panels_text plant boards) (displays_text plant shown) (dests * 10) (128 * 2050) (panels * (1 + dests)) (7 * length plant.displays) (place_of_group plant 0) (place_of_panel plant 0) (place_of_display plant 0)
    (counts_part plant bytes bytes_are (at_least (dests * 10) (128 * 2050) (panels * (1 + dests)) (7 * length plant.displays) (length bytes) sized) are.whole)
    (read_dests_text plant bytes points.entries owners.entries bytes_are size are.whole are.spots are.devices)
    are.salvos.text are.notices.text are.lamps.text
    (at_first_group dests) (at_first_panel dests) (at_first_display dests panels) sized
