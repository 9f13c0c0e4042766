-- The text of a state, one part more and whole.
use Rattle.std.proofs.Common.{◌≡◌, ℕ, ◌+◌, ◌*◌, ◌<◌, ◌≤◌, List, [], ◌∷◌, ◌++◌, length, map, sym, ap, ◌∙◌, arith}
use Rattle.std.proofs.lemmas.Nat.{mul-le}
use Rattle.std.proofs.lemmas.List.{append_assoc, append-nil}
use Rattle.std.proofs.lemmas.List.FromFn.{map-range_with_len_more}
use Rattle.std.specs.List.{range_with_len}
use Rattle.plant_config.specs.Plant.{PlantData, destinations_of, sources_of}
use Rattle.plant_config.proofs.OneMore.{flat_map-range_more}
use Rattle.salvo_groups.specs.Limits.{salvo_limit}
use Rattle.salvo_groups.specs.Groups.{group_of}
use Rattle.change_boards.specs.Notices.{board_of}
use Rattle.change_boards.specs.Shown.{last}
use Rattle.plant_core.specs.State.{State}
use Rattle.plant_core.specs.StateText.{four, texts_of, counts_text, dest_text, group_text, panel_text, display_text, state_text}

texts_more : (count : ℕ) (text : ℕ → List ℕ) → texts_of (count + 1) text ≡ texts_of count text ++ text count
unfolding texts_of
texts_more count text = flat_map-range_more text count

-- no text stands behind a beginning yet
pub texts_begin : (start : List ℕ) (text : ℕ → List ℕ) → start ≡ start ++ texts_of 0 text
unfolding texts_of
texts_begin start text = sym (append-nil start)

-- one text more is put behind those that stand behind a beginning
pub one_text_more : (start items after put : List ℕ) (count : ℕ) (text : ℕ → List ℕ) → items ≡ start ++ texts_of count text → after ≡ items ++ put → put ≡ text count → after ≡ start ++ texts_of (count + 1) text
one_text_more start items after put count text stand behind is =
    behind
    ∙ ap (λ front. front ++ put) stand
    ∙ append_assoc start (texts_of count text) put
    ∙ ap (λ last. start ++ (texts_of count text ++ last)) is
    ∙ ap (λ texts. start ++ texts) (sym (texts_more count text))

-- when all stand, they are as many as are wanted
pub all_texts : (start items : List ℕ) (count all : ℕ) (text : ℕ → List ℕ) → count ≡ all → items ≡ start ++ texts_of count text → items ≡ start ++ texts_of all text
all_texts start items count all text same stand = stand ∙ ap (λ (number : ℕ). start ++ texts_of number text) same

-- what is put behind two parts stands behind their beginning
pub behind_both : (start first second items after : List ℕ) → items ≡ start ++ first → after ≡ items ++ second → after ≡ start ++ (first ++ second)
behind_both start first second items after stand put = put ∙ ap (λ front. front ++ second) stand ∙ append_assoc start first second

-- one byte more is put behind those that a function reads of the numbers below a count
pub one_byte_more : (start items after : List ℕ) (byte : ℕ → ℕ) (count put : ℕ) → items ≡ start ++ map byte (range_with_len 0 count) → put ≡ byte count → after ≡ items ++ put ∷ [] → after ≡ start ++ map byte (range_with_len 0 (count + 1))
one_byte_more start items after byte count put stand is behind =
    behind
    ∙ ap (λ front. front ++ put ∷ []) stand
    ∙ append_assoc start (map byte (range_with_len 0 count)) (put ∷ [])
    ∙ ap (λ (last : ℕ). start ++ (map byte (range_with_len 0 count) ++ last ∷ [])) is
    ∙ ap (λ bytes. start ++ bytes) (sym (map-range_with_len_more byte 0 count count (omega arith)))

pub all_bytes : (start items : List ℕ) (byte : ℕ → ℕ) (count all : ℕ) → count ≡ all → items ≡ start ++ map byte (range_with_len 0 count) → items ≡ start ++ map byte (range_with_len 0 all)
all_bytes start items byte count all same stand = stand ∙ ap (λ (number : ℕ). start ++ map byte (range_with_len 0 number)) same

-- the four counts of a plant
pub counts_behind : (plant : PlantData) (start one two three all : List ℕ) (sources dests panels displays : ℕ) → sources ≡ sources_of plant → dests ≡ destinations_of plant → panels ≡ length plant.panels → displays ≡ length plant.displays → one ≡ start ++ four sources → two ≡ one ++ four dests → three ≡ two ++ four panels → all ≡ three ++ four displays → all ≡ start ++ counts_text plant
counts_behind plant start one two three all sources dests panels displays of_sources of_dests of_panels of_displays first second third fourth =
    let source_text = four (sources_of plant) in
    let dest_text = four (destinations_of plant) in
    let panel_text = four (length plant.panels) in
    behind_both start (source_text ++ dest_text ++ panel_text) (four (length plant.displays)) three all
    (behind_both start (source_text ++ dest_text) panel_text two three
    (behind_both start source_text dest_text one two (first ∙ ap (λ (count : ℕ). start ++ four count) of_sources) (second ∙ ap (λ (count : ℕ). one ++ four count) of_dests))
    (third ∙ ap (λ (count : ℕ). two ++ four count) of_panels)) (fourth ∙ ap (λ (count : ℕ). three ++ four count) of_displays)

-- the parts of a state, put one behind the other, are its text
pub state_behind : (state : State) (start one two three before all : List ℕ) → one ≡ start ++ counts_text state.plant → two ≡ one ++ texts_of (destinations_of state.plant) (dest_text state.crosspoints state.owners) → three ≡ two ++ texts_of salvo_limit (λ group. group_text (group_of state.groups group)) → before ≡ three ++ texts_of (length state.plant.panels) (λ panel. panel_text (destinations_of state.plant) (board_of state.boards panel)) → all ≡ before ++ texts_of (length state.plant.displays) (λ display. display_text (last state.shown display)) → all ≡ start ++ state_text state
unfolding state_text
state_behind state start one two three before all first second third fourth fifth =
    let counts = counts_text state.plant in
    let dests = texts_of (destinations_of state.plant) (dest_text state.crosspoints state.owners) in
    let groups = texts_of salvo_limit (λ group. group_text (group_of state.groups group)) in
    let panels = texts_of (length state.plant.panels) (λ panel. panel_text (destinations_of state.plant) (board_of state.boards panel)) in
    let displays = texts_of (length state.plant.displays) (λ display. display_text (last state.shown display)) in
    behind_both start (counts ++ dests ++ groups ++ panels) displays before all
    (behind_both start (counts ++ dests ++ groups) panels three before
    (behind_both start (counts ++ dests) groups two three (behind_both start counts dests one two first second) third) fourth) fifth

-- the room that panels take is far below what a number of 64 bits can tell
pub panels_fit : (panels dests : ℕ) → panels ≤ 64 → dests ≤ 65536 → panels * (1 + dests) ≤ 4194368
panels_fit panels dests few most = mul-le panels (1 + dests) 64 65537 few (omega arith)

-- one more of a width
pub one_width_more : (number width : ℕ) → (number + 1) * width ≡ number * width + width
one_width_more number width = omega arith

-- what is of one width has room behind those before it
pub room_for_one : (number count width : ℕ) → number < count → number * width + width ≤ count * width
room_for_one number count width below = omega (arith, mul-le (number + 1) width count width (omega arith) (omega arith))
