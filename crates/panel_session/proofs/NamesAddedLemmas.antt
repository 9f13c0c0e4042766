-- Pages of names that were added, and those that are left.
use Rattle.std.proofs.Common.{◌≡◌, ◌≢◌, ℕ, ◌+◌, ◌-◌, ◌<◌, ◌≤◌, IfSome, List, [], ◌∷◌, ◌++◌, length, Option, None, Some, refl, sym, ap, ◌∙◌, arith}
use Rattle.panel_session.specs.NamePages.{names_at_once}
use Rattle.panel_session.specs.OutgoingKept.{most_answer_frame}
use Rattle.panel_session.specs.RoomsInside.{most_named, room_to_send}
use Rattle.swp08_messages.specs.Field.{wide_numbers}
use Rattle.panel_session.proofs.OutputLemmas.{with_frames-append}
use Rattle.std.proofs.lemmas.List.{append_assoc}
use Rattle.panel_session.proofs.RoomLemmas.{names-most}
use Rattle.plant_config.specs.Plant.{PlantData}
use Rattle.panel_session.specs.declared.sending.name_page.NamePage.{NamePage}
use Rattle.panel_session.specs.Text.{Output, with_frame, with_frames}
use Rattle.panel_session.specs.NamePagesInside.{HasName, HasRoomFor, GoesOnWith, IsNamePage, numbers_left, names_of, frames_left, AddsNames}

append-some : (one other : List ℕ) → one ≢ [] → one ++ other ≢ []
append-some [] other some = absurd (some refl)
append-some (byte ∷ bytes) other some = λ is. cc

-- What was to be sent is still to be sent once frames are added.
pub with_frames-some : (frames : List (List ℕ)) (output : Output) → output.bytes ≢ [] → (with_frames frames output).bytes ≢ []
with_frames-some [] output some = some
with_frames-some (sent ∷ others) output some = with_frames-some others (with_frame sent output) (append-some output.bytes sent some)

-- Pages that are behind one that is behind another are behind it.
goes_behind : (plant : PlantData) (page next : NamePage) (left : Option NamePage) → GoesOnWith plant page next → IfSome left (GoesOnWith plant next) → IfSome left (GoesOnWith plant page)
goes_behind plant page next None goes on = tt
goes_behind plant page next (Some last) goes on = record { is_page = on.is_page; behind = omega (arith, goes.behind, on.behind); there = on.there; same = on.same ∙ goes.same }

-- More pages are sent.
pub adds_on : (plant : PlantData) (page next : NamePage) (output between output_then : Output) (left : Option NamePage) → AddsNames plant page output (Some next) between → AddsNames plant next between left output_then
    → AddsNames plant page output left output_then
adds_on plant page next output between output_then left one two = record {
  frames = one.frames ++ two.frames;
  frames_are = one.frames_are ∙ ap (λ (frames : List (List ℕ)). one.frames ++ frames) two.frames_are ∙ sym (append_assoc one.frames two.frames (frames_left plant left));
  adds = two.adds ∙ ap (with_frames two.frames) one.adds ∙ sym (with_frames-append one.frames two.frames output);
  next = goes_behind plant page next left one.next two.next;
}

-- There is room for a part's next page.
below_most : (plant : PlantData) (names : Option (List (List ℕ))) (number : ℕ) → HasName names number → IfSome names (λ names. length names ≤ most_named plant) → number < most_named plant
below_most plant None number there most = absurd there
below_most plant (Some names) number there most = omega (arith, there, most)

pub part_room : (plant : PlantData) (page : NamePage) (from : ℕ) (output : Output) (room : ℕ) → HasName (names_of plant page.matrix page.names) page.first → page.first - from < names_at_once → from ≤ page.first
    → HasRoomFor from page output → room_to_send plant ≤ room → length output.bytes + most_answer_frame ≤ room
part_room plant page from output room there near behind short within =
    omega (arith, below_most plant (names_of plant page.matrix page.names) page.first there (names-most plant page.matrix page.names), near, behind, short, within)

-- The next page has room if one had, or if nothing but a control stands before the first.
pub first_room : (plant : PlantData) (page : NamePage) (left : Option NamePage) (before after : Output) → length before.bytes ≤ 2 → length after.bytes ≤ length before.bytes + most_answer_frame
    → IfSome left (GoesOnWith plant page) → IfSome left (λ next. HasRoomFor page.first next after)
first_room plant page None before after short most goes = tt
first_room plant page (Some next) before after short most goes = omega (arith, short, most, goes.behind)

pub next_room : (plant : PlantData) (page : NamePage) (left : Option NamePage) (from : ℕ) (before after : Output) → HasRoomFor from page before → length after.bytes ≤ length before.bytes + most_answer_frame
    → IfSome left (GoesOnWith plant page) → IfSome left (λ next. HasRoomFor from next after)
next_room plant page None from before after room most goes = tt
next_room plant page (Some next) from before after room most goes = omega (arith, room, most, goes.behind)

pub fewer_left : (plant : PlantData) (page : NamePage) (left then_left : Option NamePage) → left ≡ Some page → page.first < wide_numbers → IfSome then_left (GoesOnWith plant page)
    → numbers_left then_left < numbers_left left
fewer_left plant page left None is within goes = omega (arith, ap numbers_left is, within)
fewer_left plant page left (Some next) is within goes = omega (arith, ap numbers_left is, within, goes.behind, goes.is_page.first)

-- What is left behind a page is one.
pub next_page : (plant : PlantData) (page : NamePage) (left : Option NamePage) → IfSome left (GoesOnWith plant page) → IfSome left IsNamePage
next_page plant page None goes = tt
next_page plant page (Some next) goes = goes.is_page
