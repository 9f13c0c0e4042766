-- Pages of names, one after the other.
use Rattle.std.specs.Prelude.{◌≡◌, ℕ, ◌+◌, ◌-◌, ◌*◌, ◌<◌, ◌≤◌, Bool, if◌then◌else◌, List, [], ◌++◌, length, map, Option, None, Some, IfSome}
use Rattle.std.specs.List.{range_with_len}
use Rattle.dle_framing.specs.Frame.{frame}
use Rattle.swp08_messages.specs.Field.{wide_numbers}
use Rattle.plant_config.specs.Plant.{PlantData}
use Rattle.plant_names.specs.declared.paged.Paged.{Paged}
use Rattle.plant_names.specs.Pages.{page_data, page_end, names_of_sources, names_of_dests, source_page_command, dest_page_command}
use Rattle.panel_session.specs.declared.sending.name_page.NamePage.{NamePage}
use Rattle.panel_session.specs.declared.sending.name_page.NamesOf.{NamesOf}
use Rattle.panel_session.specs.declared.sending.name_page.NamesOf.TheVariants.{Sources, Dests}
use Rattle.swp08_messages.specs.declared.message.Message.{Message}
use Rattle.panel_session.specs.NamePages.{page_count, page_first, page_from, one_page}
use Rattle.panel_session.specs.NamePages.{name_frames, names_at_once}
use Rattle.panel_session.specs.Text.{Output, with_frames}

-- A page has names of one of three sizes, and its number is one. [profile]
pub record IsNamePage (page : NamePage) : Type 0 where
  pub size : page.size ≤ 2
  pub first : page.first < wide_numbers

-- its names
abbrev pub names_of : PlantData → ℕ → NamesOf → Option (List (List ℕ))
names_of plant matrix (Sources level) = names_of_sources plant matrix level
names_of plant matrix Dests = names_of_dests plant matrix

-- its command, and the level that it tells [profile]
abbrev pub command_of : NamesOf → ℕ
command_of (Sources level) = source_page_command
command_of Dests = dest_page_command

abbrev pub level_of : NamesOf → ℕ
level_of (Sources level) = level
level_of Dests = 0

-- its DATA, and how it ends
abbrev pub data_of : PlantData → NamePage → List ℕ
data_of plant page =
    page_data (command_of page.names) page.matrix
    (level_of page.names) page.one page.size page.first (names_of plant page.matrix page.names)

abbrev pub end_of : PlantData → NamePage → Paged
end_of plant page = page_end page.one page.size page.first (names_of plant page.matrix page.names)

-- the DATA of all pages of names from this number on [profile]
abbrev pub pages_from : ℕ → ℕ → ℕ → ℕ → ℕ → Option (List (List ℕ))
    → List (List ℕ)
pages_from command matrix level size first None = []
pages_from command matrix level size first (Some names) =
    map (λ page. page_from command matrix level size names (first + page_first size page))
    (range_with_len 0 (page_count size (length names - first)))

-- the DATA of a page and of those behind it [profile]
abbrev pub pages_behind : ℕ → ℕ → ℕ → ℕ → Bool → ℕ → Option (List (List ℕ))
    → List (List ℕ)
pages_behind command matrix level size one first names =
    if one then one_page command matrix level size first names
    else pages_from command matrix level size first names

-- those that are left to be sent, and their frames [profile]
abbrev pub pages_left : PlantData → Option NamePage → List (List ℕ)
pages_left plant None = []
pages_left plant (Some page) =
    pages_behind (command_of page.names) page.matrix
    (level_of page.names) page.size page.one page.first (names_of plant page.matrix page.names)

abbrev pub frames_left : PlantData → Option NamePage → List (List ℕ)
frames_left plant left = map frame (pages_left plant left)

-- There is a name of this number.
abbrev pub HasName : Option (List (List ℕ)) → ℕ → Type 0
HasName None number = ⊥
HasName (Some names) number = number < length names

-- A page is behind another of the same names, ten names or more, and is there.
pub record GoesOnWith (plant : PlantData) (page next : NamePage) : Type 0 where
  pub is_page : IsNamePage next
  pub behind : page.first + 10 ≤ next.first
  pub there : HasName (names_of plant next.matrix next.names) next.first
  pub same : names_of plant next.matrix next.names ≡ names_of plant page.matrix page.names

-- The frames of pages of names from one on were added to an output, and those from another on are left.
pub record AddsNames (plant : PlantData) (page : NamePage) (output : Output)
    (left : Option NamePage) (output_then : Output) : Type 0 where
  pub frames : List (List ℕ)
  pub frames_are : frames_left plant (Some page) ≡ frames ++ frames_left plant left
  pub adds : output_then ≡ with_frames frames output
  pub next : IfSome left (GoesOnWith plant page)

-- There is room for a part's next page: those before it have at least ten names each, and at most 276 bytes.
abbrev pub HasRoomFor : ℕ → NamePage → Output → Type 0
HasRoomFor from page output = 10 * length output.bytes + 276 * from ≤ 20 + 276 * page.first

-- A page is 1,024 numbers behind another or more, and its number is one.
abbrev pub IsFarBehind : ℕ → NamePage → Type 0
IsFarBehind from page = (from + names_at_once ≤ page.first) × (page.first < wide_numbers)

-- The first frames of the pages that a message asks for were added to an output, and those from a page on are left.
pub record BeginsNames (plant : PlantData) (message : Message) (output : Output)
    (left : Option NamePage) (output_then : Output) : Type 0 where
  pub frames : List (List ℕ)
  pub frames_are : name_frames plant message ≡ frames ++ frames_left plant left
  pub adds : output_then ≡ with_frames frames output
  pub is_page : IfSome left IsNamePage

-- the numbers that a page may yet begin at
abbrev pub numbers_left : Option NamePage → ℕ
numbers_left None = 0
numbers_left (Some page) = wide_numbers - page.first
