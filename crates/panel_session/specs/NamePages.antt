-- The pages of names that a message asks for.
use Rattle.std.specs.Prelude.{ℕ, ◌+◌, ◌-◌, ◌*◌, ◌/◌, nat_lt, if◌then◌else◌, true, false, List, [], ◌∷◌, length, map, Option, None, Some}
use Rattle.std.specs.List.{range_with_len}
use Rattle.dle_framing.specs.Frame.{frame}
use Rattle.swp08_messages.specs.declared.message.Message.{Message}
use Rattle.swp08_messages.specs.declared.message.Message.TheVariants.{SourceNamesAsk, SourceNameAsk, DestNamesAsk, DestNameAsk}
use Rattle.plant_config.specs.Plant.{PlantData}
use Rattle.plant_names.specs.Pages.{most_names, page_names, names_text, names_of_sources, names_of_dests, source_page_command, dest_page_command}

-- how many pages so many names of this size take [profile]
abbrev pub page_count : ℕ → ℕ → ℕ
page_count size count = (count + most_names size - 1) / most_names size

-- the number of the first name of a page, by the number of the page [profile]
abbrev pub page_first : ℕ → ℕ → ℕ
page_first size page = page * most_names size

-- the DATA of the page of names that begins at this number [profile]
abbrev pub page_from : ℕ → ℕ → ℕ → ℕ → List (List ℕ) → ℕ → List ℕ
page_from command matrix level size names first =
    names_text command matrix level size first (page_names false size first names)

-- The DATA of all pages of names, in order: each but the last has the most names of a page. [profile]
abbrev pub all_pages : ℕ → ℕ → ℕ → ℕ → Option (List (List ℕ)) → List (List ℕ)
all_pages command matrix level size None = []
all_pages command matrix level size (Some names) =
    map (λ page. page_from command matrix level size names (page_first size page))
    (range_with_len 0 (page_count size (length names)))

-- the DATA of the page of one name, where there is a name of this number [profile]
abbrev pub one_page : ℕ → ℕ → ℕ → ℕ → ℕ → Option (List (List ℕ))
    → List (List ℕ)
one_page command matrix level size number None = []
one_page command matrix level size number (Some names) =
    if nat_lt number (length names)
    then names_text command matrix level size number (page_names true size number names) ∷ []
    else []

-- the most names of which all pages are sent at once
abbrev pub names_at_once : ℕ
names_at_once = 1024

-- The DATA of the pages of the plant's names that a message asks for, in order: all pages of a level's sources or of a
-- matrix's destinations, or one page with one name. There is none where the plant has no such level, matrix or number. [profile]
abbrev pub name_pages : PlantData → Message → List (List ℕ)
name_pages plant (SourceNamesAsk matrix level size) =
    all_pages source_page_command matrix level size (names_of_sources plant matrix level)
name_pages plant (SourceNameAsk matrix level size number) =
    one_page source_page_command matrix level size number (names_of_sources plant matrix level)
name_pages plant (DestNamesAsk matrix size) =
    all_pages dest_page_command matrix 0 size (names_of_dests plant matrix)
name_pages plant (DestNameAsk matrix size number) =
    one_page dest_page_command matrix 0 size number (names_of_dests plant matrix)
name_pages plant message = []

-- their frames [profile]
abbrev pub name_frames : PlantData → Message → List (List ℕ)
name_frames plant message = map frame (name_pages plant message)
