-- Pages of names, as panels are sent them: commands 106 and 107, by this project's profile.
use Rattle.std.specs.Prelude.{ℕ, ◌≤◌, ◌+◌, ◌-◌, ◌*◌, ◌/◌, ◌%◌, ◌==◌, nat_lt, Bool, ◌||◌, not, if◌then◌else◌, List, [], ◌∷◌, ◌++◌, find, take, drop, length, replicate, Option, Some, None}
use Rattle.std.specs.Option.{option_map}
use Rattle.std.specs.List.{flat_map}
use Rattle.plant_config.specs.declared.records.Level.{Level}
use Rattle.plant_config.specs.Plant.{PlantData}
use Rattle.plant_config.specs.Limits.{level_destination_limit}
use Rattle.plant_config.specs.Sites.{level_at}
use Rattle.plant_config.specs.NamesOfLevel.{source_names, dest_names}
use Rattle.plant_names.specs.declared.paged.Paged.{Paged}
use Rattle.plant_names.specs.declared.paged.Paged.TheVariants.{Nothing, Last, More}

-- how many bytes a page has for each name: 4, 8 or 12, by the size 0, 1 or 2 [profile]
abbrev pub bytes_of_size : ℕ → ℕ
bytes_of_size size = 4 * (size + 1)

-- the most names of a page [profile]
abbrev pub most_names : ℕ → ℕ
most_names size = if size == 0 then 32 else (if size == 1 then 16 else 10)

-- the most bytes of a page's DATA [profile]
abbrev pub max_page_len : ℕ
max_page_len = 134

-- a name in so many bytes: cut to its first ones, or with spaces behind it [profile]
abbrev pub fitted : ℕ → List ℕ → List ℕ
fitted count name = take count name ++ replicate (count - length name) 32

-- a number in two bytes, the higher one first [profile]
abbrev pub two_bytes : ℕ → List ℕ
two_bytes number = number / 256 ∷ number % 256 ∷ []

-- the DATA of a page: the command, matrix and level, the size, the number of the first name, how many names, and the names
-- [profile]
abbrev pub names_text : ℕ → ℕ → ℕ → ℕ → ℕ → List (List ℕ) → List ℕ
names_text command matrix level size first names =
    command ∷ (matrix * 16 + level) ∷ size
    ∷ (two_bytes first ++ length names ∷ flat_map (fitted (bytes_of_size size)) names)

-- The commands of pages. [profile]
abbrev pub source_page_command : ℕ
source_page_command = 106

abbrev pub dest_page_command : ℕ
dest_page_command = 107

-- the names of a page that begins at this number [profile]
abbrev pub names_from : ℕ → ℕ → List (List ℕ) → List (List ℕ)
names_from size first names = take (most_names size) (drop first names)

-- the names of the page that begins at this number, or of the page of one name [profile]
abbrev pub page_names : Bool → ℕ → ℕ → List (List ℕ) → List (List ℕ)
page_names one size first names =
    if one then take 1 (drop first names) else names_from size first names

-- How a page of a level's names ends: there is none where the plant has no such level or no name of this number; it is the
-- last where one name was asked for or no more names follow; else the next page begins at this number. [profile]
abbrev pub page_end : Bool → ℕ → ℕ → Option (List (List ℕ)) → Paged
page_end one size first None = Nothing
page_end one size first (Some names) =
    if not (nat_lt first (length names)) then Nothing
    else if one || not (nat_lt (first + most_names size) (length names)) then Last
    else More (first + most_names size)

-- the DATA of a page of a level's names, no bytes where there is no page [profile]
abbrev pub page_data : ℕ → ℕ → ℕ → Bool → ℕ → ℕ → Option (List (List ℕ))
    → List ℕ
page_data command matrix level one size first None = []
page_data command matrix level one size first (Some names) =
    if nat_lt first (length names)
    then names_text command matrix level size first (page_names one size first names) else []

-- the level whose names the destinations of a matrix have: its lowest one in the plant [profile]
abbrev pub lowest_level : PlantData → ℕ → Option Level
lowest_level plant matrix = find (λ at. at.matrix == matrix) plant.levels

-- the names of a level's sources, and of the destinations of a matrix, where the plant has them [profile]
abbrev pub names_of_sources : PlantData → ℕ → ℕ → Option (List (List ℕ))
names_of_sources plant matrix level = option_map (source_names plant) (level_at plant matrix level)

abbrev pub names_of_dests : PlantData → ℕ → Option (List (List ℕ))
names_of_dests plant matrix = option_map (dest_names plant) (lowest_level plant matrix)

-- the most names of a page of any size [profile]
abbrev pub most_of_all : ℕ
most_of_all = 32

-- A page that begins at this number has few names, however many its level has. [profile]
abbrev pub HasFew : Bool → ℕ → ℕ → List (List ℕ) → Type 0
HasFew one size first names = length (page_names one size first names) ≤ most_of_all

-- The names of a level have numbers of two bytes. [profile]
abbrev pub HaveNumbers : List (List ℕ) → Type 0
HaveNumbers names = length names ≤ level_destination_limit

-- the DATA of a page of a level's source names, and of a matrix's destination names: there the level is 0 [profile]
abbrev pub source_page_data : PlantData → ℕ → ℕ → ℕ → ℕ → Bool → List ℕ
source_page_data plant matrix level size first one =
    page_data source_page_command matrix level one size first (names_of_sources plant matrix level)

abbrev pub dest_page_data : PlantData → ℕ → ℕ → ℕ → Bool → List ℕ
dest_page_data plant matrix size first one =
    page_data dest_page_command matrix 0 one size first (names_of_dests plant matrix)
