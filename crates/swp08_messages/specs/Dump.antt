-- A page of a dump: the DATA that tell the sources of destinations of a level, one after the other.
use Rattle.std.specs.Prelude.{ℕ, ◌+◌, ◌/◌, ◌%◌, ◌<◌, ◌≤◌, List, [], ◌∷◌, ◌++◌, length, Option}
use Rattle.std.specs.List.{AllByRecursion, flat_map}
use Rattle.swp08_messages.specs.declared.field.Field.TheVariants.{MatrixLevel}
use Rattle.swp08_messages.specs.Field.{levels, dests, number_of, IsSource, byte_of, whole_part}

-- the most destinations of a page [profile]
abbrev pub page_dests : ℕ
page_dests = 64

-- the most bytes of a page's DATA [profile]
abbrev pub max_dump_len : ℕ
max_dump_len = 133

-- a number in two whole bytes, the high one first [profile]
abbrev pub wide_bytes : ℕ → List ℕ
wide_bytes number = number / whole_part ∷ number % whole_part ∷ []

-- The DATA of a page: the command 23, the matrix with the level, how many destinations the page has, the first of them,
-- and the source of each in order, or the number that says 'parked'. [profile]
abbrev pub dump_text : ℕ → ℕ → ℕ → List (Option ℕ) → List ℕ
dump_text matrix level first sources =
    23 ∷ byte_of (MatrixLevel matrix level) ∷ length sources
    ∷ (wide_bytes first ++ flat_map (λ source. wide_bytes (number_of source)) sources)

-- a page: a level, the first destination, and the source of each from there on [profile]
pub record Page : Type 0 where
  pub matrix : ℕ
  pub level : ℕ
  pub first : ℕ
  pub sources : List (Option ℕ)

abbrev pub page_text : Page → List ℕ
page_text page = dump_text page.matrix page.level page.first page.sources

-- A page's numbers are in their ranges, and it has 1 to 64 destinations. [profile]
pub record IsPage (page : Page) : Type 0 where
  pub matrix : page.matrix < levels
  pub level : page.level < levels
  pub some : 1 ≤ length page.sources
  pub most : length page.sources ≤ page_dests
  pub within : page.first + length page.sources ≤ dests
  pub sources : AllByRecursion IsSource page.sources
