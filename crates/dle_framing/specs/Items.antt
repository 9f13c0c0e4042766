-- The items of a stream of bytes: what it says, read as a whole text.
use Rattle.std.specs.Prelude.{ℕ, ◌-◌, ◌%◌, ◌==◌, ◌&&◌, nat_le, Bool, if◌then◌else◌, List, [], ◌∷◌, length, take, sum, slice_index}
use Rattle.doubled_bytes.specs.Doubled
use Rattle.doubled_bytes.specs.Doubled.{Run}
use Rattle.doubled_bytes.specs.Reading.{Reading, reading_by}
pub use Rattle.doubled_bytes.specs.Reading.{only_rest, with_item}
use Rattle.dle_framing.specs.Numbers.{dle, stx, etx, ack_byte, nak_byte, least_body, most_body}
use Rattle.dle_framing.specs.declared.item.Item.{Item}
use Rattle.dle_framing.specs.declared.item.Item.TheVariants.{Good, Bad, Ack, Nak}

-- A body is good where it has 3 to 257 bytes, its last byte but one is its length less 2, and its bytes sum to zero
-- modulo 256. [profile]
abbrev pub is_good : List ℕ → Bool
is_good body =
    nat_le least_body (length body) && nat_le (length body) most_body
    && (slice_index body (length body - 2) == length body - 2) && (sum body % 256 == 0)

-- the item of a complete frame: its DATA is the body without the length and the check byte [profile]
abbrev pub item_of : List ℕ → Item (List ℕ)
item_of body = if is_good body then Good (take (length body - 2) body) else Bad

-- the longest run by this DLE [SW-P-08]
abbrev pub longest_run : List ℕ → Run
longest_run text = Doubled.longest_run dle text

-- what a text says [profile]
abbrev pub TextReading : Type 0
TextReading = Reading (Item (List ℕ))

-- Behind DLE STX and a run of pieces: DLE ETX ends the frame and DLE STX starts the next one, where DLE and any other
-- byte abandon it. Where nothing or a lone DLE follows the run, all from DLE STX on is the rest. [profile]
abbrev pub in_frame : (List ℕ → TextReading) → List ℕ → Run → TextReading
in_frame goes_on text run = elim run.behind [
  | [] ↦ only_rest (dle ∷ stx ∷ text)
  | (a ∷ behind) ↦ elim behind [
    | [] ↦ only_rest (dle ∷ stx ∷ text)
    | (b ∷ more) ↦
        if b == etx then with_item (item_of run.spelled) (goes_on more)
        else if b == stx then goes_on (a ∷ b ∷ more)
        else goes_on more
  ]
]

-- The reading of a text by cases on its start, where `goes_on` is the reading of what is behind that start. A byte that
-- starts none of ACK, NAK and a frame is noise by itself. [profile]
abbrev pub by_start : (List ℕ → TextReading) → List ℕ → TextReading
by_start goes_on [] = only_rest []
by_start goes_on (a ∷ []) = if a == dle then only_rest (a ∷ []) else only_rest []
by_start goes_on (a ∷ b ∷ text) =
    if a == dle then (
    if b == ack_byte then with_item Ack (goes_on text)
    else if b == nak_byte then with_item Nak (goes_on text)
    else if b == stx then in_frame goes_on text (longest_run text)
    else goes_on (b ∷ text)
    ) else goes_on (b ∷ text)

-- The reading of a text. It is `by_start reading`, a law that `reads_by_start` states. [profile]
unfoldable pub reading : List ℕ → TextReading
reading text = reading_by by_start text

-- the items of a text [profile]
abbrev pub items : List ℕ → List (Item (List ℕ))
items text = (reading text).items

-- the rest of a text that is no whole item yet [profile]
abbrev pub rest : List ℕ → List ℕ
rest text = (reading text).rest
