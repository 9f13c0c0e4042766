-- The laws of frames and items. The functions of `laws` promise them.
use Rattle.std.specs.Prelude.{◌≡◌, ℕ, ◌≤◌, List, [], ◌∷◌, length, map, All}
use Rattle.std.specs.List.{flat_map}
use Rattle.doubled_bytes.specs.Laws
use Rattle.dle_framing.specs.declared.item.Item.{Item}
use Rattle.dle_framing.specs.declared.item.Item.TheVariants.{Good}
use Rattle.dle_framing.specs.Numbers.{most_frame}
use Rattle.dle_framing.specs.Frame.{IsData, frame}
use Rattle.dle_framing.specs.Items.{TextReading, by_start, items, reading, rest}

-- a way to read texts that reads each by its start, and what is behind that start in the same way [profile]
abbrev pub ReadsByStart : (List ℕ → TextReading) → Type 0
ReadsByStart reads = Laws.ReadsByStart by_start reads

-- whatever reads each text by its start reads it as `reading` does [profile]
abbrev pub OneReadsByStart : Type 0
OneReadsByStart = Laws.OneReadsByStart by_start reading

-- what a text says once more has come [profile]
abbrev pub ReadsOn : List ℕ → List ℕ → Type 0
ReadsOn text more = Laws.ReadsOn reading text more

-- the items of a text are a front of those of every text that it is a front of [profile]
abbrev pub ItemsStay : Type 0
ItemsStay = Laws.ItemsStay reading

-- a text is read as these items, and no rest [profile]
pub record IsReadAs (text : List ℕ) (given : List (Item (List ℕ))) : Type 0 where
  pub all_items : items text ≡ given
  pub no_rest : rest text ≡ []

-- frames in a row, each with its DATA [profile]
abbrev pub frames : List (List ℕ) → List ℕ
frames carried = flat_map frame carried

-- a frame is read as one good item, its DATA [profile]
abbrev pub FramesAreGood : Type 0
FramesAreGood = (carried : List ℕ) → IsData carried → IsReadAs (frame carried) (Good carried ∷ [])

-- frames in a row are read as their good items, in that order [profile]
abbrev pub RowsAreGood : Type 0
RowsAreGood =
    (carried : List (List ℕ)) → All IsData carried → IsReadAs (frames carried) (map Good carried)

-- no frame is longer than the greatest length [profile]
abbrev pub FramesAreShort : Type 0
FramesAreShort = (carried : List ℕ) → IsData carried → length (frame carried) ≤ most_frame
