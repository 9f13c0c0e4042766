-- The parts of a form as the definitions call them, and what words say of them.
use Rattle.std.specs.Prelude.{◌≡◌, ℕ, List}
use Rattle.command_words.specs.declared.parts.FileKind as kinds
use Rattle.command_words.specs.declared.parts.Low as lows
use Rattle.command_words.specs.declared.parts.Low.TheVariants as low
use Rattle.command_words.specs.declared.parts.Part as parts
use Rattle.command_words.specs.declared.parts.Part.TheVariants as part
use Rattle.command_words.specs.declared.parts.Last as lasts
use Rattle.command_words.specs.declared.parts.Last.TheVariants as last
use Rattle.command_words.specs.Parts.{FileKind, Low, AtLeast, AsBefore, Part, Plant, Whole, Made, Store, Later, Number, Last, NoMore, Wholes, Prefix, AllSaid, AllSay, Said, SaidLast, SayLast, Says, number_behind}

abbrev pub kind_as : kinds.FileKind → FileKind
kind_as kind = record { word = kind.word.now; longest = kind.longest }

abbrev pub low_as : lows.Low → Low
low_as (low.AtLeast least) = AtLeast least
low_as low.AsBefore = AsBefore

abbrev pub part_as : parts.Part → Part
part_as part.Plant = Plant
part_as (part.Whole kind) = Whole (kind_as kind)
part_as part.Made = Made
part_as part.Store = Store
part_as (part.Later kind) = Later (kind_as kind)
part_as (part.Number low most) = Number (low_as low) most

abbrev pub last_as : lasts.Last → Last
last_as last.NoMore = NoMore
last_as (last.Wholes kind) = Wholes (kind_as kind)
last_as last.Prefix = Prefix

-- Words say something of these parts; behind them; and a word of this part, with the number that stands before the next.
abbrev pub CanSay : ℕ → List Part → Last → List (List ℕ) → Type 0
CanSay before parts last words = (said : AllSaid parts last) × AllSay before parts last words said

abbrev pub CanSayLast : Last → List (List ℕ) → Type 0
CanSayLast last words = (said : SaidLast last) × SayLast last words said

abbrev pub SayBehind : ℕ → Part → List ℕ → ℕ → Type 0
SayBehind before part word number =
    (said : Said part) × Says before part word said × (number ≡ number_behind before part said)
