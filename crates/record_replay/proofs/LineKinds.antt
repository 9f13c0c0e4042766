-- The first byte of a line tells its form from the others.
use Rattle.std.proofs.Common.{◌≡◌, ℕ, ◌≤◌, ◌⊎◌, inl, inr, Bool, true, false, List, [], ◌∷◌, get_or, ap, arith}
use Rattle.std.specs.Prelude.{◌==◌, if◌then◌else◌}
use Rattle.plant_config.specs.Plant.{PlantData}
use Rattle.record_replay.specs.Script.{Work, Read, Leave, Show, Sends, IsTakeLine, LineSpells}

-- the form of a line that spells a work: a turn with bytes, or one of the words that stand before a number
abbrev pub kind : Work → ℕ
kind (Read panel []) = 1
kind (Read panel (byte ∷ bytes)) = 0
kind (Leave panel) = 2
kind (Show screen false) = 3
kind (Show screen true) = 4

-- the same by a line's first byte
abbrev pub kind_of : List ℕ → ℕ
kind_of line =
    let first = get_or line 0 0 in
    if first == 112 then 1 else if first == 108 then 2 else if first == 115 then 3 else if first == 114 then 4 else 0

pub turn_kind : (panel : ℕ) (piece : List ℕ) → kind (Read panel piece) ≤ 1
turn_kind panel [] = omega arith
turn_kind panel (byte ∷ bytes) = omega arith

pub show_kind : (screen : ℕ) (refresh : Bool) → 3 ≤ kind (Show screen refresh)
show_kind screen false = omega arith
show_kind screen true = omega arith

kind_filled : (plant : PlantData) (line digits piece : List ℕ) → Sends line digits piece ⊎ IsTakeLine plant line digits piece → kind_of line ≡ 0
kind_filled plant line digits piece (inl sends) = ap kind_of sends.1
kind_filled plant line digits piece (inr takes) = ap kind_of takes.place

pub kind_is : (plant : PlantData) (line : List ℕ) (work : Work) → LineSpells plant line work → kind_of line ≡ kind work
kind_is plant line (Read panel []) spells = ap kind_of spells.form
kind_is plant line (Read panel (byte ∷ bytes)) spells = kind_filled plant line spells.digits (byte ∷ bytes) spells.form
kind_is plant line (Leave panel) spells = ap kind_of spells.form
kind_is plant line (Show screen false) spells = ap kind_of spells.form
kind_is plant line (Show screen true) spells = ap kind_of spells.form
