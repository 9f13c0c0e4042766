-- The one spelling of DATA as a frame of SW-P-08.
use Rattle.std.specs.Prelude.{ℕ, ◌-◌, ◌%◌, ◌≤◌, List, [], ◌∷◌, ◌++◌, length, sum}
use Rattle.doubled_bytes.specs.Doubled
use Rattle.dle_framing.specs.Numbers.{dle, stx, etx, most_data}

-- A frame carries 1 to 255 bytes of DATA. [profile]
abbrev pub IsData : List ℕ → Type 0
IsData bytes = (1 ≤ length bytes) × (length bytes ≤ most_data)

-- each DLE twice, so that none of them can be read as a control [SW-P-08]
abbrev pub doubled : List ℕ → List ℕ
doubled bytes = Doubled.doubled dle bytes

-- the byte that makes the sum of these bytes and itself zero modulo 256 [SW-P-08]
abbrev pub check_byte : List ℕ → ℕ
check_byte bytes = (256 - sum bytes % 256) % 256

-- DATA and its length [SW-P-08]
abbrev pub counted : List ℕ → List ℕ
counted bytes = bytes ++ length bytes ∷ []

-- DATA, its length and its check byte [SW-P-08]
abbrev pub body : List ℕ → List ℕ
body bytes = counted bytes ++ check_byte (counted bytes) ∷ []

-- a body as it is sent, between the start and the end of a frame [SW-P-08]
abbrev pub enclosed : List ℕ → List ℕ
enclosed body = (dle ∷ stx ∷ []) ++ doubled body ++ (dle ∷ etx ∷ [])

-- the frame of these DATA [SW-P-08]
abbrev pub frame : List ℕ → List ℕ
frame bytes = enclosed (body bytes)
