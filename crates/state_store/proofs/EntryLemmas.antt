-- The number and the text of an entry.
use Rattle.std.proofs.Common.{◌≡◌, ℕ, ◌<◌, ◌^◌, List, ◌++◌, refl, ◌∙◌, ap}
use Rattle.std.specs.Int.{w64, from_le_bytes, to_le_bytes}
use Rattle.std.proofs.lemmas.List.{take_at, drop_at}
use Rattle.std.proofs.lemmas.Nat.{from_le_bytes-to_le_bytes_8}
use Rattle.state_store.specs.Slots.{number_of, text_of}

pub number_leads : (number : ℕ) (text : List ℕ) → number < 2 ^ 64 → number_of (to_le_bytes w64 number ++ text) ≡ number
unfolding number_of
number_leads number text fits = ap (from_le_bytes w64) (take_at (to_le_bytes w64 number) text 8 refl) ∙ from_le_bytes-to_le_bytes_8 number fits

pub text_follows : (number : ℕ) (text : List ℕ) → text_of (to_le_bytes w64 number ++ text) ≡ text
text_follows number text = drop_at (to_le_bytes w64 number) text 8 refl
