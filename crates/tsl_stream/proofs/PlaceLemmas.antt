-- Bytes none of which is DLE.
use Rattle.std.proofs.Common.{◌≡◌, ℕ, zero, suc, ◌<◌, ◌≤◌, ◌==◌, false, nat_eq, List, [], ◌∷◌, length, take, get_or, Option, Some, None, refl, ap, ◌∙◌, arith}
use Rattle.std.specs.Option.{unwrap_or}
use Rattle.std.proofs.lemmas.Bool.{ne_eqb}
use Rattle.memchr.specs.Find.{IsFirstByte, Nowhere, Passes, is_byte}
use Rattle.tsl_stream.specs.Numbers.{tsl_dle}
use Rattle.tsl_stream.specs.Stream.{stuffed}
use Rattle.doubled_bytes.specs.Reading.{only_rest}
use Rattle.tsl_stream.specs.Items.{stream_reading}
use Rattle.doubled_bytes.proofs.Runs.{doubled-byte}
use Rattle.tsl_stream.proofs.Readings.{stream_reading-by_packet_start, stream_reading-noise}

-- none of the first n bytes is DLE
abbrev pub NoDle : List ℕ → ℕ → Type 0
NoDle text n = (k : ℕ) → k < n → nat_eq (get_or text k 0) tsl_dle ≡ false

pub noise_take : (text : List ℕ) (n : ℕ) → NoDle text n → stream_reading (take n text) ≡ only_rest []
noise_take text zero no_dle = stream_reading-by_packet_start []
noise_take [] (suc n) no_dle = stream_reading-by_packet_start []
noise_take (byte ∷ text) (suc n) no_dle = stream_reading-noise byte (take n text) (no_dle 0 (omega arith)) ∙ noise_take text n (λ k below. no_dle (suc k) (omega arith))

pub single_take : (text : List ℕ) (n : ℕ) → NoDle text n → stuffed (take n text) ≡ take n text
single_take text zero no_dle = refl
single_take [] (suc n) no_dle = refl
single_take (byte ∷ text) (suc n) no_dle = doubled-byte tsl_dle byte (take n text) (no_dle 0 (omega arith)) ∙ ap (λ (text : List ℕ). byte ∷ text) (single_take text n (λ k below. no_dle (suc k) (omega arith)))

no_dle_from : (text : List ℕ) (n : ℕ) → Nowhere (Passes (is_byte tsl_dle) text) 0 n → NoDle text n
no_dle_from text n none k below = ne_eqb (get_or text k 0) tsl_dle (λ is. none k (omega arith) below (ap (λ (byte : ℕ). byte == tsl_dle) is))

-- the first DLE, or the end where there is none
pub no_dle_before : (text : List ℕ) (found : Option ℕ) → IsFirstByte (is_byte tsl_dle) text found → NoDle text (unwrap_or found (length text))
no_dle_before text None first = no_dle_from text (length text) first
no_dle_before text (Some place) first = no_dle_from text place first.0.before

pub place_within : (text : List ℕ) (found : Option ℕ) → IsFirstByte (is_byte tsl_dle) text found → unwrap_or found (length text) ≤ length text
place_within text None first = omega arith
place_within text (Some place) first = omega (arith, first.0.high)
