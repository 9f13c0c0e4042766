-- Bytes in hexadecimal, one piece after the other.
use Rattle.std.proofs.Common.{◌≡◌, ℕ, zero, suc, ◌+◌, ◌-◌, ◌≤◌, List, [], ◌∷◌, ◌++◌, length, take, drop, refl, ◌∙◌, ap, arith}
use Rattle.hex.specs.Hex.{encode_with}
use Rattle.record_replay.specs.OutputLaws.{encode_with-append}

-- a front, and a front of what is behind it
take_on : (bytes : List ℕ) (at more : ℕ) → at ≤ length bytes → take (at + more) bytes ≡ take at bytes ++ take more (drop at bytes)
take_on bytes zero more within = let is : 0 + more ≡ more = omega arith in rw is refl
take_on [] (suc at) more within = absurd (omega arith)
take_on (byte ∷ bytes) (suc at) more within =
    let is : suc at + more ≡ suc (at + more) = omega arith in
    rw is (ap (λ (front : List ℕ). byte ∷ front) (take_on bytes at more (omega arith)))

-- what is encoded up to a place, and a piece behind it
pub encode_with-piece : (t bytes : List ℕ) (at more : ℕ) → at ≤ length bytes → encode_with t (take (at + more) bytes) ≡ encode_with t (take at bytes) ++ encode_with t (take (at + more - at) (drop at bytes))
encode_with-piece t bytes at more within =
    let is : at + more - at ≡ more = omega arith in
    rw is (ap (encode_with t) (take_on bytes at more within) ∙ encode_with-append t (take at bytes) (take more (drop at bytes)))
