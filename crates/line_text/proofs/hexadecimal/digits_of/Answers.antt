-- The table is held against the digits of each of the 256 bytes, by computing.
use Rattle.std.proofs.Common.{◌≡◌, ℕ, ◌+◌, ◌*◌, ◌/◌, ◌%◌, ◌<◌, true, slice_index, List, refl, arith}
use Rattle.hex.specs.Hex.{upper_digits}
use Rattle.line_text.specs.declared.hexadecimal.TheConstants.{PAIRS}
use Rattle.line_text.proofs.HexLemmas.{agree_below, agree_at}
use Rattle.line_text.proofs.hexadecimal.digits_of.Goals as goal

high_of : (table : List ℕ) (byte : ℕ) → byte < 256
    → agree_below (λ k. slice_index table (2 * k)) (λ k. slice_index upper_digits (k / 16)) 256 ≡ true
    → slice_index table (2 * byte) ≡ slice_index upper_digits (byte / 16)
high_of table byte below all = agree_at _ _ 256 all byte below

low_of : (table : List ℕ) (byte : ℕ) → byte < 256
    → agree_below (λ k. slice_index table (2 * k + 1)) (λ k. slice_index upper_digits (k % 16)) 256 ≡ true
    → slice_index table (2 * byte + 1) ≡ slice_index upper_digits (byte % 16)
low_of table byte below all = agree_at _ _ 256 all byte below

pub returns-clause-high : goal.returns-clause-high
unfolding agree_below
returns-clause-high c = high_of PAIRS c.args.byte (omega arith) refl

pub returns-clause-low : goal.returns-clause-low
unfolding agree_below
returns-clause-low c = low_of PAIRS c.args.byte (omega arith) refl
