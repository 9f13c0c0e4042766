-- The table is held against the definition at each of the 256 bytes, by computing.
use Rattle.std.proofs.Common.{◌≡◌, ℕ, ◌<◌, true, slice_index, List, refl, arith}
use Rattle.line_text.proofs.HexLemmas.{agree_below, agree_at}
use Rattle.record_replay.specs.PairsInside.{high_of}
use Rattle.record_replay.specs.declared.pairs.TheConstants.{HIGHS}
use Rattle.record_replay.proofs.pairs.first_of.Goals as goal

from_table : (table : List ℕ) (byte : ℕ) → byte < 256
    → agree_below (λ k. slice_index table k) (λ k. high_of k) 256 ≡ true
    → slice_index table byte ≡ high_of byte
from_table table byte below all = agree_at _ _ 256 all byte below

pub returns : goal.returns
unfolding agree_below
returns c = from_table HIGHS c.args.digit (omega arith) refl
