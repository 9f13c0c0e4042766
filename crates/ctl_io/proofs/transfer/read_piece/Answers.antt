use Rattle.std.proofs.Common.{◌≡◌, ℕ, ◌-◌, ◌≤◌, List, ◌++◌, length, take, drop, arith, rules, length-take-le}
use Rattle.std.proofs.lemmas.List.{places, same_lists}
use Rattle.ctl_io.proofs.SourceLemmas.{reads_behind}
use Rattle.ctl_io.proofs.transfer.read_piece.Goals as goal

-- a vector whose elements from n on were written
written_behind : (n len : ℕ) (old new : List ℕ) → n ≤ length old → length new ≡ length old - n → len ≡ length old → take len (take n old ++ (new ++ drop (length new) (drop n old)) ++ drop (length (take n old ++ (new ++ drop (length new) (drop n old)))) old) ≡ take n old ++ new
written_behind n len old new within long is = same_lists _ _ (grind (arith, places)) (λ k d h. grind (arith, places))

pub returns-clause-piece : goal.returns-clause-piece
returns-clause-piece g c =
    let wide = c.widen.new.whole.items in
    let widened = c.in_ok-widen.ensures in
    let long : length (take c.args.count wide) ≡ c.args.count = length-take-le _ _ (search rules) in
    let room : length c.read.new.into ≡ length wide - c.args.count = search (rules, places) in
    rw (written_behind c.args.count c.widen.new.whole.len wide c.read.new.into (search rules) room (search rules))
    (reads_behind c.read.result c.args.count _ _ c.read.new.into _ _ widened.front long (search rules) c.read.ensures.bytes c.read.ensures.left)
