use Rattle.std.proofs.Common.{◌≡◌, [], ◌++◌, List, ℕ, sym, ap, ◌∙◌}
use Rattle.std.proofs.lemmas.List.{take_all}
use Rattle.std.specs.Borrow.{Bor}
use Rattle.dle_framing.specs.declared.item.Item.{Item}
use Rattle.dle_framing.specs.Feeding.{joined}
use Rattle.dle_framing.specs.Items.{TextReading, items}
use Rattle.dle_framing.proofs.Readings.{reading-by_start}
use Rattle.dle_framing.proofs.pieces.feed_all.Goals as goal

pub returns-clause-anew : goal.returns-clause-anew
returns-clause-anew c = λ stands.
    let fed = c.loop-piece.invariant in
    let none : items [] ≡ [] = ap (λ (reading : TextReading). reading.items) (reading-by_start []) in
    fed.1
    ∙ sym (ap (λ (before : List (Item (List ℕ))). before ++ fed.0) none)
    ∙ sym (fed.2 [] stands).0
    ∙ ap (λ (pieces : List (Bor (List ℕ))). items (joined pieces)) (take_all c.loop-piece.piece-index c.args.pieces.now c.loop-piece-test.false)
