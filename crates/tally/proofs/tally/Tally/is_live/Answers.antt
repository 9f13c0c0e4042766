use Rattle.std.proofs.Common.{◌≤◌, ap, ◌∙◌, arith}
use Rattle.std.specs.FinSet.{contains}
use Rattle.tally.specs.Kept.{Kept}
use Rattle.tally.proofs.KeptLemmas.{kept_live, never_live}
use Rattle.tally.proofs.tally.Tally.is_live.Goals as goal

pub returns-then-dest-ge-MAX_NUMBERS : goal.returns-then-dest-ge-MAX_NUMBERS
returns-then-dest-ge-MAX_NUMBERS c = λ plant points roots kept.
    let past : 65536 ≤ c.args.dest = omega (arith, c.get-dest.ensures) in
    never_live plant points roots c.args.self.now c.args.dest kept past

pub returns : goal.returns
returns c = λ plant points roots kept.
    c.is_live.ensures
    ∙ ap (λ (tally : Kept). contains tally.marks.live c.get-dest.result) c.self.view_is
    ∙ ap (contains c.args.self.now.marks.live) c.get-dest.ensures
    ∙ kept_live plant points roots c.args.self.now c.args.dest kept
