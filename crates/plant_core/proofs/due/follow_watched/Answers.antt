use Rattle.std.proofs.Common.{ℕ, List, subst, sym}
use Rattle.std.specs.Prelude.{Contains}
use Rattle.plant_core.specs.DueInside.{StayDue}
use Rattle.plant_core.proofs.DueLemmas.{stay_then, watchers_stay, tapped_stay}
use Rattle.plant_core.proofs.TurnLemmas.{values_followed}
use Rattle.plant_core.proofs.due.follow_watched.Goals as goal

pub returns : goal.returns
returns c old turned =
    let plant = c.args.plant.now in
    let taps = c.args.points.now.taps in
    let turned_last = c.add_turned-2.ensures in
    let later : StayDue plant c.add_moved.new.due c.add_turned-2.new.due = stay_then plant c.add_moved.new.due c.add_turned.new.due c.add_turned-2.new.due c.add_turned.ensures.due turned_last.due in
    values_followed plant old c.args.points.now.entries c.args.changes.now c.args.tallies.now taps c.args.due.now c.add_turned-2.new.due turned c.requires.tapped
    (stay_then plant c.args.due.now c.add_moved.new.due c.add_turned-2.new.due c.add_moved.ensures.due later)
    (λ dest named. watchers_stay plant c.add_moved.new.due c.add_turned-2.new.due dest later (c.add_moved.ensures.moved dest named))
    (λ origin has. tapped_stay plant c.add_turned.new.due c.add_turned-2.new.due taps origin turned_last.due (c.add_turned.ensures.tapped origin (subst (λ (list : List ℕ). Contains list origin) (sym c.flipped.ensures) has)))
    (λ origin has. turned_last.tapped origin (subst (λ (list : List ℕ). Contains list origin) (sym c.flipped-2.ensures) has))
