use Rattle.plant_core.proofs.DueLemmas.{head_is, head_none}
use Rattle.plant_core.proofs.due.carries.Goals as goal

pub returns-in-Some : goal.returns-in-Some
returns-in-Some c =
    let of = rw (c.taps.ensures, c.get.ensures) at c.head_of.ensures in
    rw c.get-in-Some.ensures (head_is c.args.points.now.taps c.args.dest c.in-Some.head c.args.origin c.head_of.result of c.in-Some.is)

pub returns-in-None : goal.returns-in-None
returns-in-None c =
    let of = rw (c.taps.ensures, c.get.ensures) at c.head_of.ensures in
    head_none c.args.points.now.taps c.args.dest c.args.origin c.head_of.result of c.in-None.is
