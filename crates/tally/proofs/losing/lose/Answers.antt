use Rattle.std.proofs.Common.{◌≡◌, Some, None, sym, ap, ◌∙◌}
use Rattle.std.specs.FinSet.{contains}
use Rattle.tally.proofs.LoseLemmas.{dark_now, no_more, loses_one, doubts_inserted, waits_inserted, stays_doubted, waits_one}
use Rattle.tally.proofs.losing.lose.Goals as goal

pub returns-in_default-clause-losing : goal.returns-in_default-clause-losing
returns-in_default-clause-losing g c = λ old roots touched losing cause.
    loses_one c.args.graph.now.plant c.args.dest c.args.marks.now c.take.new.self c.args.waiting.now c.args.waiting.now c.args.doubted.now old roots touched losing cause
    (c.take.ensures.marks old losing.kept) c.take.ensures.live (record { more = λ device has. has })
    (λ device fed. let none : None ≡ Some device = c.in_default.ensures.device old losing.kept ∙ fed in cc)

pub returns-in_default-clause-dark : goal.returns-in_default-clause-dark
returns-in_default-clause-dark g c = dark_now c.args.marks.now c.take.new.self c.args.dest c.take.ensures.live

pub returns-in_default-clause-fewer : goal.returns-in_default-clause-fewer
returns-in_default-clause-fewer g c = no_more c.args.marks.now c.take.new.self c.args.dest c.take.ensures.live

pub returns-then-not-contains-clause-losing : goal.returns-then-not-contains-clause-losing
returns-then-not-contains-clause-losing g c = λ old roots touched losing cause.
    loses_one c.args.graph.now.plant c.args.dest c.args.marks.now c.take.new.self c.args.waiting.now c.insert.new.self c.args.doubted.now old roots touched losing cause
    (c.take.ensures.marks old losing.kept) c.take.ensures.live (doubts_inserted c.args.waiting.now c.insert.new.self c.get-then-not-contains.result c.insert.ensures)
    (λ device fed. waits_inserted c.args.waiting.now c.insert.new.self c.args.doubted.now c.get-then-not-contains.result device c.in-Some.device c.insert.ensures c.get-then-not-contains.ensures (c.in-Some.ensures.device old losing.kept ∙ fed))

pub returns-then-not-contains-clause-dark : goal.returns-then-not-contains-clause-dark
returns-then-not-contains-clause-dark g c = dark_now c.args.marks.now c.take.new.self c.args.dest c.take.ensures.live

pub returns-then-not-contains-clause-fewer : goal.returns-then-not-contains-clause-fewer
returns-then-not-contains-clause-fewer g c = no_more c.args.marks.now c.take.new.self c.args.dest c.take.ensures.live

pub returns-else-not-contains-clause-losing : goal.returns-else-not-contains-clause-losing
returns-else-not-contains-clause-losing g c = λ old roots touched losing cause.
    loses_one c.args.graph.now.plant c.args.dest c.args.marks.now c.take.new.self c.args.waiting.now c.args.waiting.now c.args.doubted.now old roots touched losing cause
    (c.take.ensures.marks old losing.kept) c.take.ensures.live (record { more = λ device has. has })
    (λ device fed. stays_doubted c.args.waiting.now c.args.doubted.now c.get.result device c.in-Some.device (sym c.contains.ensures ∙ c.if-not-contains.false) c.get.ensures (c.in-Some.ensures.device old losing.kept ∙ fed))

pub returns-else-not-contains-clause-dark : goal.returns-else-not-contains-clause-dark
returns-else-not-contains-clause-dark g c = dark_now c.args.marks.now c.take.new.self c.args.dest c.take.ensures.live

pub returns-else-not-contains-clause-fewer : goal.returns-else-not-contains-clause-fewer
returns-else-not-contains-clause-fewer g c = no_more c.args.marks.now c.take.new.self c.args.dest c.take.ensures.live

pub returns-then-not-contains-clause-waits : goal.returns-then-not-contains-clause-waits
returns-then-not-contains-clause-waits g c = λ old are.
    waits_one c.args.graph.now.plant old c.args.dest c.args.marks.now c.args.waiting.now c.insert.new.self c.args.doubted.now c.get-then-not-contains.result c.in-Some.device
    c.insert.ensures c.get-then-not-contains.ensures (c.in-Some.ensures.device old are)
    (ap (contains c.args.doubted.now) (sym c.get.ensures) ∙ sym c.contains.ensures ∙ c.if-not-contains.true)
    (sym c.is_live.ensures ∙ c.if-not-is_live.false)
