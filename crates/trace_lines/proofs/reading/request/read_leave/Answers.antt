use Rattle.trace_lines.proofs.RequestLemmas.{leave_part}
use Rattle.trace_lines.proofs.ScreenLemmas.{panel_small}
use Rattle.trace_lines.proofs.reading.request.read_leave.Goals as goal

pub returns-in_default-clause-only : goal.returns-in_default-clause-only
returns-in_default-clause-only c = λ panel behind begins.
    c.in_default.ensures.only panel behind (leave_part c.args.plant.now c.args.text.now behind panel (panel_small c.args.plant.now panel c.in_default.ensures.plant begins.fits) begins)

pub returns-clause-only : goal.returns-clause-only
returns-clause-only c = λ panel behind begins.
    let first = c.in-Some.ensures.only panel behind (leave_part c.args.plant.now c.args.text.now behind panel (panel_small c.args.plant.now panel c.in-Some.ensures.plant begins.fits) begins) in
    (cc first.0, first.1)
