use Rattle.std.proofs.Common.{◌++◌}
use Rattle.trace_lines.proofs.RequestLemmas.{show_part, refresh_text, no_refresh, a_refresh, neither}
use Rattle.trace_lines.proofs.ScreenLemmas.{screen_small}
use Rattle.trace_lines.proofs.reading.request.read_show.Goals as goal

pub returns-in_default-clause-only : goal.returns-in_default-clause-only
returns-in_default-clause-only c = λ screen refresh behind begins.
    c.in_default.ensures.only screen (refresh_text refresh ++ behind)
    (show_part c.args.plant.now c.args.text.now behind screen refresh (screen_small c.args.plant.now screen c.in_default.ensures.plant begins.fits) begins)

pub returns-in-Some-behind-clause-only : goal.returns-in-Some-behind-clause-only
returns-in-Some-behind-clause-only c = λ screen refresh behind begins.
    let first = c.in-Some.ensures.only screen (refresh_text refresh ++ behind)
    (show_part c.args.plant.now c.args.text.now behind screen refresh (screen_small c.args.plant.now screen c.in-Some.ensures.plant begins.fits) begins) in
    let second = no_refresh c.in-Some.refresh.now c.in-Some-behind.rest.now behind refresh c.in-Some-behind.ensures first.1 in
    (cc (first.0, second.0), second.1)

pub returns-in-Some-behind-2-clause-only : goal.returns-in-Some-behind-2-clause-only
returns-in-Some-behind-2-clause-only c = λ screen refresh behind begins.
    let first = c.in-Some.ensures.only screen (refresh_text refresh ++ behind)
    (show_part c.args.plant.now c.args.text.now behind screen refresh (screen_small c.args.plant.now screen c.in-Some.ensures.plant begins.fits) begins) in
    let second = a_refresh c.in-Some.refresh.now c.in-Some-behind-2.rest.now behind refresh c.in-Some-behind-2.ensures first.1 in
    (cc (first.0, second.0), second.1)

pub returns-clause-only : goal.returns-clause-only
returns-clause-only c = λ screen refresh behind begins.
    let first = c.in-Some.ensures.only screen (refresh_text refresh ++ behind)
    (show_part c.args.plant.now c.args.text.now behind screen refresh (screen_small c.args.plant.now screen c.in-Some.ensures.plant begins.fits) begins) in
    neither c.in-Some.refresh.now behind refresh c.in_default-behind.ensures c.in_default-behind-2.ensures first.1
