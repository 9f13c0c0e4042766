use Rattle.std.proofs.Common.{◌≡◌, true, ◌∙◌, ap, sym, subst}
use Rattle.std.proofs.lemmas.Bool.{true≢false}
use Rattle.plant_config.specs.Screens.{has_screen}
use Rattle.plant_config.proofs.ScreenLemmas.{screen_of-Some, screen_of-None}
use Rattle.trace_lines.specs.LineInside.{BeginsWithNumber}
use Rattle.trace_lines.proofs.reading.request.read_screen.Goals as goal

pub returns-in_err-number-clause-only : goal.returns-in_err-number-clause-only
returns-in_err-number-clause-only c = rw c.from_residual.ensures (λ screen behind begins. c.in_err-number.ensures.only screen behind begins.number)

pub returns-in_err-screen-clause-only : goal.returns-in_err-screen-clause-only
returns-in_err-screen-clause-only c =
    rw c.from_residual-in_err-screen.ensures (λ screen behind begins.
    let both = c.in_ok-number.ensures.only screen behind begins.number in
    let none = screen_of-None c.args.plant.now c.in_ok-number.number c.in_err-screen.ensures.screen in
    absurd (true≢false (sym begins.has_screen ∙ ap (has_screen c.args.plant.now) (sym both.0) ∙ none)))

pub returns-clause-found : goal.returns-clause-found
returns-clause-found c =
    let one = screen_of-Some c.args.plant.now c.in_ok-number.number c.in_ok-screen.screen c.in_ok-screen.ensures.screen in
    record {
      number = subst (λ n. BeginsWithNumber c.args.text.now n c.in_ok-number.rest.now) (sym one.0) c.in_ok-number.ensures.found;
      has_screen = subst (λ n. has_screen c.args.plant.now n ≡ true) (sym one.0) one.1;
    }

pub returns-clause-only : goal.returns-clause-only
returns-clause-only c = λ screen behind begins.
    let one = screen_of-Some c.args.plant.now c.in_ok-number.number c.in_ok-screen.screen c.in_ok-screen.ensures.screen in
    let both = c.in_ok-number.ensures.only screen behind begins.number in
    (one.0 ∙ both.0, both.1)
