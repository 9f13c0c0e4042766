use Rattle.std.proofs.Common.{ℕ, List, ◌∷◌, length, refl, sym, ap, ◌∙◌, arith}
use Rattle.std.proofs.lemmas.Bool.{ne_eqb}
use Rattle.dle_framing.specs.Numbers.{dle, stx, etx}
use Rattle.dle_framing.specs.Items.{longest_run, with_item, item_of, reading}
use Rattle.doubled_bytes.proofs.Runs.{length-behind}
use Rattle.dle_framing.proofs.PlainLemmas.{frame-nothing, frame-one, frame-ended, frame-again, frame-left, stopped_at, shorter_frame}
use Rattle.dle_framing.proofs.plain.start_of_frame.Goals as goal

pub returns-in_default : goal.returns-in_default
returns-in_default c = frame-nothing c.args.text.now (sym c.in_ok-body.ensures.behind ∙ c.in_default.ensures)

pub returns-in_default-first_byte : goal.returns-in_default-first_byte
returns-in_default-first_byte c =
    frame-one c.args.text.now c.in-Some.field-0-0
    (sym c.in_ok-body.ensures.behind ∙ c.in-Some.ensures ∙ ap (λ (after : List ℕ). c.in-Some.field-0-0 ∷ after) c.in_default-first_byte.ensures)

pub returns-in-3 : goal.returns-in-3
returns-in-3 c =
    let text = c.args.text.now in
    let stops = stopped_at (longest_run text).behind _ _ _ _ _ etx c.in_ok-body.ensures.behind c.in-Some.ensures c.in-Some-first_byte.ensures c.in-3.is in
    let both = c.in-Some-first_byte.behind_both.now in (
      frame-ended text c.in-Some.field-0-0 both stops ∙ ap (λ item. with_item item (reading both)) (sym (c.item_with.ensures ∙ ap item_of c.in_ok-body.ensures.spelled)),
      shorter_frame text both c.in-Some.field-0-0 etx stops,
    )

pub returns-in-2 : goal.returns-in-2
returns-in-2 c =
    let text = c.args.text.now in
    let stops = stopped_at (longest_run text).behind _ _ _ _ _ stx c.in_ok-body.ensures.behind c.in-Some.ensures c.in-Some-first_byte.ensures c.in-2.is in (
      frame-again text c.in-Some.field-0-0 c.in-Some-first_byte.behind_both.now stops ∙ ap reading (sym (c.in_ok-body.ensures.behind ∙ stops)),
      omega (arith, length-behind dle text, ap (length {A = ℕ}) c.in_ok-body.ensures.behind),
    )

pub returns-in_default-control : goal.returns-in_default-control
returns-in_default-control c =
    let text = c.args.text.now in
    let control = c.in-Some-first_byte.control in
    let both = c.in-Some-first_byte.behind_both.now in
    let stops = stopped_at (longest_run text).behind _ _ both _ control control c.in_ok-body.ensures.behind c.in-Some.ensures c.in-Some-first_byte.ensures refl in (
      frame-left text c.in-Some.field-0-0 control both stops (ne_eqb control etx (λ is. omega arith)) (ne_eqb control stx (λ is. omega arith)),
      shorter_frame text both c.in-Some.field-0-0 control stops,
    )
