use Rattle.std.proofs.Common.{◌≡◌, ◌+◌, ◌∷◌, [], ◌++◌, sum, get_or, take, sym, ap, ◌∙◌, arith}
use Rattle.std.proofs.lemmas.Bool.{ne_eqb}
use Rattle.std.proofs.lemmas.List.{take_more, take_more_set}
use Rattle.std.proofs.lemmas.List.Sums.{sum_by-append}
use Rattle.dle_framing.specs.Numbers.{dle}
use Rattle.dle_framing.specs.Frame.{doubled}
use Rattle.doubled_bytes.proofs.Runs.{single_more}
use Rattle.dle_framing.proofs.front.copy_run.Goals as goal

pub loop-place-preserved : goal.loop-place-preserved
loop-place-preserved c =
    let text = c.args.text.now in
    let place = c.loop-place.place in
    let byte = get_or text place 0 in
    let more = take_more text place 0 (omega arith) in
    let other = ne_eqb byte dle c.if-byte-eq-DLE.false in
    let whole : sum (take (place + 1) text) ≡ sum (take place text) + byte = ap sum more ∙ sum_by-append (λ byte. byte) (take place text) (byte ∷ []) ∙ omega arith in
    record {
      single = ap doubled more ∙ single_more dle (take place text) byte c.loop-place.invariant.single other ∙ sym more;
      copied = take_more_set c.loop-place.into place byte (omega arith) ∙ ap (λ front. front ++ byte ∷ []) c.loop-place.invariant.copied ∙ sym more;
      total = omega (arith, whole, c.loop-place.invariant.total);
    }
