use Rattle.std.proofs.Common.{get_or, take, refl, sym, ap, ◌∙◌, arith}
use Rattle.std.proofs.lemmas.Bool.{ne_eqb}
use Rattle.std.proofs.lemmas.List.{take_more}
use Rattle.dle_framing.specs.Numbers.{dle}
use Rattle.dle_framing.specs.Frame.{doubled}
use Rattle.dle_framing.specs.Items.{reading}
use Rattle.doubled_bytes.proofs.Runs.{single_more}
use Rattle.dle_framing.proofs.FeedLemmas.{noise_none, noise_more}
use Rattle.dle_framing.proofs.place.dle_place.Goals as goal

pub loop-place-init : goal.loop-place-init
loop-place-init c = record { noise = noise_none; single = refl }

pub loop-place-preserved : goal.loop-place-preserved
loop-place-preserved c =
    let text = c.args.text.now in
    let place = c.loop-place.place in
    let byte = get_or text place 0 in
    let more = take_more text place 0 (omega arith) in
    let other = ne_eqb byte dle c.if-byte-eq-DLE.false in
    record {
      noise = ap reading more ∙ noise_more (take place text) byte c.loop-place.invariant.noise other;
      single = ap doubled more ∙ single_more dle (take place text) byte c.loop-place.invariant.single other ∙ sym more;
    }
