use Rattle.std.proofs.Common.{◌==◌, ◌&&◌, Bool, not, get_or, take, sym, ap, ◌∙◌, arith}
use Rattle.std.proofs.lemmas.List.{take_more}
use Rattle.tsl_stream.specs.Numbers.{tsl_dle}
use Rattle.tsl_stream.specs.WritingInside.{half_after}
use Rattle.tsl_stream.proofs.HalfLemmas.{half_after-push}
use Rattle.tsl_stream.proofs.half.ends_half.Goals as goal

pub loop-byte-preserved : goal.loop-byte-preserved
loop-byte-preserved c =
    let bytes = c.args.bytes.now in
    let i = c.loop-byte.byte-index in
    let byte = get_or bytes i 0 in
    c.is_half-ends.ensures
    ∙ ap (λ (ends : Bool). byte == tsl_dle && not ends) c.loop-byte.invariant
    ∙ sym (ap (half_after c.args.half) (take_more bytes i 0 (omega arith)) ∙ half_after-push c.args.half (take i bytes) byte)
