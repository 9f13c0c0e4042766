use Rattle.std.proofs.Common.{◌∙◌, arith}
use Rattle.dle_framing.proofs.FrameLemmas.{frame-single, five-two}
use Rattle.dle_framing.proofs.encode.whole_frame.Goals as goal

pub returns-clause-frame : goal.returns-clause-frame
returns-clause-frame c =
    let spelled = c.ending.ensures ∙ five-two c.args.bytes.now c.ending.result (omega arith) (omega arith) in
    frame-single c.args.bytes.now _ spelled c.if-not-is_single.ensures.single
