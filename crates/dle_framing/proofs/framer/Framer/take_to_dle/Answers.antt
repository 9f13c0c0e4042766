use Rattle.std.proofs.Common.{◌<◌, None, length, take, arith}
use Rattle.dle_framing.specs.Numbers.{dle}
use Rattle.dle_framing.specs.declared.framer.Framer.{Framer}
use Rattle.doubled_bytes.specs.declared.state.State.TheVariants.{OutsideDle, InsideDle}
use Rattle.dle_framing.specs.StepsInside.{Steps}
use Rattle.dle_framing.specs.FramerInside.{PassesOver}
use Rattle.dle_framing.proofs.FeedLemmas.{passes_noise, passes_body, passes_dle}
use Rattle.dle_framing.proofs.StepLemmas.{outside-dle, inside-dle}
use Rattle.dle_framing.proofs.framer.Framer.take_to_dle.Goals as goal

pub returns-then-count-piece-clause-passes : goal.returns-then-count-piece-clause-passes
returns-then-count-piece-clause-passes c = passes_noise _ c.args.self.now c.in-Outside.is c.dle_place-count.ensures.noise

pub returns-else-count-piece-clause-passes : goal.returns-else-count-piece-clause-passes
returns-else-count-piece-clause-passes c =
    let self = c.args.self.now in
    let more : c.dle_place-count.result < length c.args.piece.now = omega arith in
    let steps : Steps self.state self.front dle None OutsideDle self.front = rw c.in-Outside.is (outside-dle self.front) in
    passes_dle c.args.piece.now c.dle_place-count.result self self _ more (c.dle_place-count.ensures.found more)
    (passes_noise _ self c.in-Outside.is c.dle_place-count.ensures.noise) steps

pub returns-then-count-piece-2-clause-passes : goal.returns-then-count-piece-2-clause-passes
returns-then-count-piece-2-clause-passes c = passes_body _ c.args.self.now _ c.in-Inside.is c.in-Inside.is c.take_run-count.ensures.single c.take_run-count.ensures.front

pub returns-else-count-piece-2-clause-passes : goal.returns-else-count-piece-2-clause-passes
returns-else-count-piece-2-clause-passes c =
    let self = c.args.self.now in
    let run : Framer = record self { front = c.take_run-count.new.self } in
    let more : c.take_run-count.result < length c.args.piece.now = omega arith in
    let steps : Steps self.state run.front dle None InsideDle run.front = rw c.in-Inside.is (inside-dle run.front) in
    let before : PassesOver (take c.take_run-count.result c.args.piece.now) self run = passes_body _ self run c.in-Inside.is c.in-Inside.is c.take_run-count.ensures.single c.take_run-count.ensures.front in
    passes_dle c.args.piece.now c.take_run-count.result self run _ more (c.take_run-count.ensures.found more) before steps
