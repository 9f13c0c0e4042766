use Rattle.std.proofs.Common.{◌≡◌, ◌≤◌, take, IsTrue, refl, arith}
use Rattle.std.proofs.lemmas.List.{length-take, take-take}
use Rattle.tsl_stream.specs.Kept.{is_inside}
use Rattle.tsl_stream.proofs.FeedLemmas.{passes_noise, passes_body}
use Rattle.tsl_stream.proofs.reader.StreamReader.take_run.Goals as goal

pub returns-in-Outside-clause-passes : goal.returns-in-Outside-clause-passes
returns-in-Outside-clause-passes c = passes_noise _ c.args.self.now c.in-Outside.is c.dle_place.ensures.noise

pub returns-in-Inside-clause-passes : goal.returns-in-Inside-clause-passes
returns-in-Inside-clause-passes c =
    let self = c.args.self.now in
    let piece = c.args.piece.now in
    let count = c.dle_place-count.result in
    let most = c.min-most.result in
    let within : count ≤ most = omega (arith, c.dle_place-count.ensures.within, length-take most piece) in
    let same : take count (take most piece) ≡ take count piece = take-take count most piece within in
    let inside : IsTrue (is_inside self.state) = rw c.in-Inside.is refl in
    passes_body (take count piece) self _ c.in-Inside.is c.in-Inside.is (rw same at c.dle_place-count.ensures.single)
    (omega (arith, length-take count piece, c.missing.ensures, self.more inside, within)) c.append.ensures
