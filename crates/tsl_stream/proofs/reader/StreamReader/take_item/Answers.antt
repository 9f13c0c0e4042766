use Rattle.std.proofs.Common.{◌+◌, ◌<◌, ◌≤◌, None, length, get_or, refl, sym, arith}
use Rattle.tsl_stream.specs.StepsInside.{Steps}
use Rattle.tsl_stream.proofs.FeedLemmas.{passes_none, passes_rest, within_rest, passes_byte, passes_step, none_from_test, feeds_step}
use Rattle.doubled_bytes.proofs.Feeds.{feeds_none}
use Rattle.tsl_stream.specs.Items.{stream_reading}
use Rattle.tsl_stream.proofs.LawLemmas.{reads_on_lem}
use Rattle.tsl_stream.proofs.reader.StreamReader.take_item.Goals as goal

pub loop-used-init : goal.loop-used-init
loop-used-init c = record { within = omega arith; passes = passes_none c.args.self.now }

pub returns-then-used-piece-clause-stands : goal.returns-then-used-piece-clause-stands
returns-then-used-piece-clause-stands c = λ text stands.
    (passes_rest c.args.piece.now _ _ _ _ _ c.loop-used.invariant.passes c.take_run-used.ensures.passes text stands).1

pub returns-then-used-piece-clause-feeds : goal.returns-then-used-piece-clause-feeds
returns-then-used-piece-clause-feeds c = λ text stands.
    feeds_none stream_reading reads_on_lem text c.args.piece.now _ c.if-used-piece.true
    (passes_rest c.args.piece.now _ _ _ _ _ c.loop-used.invariant.passes c.take_run-used.ensures.passes text stands).0

pub returns-then-is_some-clause-stands : goal.returns-then-is_some-clause-stands
returns-then-is_some-clause-stands c = λ text stands.
    let piece = c.args.piece.now in
    let used = c.loop-used.used + c.take_run-used.result in
    let within : used ≤ length piece = within_rest piece _ _ c.loop-used.invariant.within c.take_run-used.ensures.within in
    (feeds_step piece used (get_or piece used 0) c.take-item.result c.args.self.now c.take_run-used.new.self c.take-item.new.self (omega (arith, within)) refl
    (passes_rest piece _ _ _ _ _ c.loop-used.invariant.passes c.take_run-used.ensures.passes) c.take-item.ensures (sym c.if-is_some.ensures) text stands).1

pub returns-then-is_some-clause-feeds : goal.returns-then-is_some-clause-feeds
returns-then-is_some-clause-feeds c = λ text stands.
    let piece = c.args.piece.now in
    let used = c.loop-used.used + c.take_run-used.result in
    let within : used ≤ length piece = within_rest piece _ _ c.loop-used.invariant.within c.take_run-used.ensures.within in
    (feeds_step piece used (get_or piece used 0) c.take-item.result c.args.self.now c.take_run-used.new.self c.take-item.new.self (omega (arith, within)) refl
    (passes_rest piece _ _ _ _ _ c.loop-used.invariant.passes c.take_run-used.ensures.passes) c.take-item.ensures (sym c.if-is_some.ensures) text stands).0

pub loop-used-preserved : goal.loop-used-preserved
loop-used-preserved c =
    let piece = c.args.piece.now in
    let used = c.loop-used.used + c.take_run-used.result in
    let within : used ≤ length piece = within_rest piece _ _ c.loop-used.invariant.within c.take_run-used.ensures.within in
    let more : used < length piece = omega (arith, within) in
    let step : Steps c.take_run-used.new.self.state c.take_run-used.new.self.front (get_or piece used 0) None c.take-item.new.self.state c.take-item.new.self.front =
    rw (none_from_test c.take-item.result (sym c.if-is_some.ensures)) at c.take-item.ensures in
    record {
      within = omega (arith, more);
      passes = passes_byte piece used (get_or piece used 0) _ _ _ more refl
          (passes_rest piece _ _ _ _ _ c.loop-used.invariant.passes c.take_run-used.ensures.passes) (passes_step (get_or piece used 0) _ _ step);
    }
