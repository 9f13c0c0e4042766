use Rattle.std.proofs.Common.{ℕ, ◌+◌, ◌<◌, length, get_or, None, refl, sym, ap, arith}
use Rattle.std.proofs.lemmas.List.{take_rest, length-drop}
use Rattle.dle_framing.specs.StepsInside.{Steps}
use Rattle.dle_framing.proofs.FeedLemmas.{passes_to, passes_byte, passes_step, none_from_test, feeds_step}
use Rattle.doubled_bytes.proofs.Feeds.{feeds_none}
use Rattle.dle_framing.specs.Items.{reading}
use Rattle.dle_framing.proofs.LawLemmas.{reads_on_lem}
use Rattle.dle_framing.proofs.framer.Framer.take_by_runs.Goals as goal

pub returns-then-used-piece-clause-feeds : goal.returns-then-used-piece-clause-feeds
returns-then-used-piece-clause-feeds c = λ text stands.
    feeds_none reading reads_on_lem text c.args.piece.now c.loop-used.used c.if-used-piece.true (c.loop-used.invariant.passes text stands).0

pub returns-then-used-piece-clause-stands : goal.returns-then-used-piece-clause-stands
returns-then-used-piece-clause-stands c = λ text stands. (c.loop-used.invariant.passes text stands).1

pub take-item-requires : goal.take-item-requires
take-item-requires c = c.loop-used.invariant.stops (omega (arith, c.loop-used.invariant.within))

pub returns-then-is_some-clause-stands : goal.returns-then-is_some-clause-stands
returns-then-is_some-clause-stands c = λ text stands.
    let piece = c.args.piece.now in
    let more : c.loop-used.used < length piece = omega (arith, c.loop-used.invariant.within) in
    (feeds_step piece c.loop-used.used (get_or piece c.loop-used.used 0) c.take-item.result c.args.self.now c.loop-used.self c.take-item.new.self more refl
    c.loop-used.invariant.passes c.take-item.ensures (sym c.if-is_some.ensures) text stands).1

pub returns-then-is_some-clause-feeds : goal.returns-then-is_some-clause-feeds
returns-then-is_some-clause-feeds c = λ text stands.
    let piece = c.args.piece.now in
    let more : c.loop-used.used < length piece = omega (arith, c.loop-used.invariant.within) in
    (feeds_step piece c.loop-used.used (get_or piece c.loop-used.used 0) c.take-item.result c.args.self.now c.loop-used.self c.take-item.new.self more refl
    c.loop-used.invariant.passes c.take-item.ensures (sym c.if-is_some.ensures) text stands).0

pub loop-used-preserved : goal.loop-used-preserved
loop-used-preserved c =
    let piece = c.args.piece.now in
    let used = c.loop-used.used in
    let more : used < length piece = omega (arith, c.loop-used.invariant.within) in
    let step : Steps c.loop-used.self.state c.loop-used.self.front (get_or piece used 0) None c.take-item.new.self.state c.take-item.new.self.front =
    rw (none_from_test c.take-item.result (sym c.if-is_some.ensures)) at c.take-item.ensures in
    let taken = passes_byte piece used (get_or piece used 0) c.args.self.now c.loop-used.self c.take-item.new.self more refl c.loop-used.invariant.passes (passes_step (get_or piece used 0) c.loop-used.self c.take-item.new.self step) in
    let rest = take_rest piece (used + 1) in
    let count = ap (length {A = ℕ}) rest in
    record {
      within = omega (arith, more, c.take_to_dle-used.ensures.within, count, length-drop (used + 1) piece);
      passes = passes_to piece _ (used + 1) c.take_to_dle-used.result c.args.self.now c.take-item.new.self c.take_to_dle-used.new.self taken rest c.take_to_dle-used.ensures.passes;
      stops = λ before. c.take_to_dle-used.ensures.stops (omega (arith, before, count, length-drop (used + 1) piece));
    }
