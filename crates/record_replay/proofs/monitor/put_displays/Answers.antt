use Rattle.std.proofs.Common.{List, [], ◌∷◌, ◌++◌, ℕ, length, refl, sym, ap, ◌∙◌, subst, append-nil, arith}
use Rattle.tsl_umd5.specs.Packet.{Display, view}
use Rattle.record_replay.specs.OutputInside.{Puts}
use Rattle.record_replay.specs.OutputLaws.{Puts-none, Puts-more}
use Rattle.record_replay.specs.Monitor.{displays_lines, display_line}
use Rattle.record_replay.proofs.MonitorLemmas.{lines_more, lines_push, one_less}
use Rattle.record_replay.proofs.monitor.put_displays.Goals as goal

pub loop-shown-init : goal.loop-shown-init
loop-shown-init g c = (c.requires, [], refl, Puts-none g.K.Drain.written g.K.Drain.faults c.args.out.now)

pub put_display-requires : goal.put_display-requires
put_display-requires g c =
    let less = one_less (view c.in-Some.shown) c.next.new.self.displays c.loop-shown.packet.displays c.in-Some.ensures.first in
    omega (arith, less.1, c.loop-shown.invariant.0)

pub loop-shown-smaller : goal.loop-shown-smaller
loop-shown-smaller g c = omega (arith, ap (length {A = Display}) c.in-Some.ensures.first)

pub loop-shown-preserved : goal.loop-shown-preserved
loop-shown-preserved g c =
    let so_far = c.loop-shown.invariant in
    let less = one_less (view c.in-Some.shown) c.next.new.self.displays c.loop-shown.packet.displays c.in-Some.ensures.first in (
      omega (arith, less.0, so_far.0),
      so_far.1 ++ view c.in-Some.shown ∷ [],
      lines_more c.args.packet.now.displays so_far.1 c.next.new.self.displays (view c.in-Some.shown) (so_far.2 ∙ ap (λ (left : List Display). so_far.1 ++ left) c.in-Some.ensures.first),
      subst (λ (lines : List ℕ). Puts g.K.Drain.written g.K.Drain.faults lines c.args.out.now c.put_display.new.out) (sym (lines_push so_far.1 (view c.in-Some.shown)))
          (Puts-more g.K.Drain.written g.K.Drain.faults (displays_lines so_far.1) (display_line (view c.in-Some.shown)) c.args.out.now c.loop-shown.out c.put_display.new.out so_far.3 c.put_display.ensures),
    )

pub returns : goal.returns
returns g c =
    let so_far = c.loop-shown.invariant in
    subst (λ (displays : List Display). Puts g.K.Drain.written g.K.Drain.faults (displays_lines displays) c.args.out.now c.loop-shown.out)
    (sym (so_far.2 ∙ ap (λ (left : List Display). so_far.1 ++ left) c.in_default.ensures.none.0 ∙ append-nil so_far.1)) so_far.3
