use Rattle.std.proofs.Common.{refl, arith}
use Rattle.dle_framing.specs.Items.{reading}
use Rattle.panel_session.specs.SoFar.{nothing_yet}
use Rattle.panel_tests.proofs.examples.of_panel_session.worked.Goals as goal

pub work_turn-requires : goal.work_turn-requires
unfolding reading
work_turn-requires c = record {
  plant = c.args.plant.now;
  panel = c.of.result;
  seat = 0;
  past = nothing_yet;
  may = record {
    stands = c.in_ok-session.ensures.new;
    begins = refl;
    may = record { items = omega arith; turns = omega arith; rest = λ some. absurd (some refl) };
    seated = tt;
    serves = c.requires.plant;
  };
}
