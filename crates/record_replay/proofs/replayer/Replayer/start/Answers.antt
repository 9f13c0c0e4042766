use Rattle.std.proofs.Common.{refl, arith}
use Rattle.plant_core.proofs.Validity.{IsValid-start}
use Rattle.plant_core.proofs.ShortLemmas.{StaysShort-start}
use Rattle.record_replay.proofs.SmallLemmas.{small_nothing}
use Rattle.record_replay.proofs.WorksLemmas.{settled-begun}
use Rattle.record_replay.proofs.replayer.Replayer.start.Goals as goal

pub returns : goal.returns
returns c = record {
  plant_is = refl;
  state_is = c.in_ok-start.ensures;
  valid = IsValid-start c.args.plant.now c.in_ok-sessions.ensures.plant;
  short = StaysShort-start c.args.plant.now;
  settled = settled-begun c.args.plant.now;
  count = c.in_ok-sessions.ensures.sessions.count;
  each = c.in_ok-sessions.ensures.sessions.each;
  small = λ panel. small_nothing 0;
  empty = c.in_ok-outbox.ensures.empty;
  places = omega (arith, c.in_ok-outbox.ensures.places, c.room_of.ensures);
}
