use Rattle.std.proofs.Common.{subst, ℕ, ◌≡◌, ◌+◌, suc, arith}
use Rattle.command_drive.specs.Drive.{wanted}
use Rattle.command_drive.specs.DriveInside.{Shows}
use Rattle.command_drive.proofs.RegularLemmas.{regular_wanted, few_wanted}
use Rattle.command_drive.proofs.bench.Bench.want_all.Goals as goal

pub want-requires-clause-few : goal.want-requires-clause-few
want-requires-clause-few c = omega (arith, c.loop-place.invariant.shows.to_frame.counts, few_wanted c.args.number c.loop-place.place)

pub want-requires-clause-stands : goal.want-requires-clause-stands
want-requires-clause-stands c = record {
  drive = wanted c.args.number c.loop-place.place;
  shows = c.loop-place.invariant.shows;
  regular = regular_wanted c.args.number c.loop-place.place;
}

pub loop-place-preserved : goal.loop-place-preserved
loop-place-preserved c = record {
  shows =
      let next : suc c.loop-place.place ≡ c.loop-place.place + 1 = omega arith in
      subst (λ (n : ℕ). Shows c.want.new.self (wanted c.args.number n)) next (c.want.ensures.comes (wanted c.args.number c.loop-place.place) c.loop-place.invariant.shows);
  ready = c.want.ensures.ready;
}
