use Rattle.std.proofs.Common.{ap, sym, subst, arith, Contains, slice_index_or}
use mathlib.Core.List.{IsPrefix}
use Rattle.history_lock.specs.ClosingInside.{Covers}
use Rattle.history_lock.proofs.Closings.{All-at, image_of}
use Rattle.history_lock.proofs.lock.HistoryLock.close.Goals as goal

pub gather-place-requires-clause-some : goal.gather-place-requires-clause-some
gather-place-requires-clause-some g c =
    let one = image_of (λ seat. seat.number) c.args.seats.items 0 (c.requires.all 0 (omega (arith, c.self.invariant.some, c.self.invariant.counted, ap (λ l. l.seats) c.self.view_is))) in omega (arith, one.1.1)

pub unlock-machine-requires-clause-all : goal.unlock-machine-requires-clause-all
unlock-machine-requires-clause-all g c = λ n less.
    let one = image_of (λ seat. seat.number) c.args.seats.items n (c.requires.all n (omega (arith, less, ap (λ l. l.seats) c.self.view_is))) in
    let covered = All-at (Covers c.gather-place.result.me.0) c.args.seats.items one.0 c.gather-place.ensures.covers one.1 in
    subst (Contains c.gather-place.result.me.0.numbers) one.2 covered.number

pub returns-clause-seen : goal.returns-clause-seen
returns-clause-seen g c = λ k d l. subst (λ place. IsPrefix (slice_index_or c.args.seats.items k d).seen place.me.0.seen) (sym c.of.ensures) (c.gather-place.ensures.covers k d l).seen
