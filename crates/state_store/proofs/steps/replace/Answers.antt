use Rattle.std.proofs.Common.{length}
use Rattle.state_store.specs.Steps.{IsFrom, KeepsSame, KeepsSameOrThis}
use Rattle.state_store.proofs.Moments.{both, widened}
use Rattle.state_store.proofs.StepLemmas.{set_closed, filled_closed, closed_filled, filled_opened, filled_later, kept_closed, kept_opened, or_this}
use Rattle.state_store.proofs.steps.replace.Goals as goal

pub fill-requires-clause-gate : goal.fill-requires-clause-gate
fill-requires-clause-gate g c = set_closed (length c.args.entry.now) c.args.slot _ _ (c.close.ensures.set c.in_default.is)

pub open-requires-clause-gate : goal.open-requires-clause-gate
open-requires-clause-gate g c = filled_closed (length c.args.entry.now) c.args.slot c.args.entry.now _ _ (c.fill.ensures.set c.in-Done.is)

pub open-requires-clause-later : goal.open-requires-clause-later
open-requires-clause-later g c =
    let n = length c.args.entry.now in
    filled_later n c.args.slot c.args.entry.now _ _ (closed_filled n c.args.slot c.args.entry.now _ _ _ (c.close.ensures.set c.in_default.is) (c.fill.ensures.set c.in-Done.is)) c.requires.later

pub returns-in-Failed-clause-any_moment : goal.returns-in-Failed-clause-any_moment
returns-in-Failed-clause-any_moment g c =
    widened g.D.Disk.moment g.D.Disk.left_since c.args.disk.now c.close.new.disk _ _ c.close.ensures.any_moment (or_this (length c.args.entry.now) c.args.entry.now (g.D.Disk.contents c.args.disk.now))

pub returns-in-Failed-fill-clause-any_moment : goal.returns-in-Failed-fill-clause-any_moment
returns-in-Failed-fill-clause-any_moment g c =
    let n = length c.args.entry.now in
    let moment = g.D.Disk.moment in
    let left_since = g.D.Disk.left_since in
    let shown = g.D.Disk.contents c.args.disk.now in
    let start = widened moment left_since c.args.disk.now c.close.new.disk _ _ c.close.ensures.any_moment (or_this n c.args.entry.now shown) in
    both moment left_since c.args.disk.now c.close.new.disk c.fill.new.disk _ (IsFrom (KeepsSame n) (g.D.Disk.contents c.close.new.disk)) start c.fill.ensures.any_moment
    (λ f from. or_this n c.args.entry.now shown f (kept_closed n c.args.slot shown _ c.requires.spare (c.close.ensures.set c.in_default.is) f from))

pub returns-in-Done-clause-any_moment : goal.returns-in-Done-clause-any_moment
returns-in-Done-clause-any_moment g c =
    let n = length c.args.entry.now in
    let moment = g.D.Disk.moment in
    let left_since = g.D.Disk.left_since in
    let shown = g.D.Disk.contents c.args.disk.now in
    let start = widened moment left_since c.args.disk.now c.close.new.disk _ _ c.close.ensures.any_moment (or_this n c.args.entry.now shown) in
    let filled = both moment left_since c.args.disk.now c.close.new.disk c.fill.new.disk _ (IsFrom (KeepsSame n) (g.D.Disk.contents c.close.new.disk)) start c.fill.ensures.any_moment
    (λ f from. or_this n c.args.entry.now shown f (kept_closed n c.args.slot shown _ c.requires.spare (c.close.ensures.set c.in_default.is) f from)) in
    let step = closed_filled n c.args.slot c.args.entry.now _ _ _ (c.close.ensures.set c.in_default.is) (c.fill.ensures.set c.in-Done.is) in
    both moment left_since c.args.disk.now c.fill.new.disk c.open.new.disk _ (IsFrom (KeepsSameOrThis n c.args.slot) (g.D.Disk.contents c.fill.new.disk)) filled c.open.ensures.any_moment
    (kept_opened n c.args.slot c.args.entry.now shown _ c.requires.spare step)

pub returns-in-Done-clause-set : goal.returns-in-Done-clause-set
returns-in-Done-clause-set g c = λ done.
    let n = length c.args.entry.now in
    filled_opened n c.args.slot c.args.entry.now _ _ _ (closed_filled n c.args.slot c.args.entry.now _ _ _ (c.close.ensures.set c.in_default.is) (c.fill.ensures.set c.in-Done.is)) (c.open.ensures.set done)
