use Rattle.std.proofs.Common.{sym, subst, arith}
use Rattle.tally.specs.Marks.{is_lit}
use Rattle.tally.specs.Kept.{AreFlipped}
use Rattle.tally.proofs.RootlessLemmas.{rootless_settled, rootless_flips}
use Rattle.tally.proofs.KeptLemmas.{turned_none, turned_below, same_settled, flipped_are}
use Rattle.tally.proofs.tally.Tally.update.Goals as goal

pub settle-requires-clause-moved : goal.settle-requires-clause-moved
settle-requires-clause-moved g c =
    let update = rw (← c.self.view_is) at c.requires.before.1.1 in
    (c.requires.before.0, (c.requires.before.1.0, record { rooted = update.before.rooted; settled = update.before.settled; moved = update.moved }))

pub take_turned-requires : goal.take_turned-requires
take_turned-requires g c =
    let update = rw (← c.self.view_is) at c.requires.before.1.1 in
    let settled = c.settle.ensures.settled c.requires.before.0 c.requires.before.1.0 (record { rooted = update.before.rooted; settled = update.before.settled; moved = update.moved }) in
    let turned = c.settle.ensures.turned (is_lit c.self.inside.marks.lit) (turned_none c.self.inside.marks update.before.still) in
    record {
      room = λ origin has.
          let below = turned_below c.args.graph.now.plant c.self.inside.marks c.settle.new.marks origin update.before.settled.kept.heads settled.kept.heads turned has in
          omega (arith, below, update.before.many);
    }

pub returns-clause-kept : goal.returns-clause-kept
returns-clause-kept g c = λ old roots stood.
    let update = rw (← c.self.view_is) at stood in
    let settled = c.settle.ensures.settled old roots (record { rooted = update.before.rooted; settled = update.before.settled; moved = update.moved }) in
    record {
      is_plant = update.before.is_plant;
      rooted = update.before.rooted;
      settled = same_settled c.args.graph.now.plant c.args.graph.now.crosspoints roots c.settle.new.marks c.take_turned.new.self c.take_turned.ensures.live c.take_turned.ensures.lit c.take_turned.ensures.fed settled;
      still = c.take_turned.ensures.turned;
      idle = c.settle.ensures.idle;
      sure = c.settle.ensures.sure;
      many = omega (arith, update.before.many, c.take_turned.ensures.capacity);
    }

pub returns-clause-flipped : goal.returns-clause-flipped
returns-clause-flipped g c = λ old roots stood.
    let update = rw (← c.self.view_is) at stood in
    let settled = c.settle.ensures.settled old roots (record { rooted = update.before.rooted; settled = update.before.settled; moved = update.moved }) in
    let turned = c.settle.ensures.turned (is_lit c.self.inside.marks.lit) (turned_none c.self.inside.marks update.before.still) in
    flipped_are c.args.graph.now.plant old c.args.graph.now.crosspoints roots c.self.inside.marks c.settle.new.marks c.take_turned.new.flipped.items update.before.settled settled turned c.take_turned.ensures.members

pub returns-clause-counted : goal.returns-clause-counted
returns-clause-counted g c = λ old roots stood.
    let update = rw (← c.self.view_is) at stood in
    c.settle.ensures.counted old roots (record { rooted = update.before.rooted; settled = update.before.settled; moved = update.moved })

pub returns-then-is_empty-clause-kept : goal.returns-then-is_empty-clause-kept
returns-then-is_empty-clause-kept g c = λ old roots stood.
    let update = rw (← c.self.view_is) at stood in
    let none = c.is_empty.ensures.0 c.if-is_empty.true in
    record {
      is_plant = update.before.is_plant;
      rooted = update.before.rooted;
      settled = rootless_settled c.args.graph.now.plant roots c.self.inside.roots update.before.rooted none update.before.is_plant old c.args.graph.now.crosspoints c.self.inside.marks update.before.settled;
      still = update.before.still;
      idle = update.before.idle;
      sure = update.before.sure;
      many = omega (arith, update.before.many, c.clear.ensures.capacity);
    }

pub returns-then-is_empty-clause-flipped : goal.returns-then-is_empty-clause-flipped
returns-then-is_empty-clause-flipped g c = λ old roots stood.
    let update = rw (← c.self.view_is) at stood in
    let none = c.is_empty.ensures.0 c.if-is_empty.true in
    subst (AreFlipped c.args.graph.now.plant old c.args.graph.now.crosspoints roots) (sym c.clear.ensures.items)
    (rootless_flips c.args.graph.now.plant roots c.self.inside.roots update.before.rooted none update.before.is_plant old c.args.graph.now.crosspoints c.self.inside.marks update.before.settled)
