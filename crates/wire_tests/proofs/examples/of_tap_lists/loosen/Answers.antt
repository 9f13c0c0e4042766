use Rattle.std.proofs.Common.{sym, ◌∙◌}
use Rattle.wire_tests.proofs.examples.of_tap_lists.loosen.Goals as goal

pub unlink-requires : goal.unlink-requires
unlink-requires c = (c.in-Some._head, (c.head_of.ensures c.in-Some._head).0 c.in-Some.is)

pub returns-in-Some-clause-loose : goal.returns-in-Some-clause-loose
returns-in-Some-clause-loose c = rw c.unlink.ensures (c.unlinks_remove.ensures c.args.taps.now c.args.member).loose

pub returns-in-None-clause-loose : goal.returns-in-None-clause-loose
returns-in-None-clause-loose c head under =
    let found = sym c.in-None.is ∙ (c.head_of.ensures head).1 under in
    cc
