use Rattle.std.proofs.Common.{rules, ◌≡◌, length}
use Rattle.state_store.proofs.ReadingLemmas.{head_says}
use Rattle.state_store.proofs.reading.head_of.Goals as goal

pub returns : goal.returns
returns c =
    let nine : length c.args.bytes.now ≡ 9 = search rules in
    head_says c.args.bytes.now c.from_le_bytes.result nine c.from_le_bytes.ensures
