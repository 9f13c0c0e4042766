use Rattle.std.proofs.Common.{◌≡◌, length, arith}
use Rattle.record_replay.proofs.DigitsLemmas.{HexSpells-whole, items-whole}
use Rattle.record_replay.proofs.digits.Digits.read.Goals as goal

pub returns-then-decode-clause-spelled : goal.returns-then-decode-clause-spelled
returns-then-decode-clause-spelled c =
    let long : length c.decode.new.room ≡ c.self.inside.room.len = omega arith in
    rw (items-whole c.self.inside.room.len c.decode.new.room c.self.inside.room.items long) (HexSpells-whole _ _ c.if-decode.ensures.decoded)
