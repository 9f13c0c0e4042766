use Rattle.std.proofs.Common.{◌++◌}
use Rattle.std.specs.Fmt.{decimal}
use Rattle.command_keep.proofs.LineLemmas.{ended-front}
use Rattle.command_keep.proofs.outcome.write_numbers.Goals as goal

pub returns-then-write_number-clause-front : goal.returns-then-write_number-clause-front
returns-then-write_number-clause-front g c =
    ended-front c.write_number-then-write_number.result (c.args.front.now ++ decimal c.args.one ++ c.args.middle.now) (decimal c.args.other) _ _ _ c.if-write_number.ensures.all c.write_number-then-write_number.ensures.front
