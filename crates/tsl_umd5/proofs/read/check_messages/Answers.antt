use Rattle.std.proofs.Common.{sym, arith}
use Rattle.std.proofs.lemmas.Grind.{common_steps}
use Rattle.std.proofs.lemmas.Result.{err_from_is_err_and}
use Rattle.tsl_umd5.specs.Layout.{packet_head}
use Rattle.tsl_umd5.specs.ReadingInside.{fields}
use Rattle.tsl_umd5.specs.Reading.{all_at}
use Rattle.tsl_umd5.proofs.ReadingInsideLemmas.{cut_off, refused, goes_on, all_good}
use Rattle.tsl_umd5.proofs.read.check_messages.Goals as goal

pub returns-in_default : goal.returns-in_default
returns-in_default c = cut_off c.loop-rest.place c.loop-rest.rest.now (all_at packet_head c.args.messages.now) (grind (arith, common_steps)) (sym c.in_default.ensures.found) c.loop-rest.invariant.decides

pub returns-in_err-judge : goal.returns-in_err-judge
returns-in_err-judge c =
    let passed = err_from_is_err_and c.from_residual.result c.from_residual.ensures.1 in
    rw (passed.1, passed.2) (refused c.loop-rest.place c.loop-rest.rest.now (fields c.in-Some.message, c.in-Some.after.now) c.in_err-judge.field-0.0 (all_at packet_head c.args.messages.now) (sym c.in-Some.ensures.found) c.in_err-judge.ensures c.loop-rest.invariant.decides)

pub loop-rest-preserved : goal.loop-rest-preserved
loop-rest-preserved c = record {
  within = omega (arith, c.in-Some.ensures.len);
  decides = goes_on c.loop-rest.place c.loop-rest.rest.now (fields c.in-Some.message, c.in-Some.after.now) (all_at packet_head c.args.messages.now) (sym c.in-Some.ensures.found) c.in_ok-judge.ensures c.loop-rest.invariant.decides;
}

pub returns : goal.returns
returns c = all_good c.loop-rest.place c.loop-rest.rest.now (all_at packet_head c.args.messages.now) (grind (arith, common_steps)) c.loop-rest.invariant.decides
