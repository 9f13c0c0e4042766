use Rattle.std.proofs.Common.{rules, arith}
use Rattle.std.proofs.lemmas.Grind.{common_steps}
use Rattle.ctl_io.proofs.SinkLemmas.{given_more, given_part}
use Rattle.panel_session.proofs.engine.drain.AnyDrain.take.Goals as goal

pub loop-rest-preserved : goal.loop-rest-preserved
loop-rest-preserved g c = record {
  given = given_more _ _ _ c.in-Took.n _ _ _ c.loop-rest.invariant.given (grind (arith, common_steps)) c.in-Took.ensures.written;
  count = search rules;
  name = search rules;
  half = search rules;
}

pub returns-in-Failed-clause-part : goal.returns-in-Failed-clause-part
returns-in-Failed-clause-part g c = given_part _ _ _ _ _ c.loop-rest.invariant.given (search rules) c.in-Failed.ensures.written
