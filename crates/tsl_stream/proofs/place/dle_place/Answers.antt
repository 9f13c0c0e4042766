use Rattle.tsl_stream.proofs.PlaceLemmas.{no_dle_before, noise_take, single_take}
use Rattle.tsl_stream.proofs.place.dle_place.Goals as goal

pub returns-clause-noise : goal.returns-clause-noise
returns-clause-noise c = rw c.unwrap_or.ensures (noise_take c.args.text.now _ (no_dle_before c.args.text.now c.memchr.result c.memchr.ensures))

pub returns-clause-single : goal.returns-clause-single
returns-clause-single c = rw c.unwrap_or.ensures (single_take c.args.text.now _ (no_dle_before c.args.text.now c.memchr.result c.memchr.ensures))
