use Rattle.std.proofs.Common.{rules, sym, subst}
use Rattle.ctl_io.specs.Source.{TakesAtMost}
use Rattle.ctl_io.proofs.SourceLemmas.{just_further, takes_all}
use Rattle.ctl_io.proofs.transfer.read_whole.Goals as goal

-- the bytes that were read, and one more
pub returns-in_err-see_end-clause-too_long : goal.returns-in_err-see_end-clause-too_long
returns-in_err-see_end-clause-too_long g c = λ is.
    just_further c.args.limit _ _ _ _ c.in_ok-read_up_to.ensures.taken (c.see_end.ensures.too_long (search rules)) (c.in_ok-read_up_to.ensures.full (search rules))

-- the bytes that were read, where no byte more was taken
pub returns-in_err-see_end-clause-taken : goal.returns-in_err-see_end-clause-taken
returns-in_err-see_end-clause-taken g c = λ no.
    subst (TakesAtMost c.args.limit _) (sym (c.see_end.ensures.taken (search rules)))
    (takes_all c.args.limit _ _ _ c.in_ok-read_up_to.ensures.taken c.in_ok-read_up_to.ensures.fits)
