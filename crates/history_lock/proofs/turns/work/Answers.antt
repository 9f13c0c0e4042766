use Rattle.std.proofs.Common.{ap, sym, ◌∙◌, ◌∷◌, arith}
use Rattle.atomic_table.specs.Table.{rest}
use Rattle.history_lock.proofs.Works.{lent, takes_it, same_places, worked}
use Rattle.history_lock.proofs.turns.work.Goals as goal

pub slot_mut-desk-requires : goal.slot_mut-desk-requires
slot_mut-desk-requires g c = let has = c.requires.has in (c.requires.at.0, (has.desk, has.slot ∙ ap (λ l. (0, has.desk) ∷ rest l) (sym has.slot)))

pub work-requires-clause-fits : goal.work-requires-clause-fits
work-requires-clause-fits g c = takes_it g.M.Machine.step g.M.Machine.Fits g.M.Machine.room _ _ c.requires.has _ c.slot_mut-desk.ensures.value _ c.requires.fits

pub work-requires-clause-places : goal.work-requires-clause-places
work-requires-clause-places g c = let same = same_places g.M.Machine.step g.M.Machine.Fits g.M.Machine.room _ _ c.requires.has _ c.slot_mut-desk.ensures.value in omega (arith, same, c.requires.places)

pub returns-clause-worked : goal.returns-clause-worked
returns-clause-worked g c = let w = c.work.ensures in
    worked g.M.Machine.step g.M.Machine.Fits g.M.Machine.room _ _ c.requires.has _ c.slot_mut-desk.ensures.value _ _ w.machine w.asked w.room w.goes_on_fitting c.requires.fits

pub returns-clause-answers : goal.returns-clause-answers
returns-clause-answers g c = c.work.ensures.answers ∙ ap (λ x. (g.M.Machine.step x c.args.request.now).answers) (lent g.M.Machine.step g.M.Machine.Fits g.M.Machine.room _ _ c.requires.has _ c.slot_mut-desk.ensures.value)
