-- The rows of the table leave each other no room.
use Rattle.std.proofs.Common.{◌≡◌, ℕ, ◌<◌, ◌≤◌, Some, refl, sym, ap, ◌∙◌, arith}
use Rattle.std.proofs.lemmas.Option.{slice_get_within}
use Rattle.plant_core.specs.declared.request.Request.{Request}
use Rattle.standby.specs.declared.took.Took.TheVariants.{Old, Beyond, Differs, Kept, Applied}
use Rattle.standby.specs.Standby.{Data, IsKeptAt, limit}
use Rattle.standby.specs.Laws.{AnswersAreExact}

-- what is kept is kept for a position of the window
pub kept_within : (standby : Data) (position : ℕ) (request : Request) → IsKeptAt standby position request → (standby.applied ≤ position) × (position < limit standby)
kept_within standby position request is =
    let within = slice_get_within standby.window is.offset (Some request) is.kept in
    (omega (arith, is.position_is), omega (arith, is.position_is, within))

pub answers_are_exact : AnswersAreExact
answers_are_exact old position request Old Old left right a b = (refl, a.unchanged ∙ sym b.unchanged)
answers_are_exact old position request Old (Beyond told) left right a b = absurd (omega (arith, a.below, b.told_is, b.beyond))
answers_are_exact old position request Old Differs left right a b = absurd (omega (arith, a.below, (kept_within old position b.other b.kept).0))
answers_are_exact old position request Old Kept left right a b = absurd (omega (arith, a.below, b.above))
answers_are_exact old position request Old (Applied told) left right a b = absurd (omega (arith, a.below, b.here))
answers_are_exact old position request (Beyond told) Old left right a b = absurd (omega (arith, b.below, a.told_is, a.beyond))
answers_are_exact old position request (Beyond told) (Beyond other) left right a b = (ap Beyond (a.told_is ∙ sym b.told_is), a.unchanged ∙ sym b.unchanged)
answers_are_exact old position request (Beyond told) Differs left right a b = absurd (omega (arith, a.told_is, a.beyond, (kept_within old position b.other b.kept).1))
answers_are_exact old position request (Beyond told) Kept left right a b = absurd (omega (arith, a.told_is, a.beyond, b.may.within))
answers_are_exact old position request (Beyond told) (Applied other) left right a b = absurd (omega (arith, a.told_is, a.beyond, b.may.within))
answers_are_exact old position request Differs Old left right a b = absurd (omega (arith, b.below, (kept_within old position a.other a.kept).0))
answers_are_exact old position request Differs (Beyond told) left right a b = absurd (omega (arith, b.told_is, b.beyond, (kept_within old position a.other a.kept).1))
answers_are_exact old position request Differs Differs left right a b = (refl, a.unchanged ∙ sym b.unchanged)
answers_are_exact old position request Differs Kept left right a b = absurd (a.another (b.may.alone a.other a.kept))
answers_are_exact old position request Differs (Applied told) left right a b = absurd (a.another (b.may.alone a.other a.kept))
answers_are_exact old position request Kept Old left right a b = absurd (omega (arith, b.below, a.above))
answers_are_exact old position request Kept (Beyond told) left right a b = absurd (omega (arith, b.told_is, b.beyond, a.may.within))
answers_are_exact old position request Kept Differs left right a b = absurd (b.another (a.may.alone b.other b.kept))
answers_are_exact old position request Kept Kept left right a b = (refl, a.is ∙ sym b.is)
answers_are_exact old position request Kept (Applied told) left right a b = absurd (omega (arith, a.above, b.here))
answers_are_exact old position request (Applied told) Old left right a b = absurd (omega (arith, b.below, a.here))
answers_are_exact old position request (Applied told) (Beyond other) left right a b = absurd (omega (arith, b.told_is, b.beyond, a.may.within))
answers_are_exact old position request (Applied told) Differs left right a b = absurd (b.another (a.may.alone b.other b.kept))
answers_are_exact old position request (Applied told) Kept left right a b = absurd (omega (arith, b.above, a.here))
answers_are_exact old position request (Applied told) (Applied other) left right a b =
    let same : left ≡ right = a.is ∙ sym b.is in
    (ap Applied (a.told_is ∙ ap (λ (standby : Data). standby.applied) same ∙ sym b.told_is), same)
