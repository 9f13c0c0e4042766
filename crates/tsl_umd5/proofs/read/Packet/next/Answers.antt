use Rattle.std.proofs.Common.{◌∷◌, ap, sym, ◌∙◌, arith}
use Rattle.std.proofs.lemmas.Grind.{common_steps}
use Rattle.tsl_umd5.specs.Packet.{Display}
use Rattle.tsl_umd5.specs.ReadingInside.{fields}
use Rattle.tsl_umd5.specs.ReadingInside.{displays_in}
use Rattle.tsl_umd5.proofs.ReadingInsideLemmas.{none_left, is_never_cut, takes}
use Rattle.tsl_umd5.proofs.read.Packet.next.Goals as goal

pub returns-then-is_empty-clause-none : goal.returns-then-is_empty-clause-none
returns-then-is_empty-clause-none c =
    let none = none_left c.self.inside.messages.now (grind (arith, common_steps)) in
    rw (← c.self.view_is) (none, none)

pub unreachable-requires : goal.unreachable-requires
unreachable-requires c = is_never_cut c.self.inside.messages.now c.self.invariant (grind (arith, common_steps)) (sym c.in_default.ensures.found)

pub shown-requires : goal.shown-requires
shown-requires c = (takes c.self.inside.messages.now (fields c.in-Some.message, c.in-Some.rest.now) c.self.invariant (sym c.in-Some.ensures.found)).control

pub invariant_of-self : goal.invariant_of-self
invariant_of-self c = (takes c.self.inside.messages.now (fields c.in-Some.message, c.in-Some.rest.now) c.self.invariant (sym c.in-Some.ensures.found)).others

pub returns-clause-first : goal.returns-clause-first
returns-clause-first c =
    rw (← c.self.view_is) ((takes c.self.inside.messages.now (fields c.in-Some.message, c.in-Some.rest.now) c.self.invariant (sym c.in-Some.ensures.found)).displays ∙ ap (λ (d : Display). d ∷ displays_in c.in-Some.rest.now) (sym c.shown.ensures))
