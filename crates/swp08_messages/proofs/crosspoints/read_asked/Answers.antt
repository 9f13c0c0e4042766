use Rattle.std.proofs.Common.{◌≡◌, ℕ, List, [], ◌∷◌, inl, inr, Option, refl, sym, ap, ◌∙◌, subst, arith}
use Rattle.swp08_messages.specs.declared.point.Point.{Point}
use Rattle.swp08_messages.specs.declared.message.Message.{Message}
use Rattle.swp08_messages.specs.declared.message.Message.TheVariants.{Interrogate, Connect}
use Rattle.swp08_messages.specs.Row.{destination, crosspoint}
use Rattle.swp08_messages.specs.Spelled.{SpellFields, Spells}
use Rattle.swp08_messages.specs.ReadingInside.{AsksOfCrosspoint, AreDestination, AreCrosspoint}
use Rattle.swp08_messages.proofs.FaultLemmas.{head, tail, tail-cons}
use Rattle.swp08_messages.proofs.crosspoints.read_asked.Goals as goal

-- Bytes that spell a destination, or one and the source at it, are as many as their fields, the low parts below the limit.

are_destination : (at : Point) (bytes : List ℕ) → SpellFields bytes (destination at) → AreDestination bytes
are_destination at [] spell = absurd spell
are_destination at (place ∷ []) spell = absurd spell.1
are_destination at (place ∷ high ∷ []) spell = absurd spell.1.1
are_destination at (place ∷ high ∷ low ∷ more ∷ others) spell = absurd spell.1.1.1
are_destination at (place ∷ high ∷ low ∷ []) spell = (refl, omega (arith, spell.1.1.0))

are_crosspoint : (at : Point) (source : Option ℕ) (bytes : List ℕ) → SpellFields bytes (crosspoint at source) → AreCrosspoint bytes
are_crosspoint at source [] spell = absurd spell
are_crosspoint at source (place ∷ []) spell = absurd spell.1
are_crosspoint at source (place ∷ high ∷ []) spell = absurd spell.1.1
are_crosspoint at source (place ∷ high ∷ low ∷ []) spell = absurd spell.1.1.1
are_crosspoint at source (place ∷ high ∷ low ∷ low_source ∷ more ∷ others) spell = absurd spell.1.1.1.1
are_crosspoint at source (place ∷ high ∷ low ∷ low_source ∷ []) spell = (refl, omega (arith, spell.1.1.0), omega (arith, spell.1.1.1.0))

-- Behind the command of an interrogate, bytes that are not those of a destination spell neither message.
no_destination : (bytes : List ℕ) (message : Message) → head bytes ≡ 1 → (AreDestination (tail bytes) → ⊥) → AsksOfCrosspoint message → Spells bytes message → ⊥
no_destination bytes (Interrogate at) is not asks spells =
    let behind_is : tail bytes ≡ spells.behind = ap tail spells.parts ∙ tail-cons 1 spells.behind in
    not (subst AreDestination (sym behind_is) (elim spells.fields [
      | inl so ↦ are_destination at spells.behind so
      | inr so ↦ are_destination at spells.behind so
    ]))
no_destination bytes (Connect at source) is not asks spells = absurd (omega (arith, is, ap head spells.parts))
no_destination bytes message is not asks spells = absurd asks

-- Nor do, behind that of a connect, bytes that are not those of a crosspoint.
no_crosspoint : (bytes : List ℕ) (message : Message) → head bytes ≡ 2 → (AreCrosspoint (tail bytes) → ⊥) → AsksOfCrosspoint message → Spells bytes message → ⊥
no_crosspoint bytes (Connect at source) is not asks spells =
    let behind_is : tail bytes ≡ spells.behind = ap tail spells.parts ∙ tail-cons 2 spells.behind in
    not (subst AreCrosspoint (sym behind_is) (elim spells.fields [
      | inl so ↦ are_crosspoint at source spells.behind so
      | inr so ↦ are_crosspoint at source spells.behind so
    ]))
no_crosspoint bytes (Interrogate at) is not asks spells = absurd (omega (arith, is, ap head spells.parts))
no_crosspoint bytes message is not asks spells = absurd asks

pub returns-in_default-command : goal.returns-in_default-command
returns-in_default-command c = λ message.
    no_destination c.args.bytes.now message c.in-1.is (λ are.
    let some = c.are_destination.ensures.1 are in
    let none = c.if-are_destination.false in
    cc)

pub returns-in_default-command-2 : goal.returns-in_default-command-2
returns-in_default-command-2 c = λ message.
    no_crosspoint c.args.bytes.now message c.in-2.is (λ are.
    let some = c.are_crosspoint.ensures.1 are in
    let none = c.if-are_crosspoint.false in
    cc)
