-- DATA that is refused spells no message, and is refused with one fault.
use Rattle.std.proofs.Common.{◌≡◌, ℕ, ◌+◌, ◌<◌, List, [], ◌∷◌, ◌++◌, length, refl, sym, ap, ◌∙◌, subst, arith, inl, inr, append_assoc, length-append}
use Rattle.std.proofs.lemmas.Bool.{cases_lt}
use Rattle.swp08_messages.specs.declared.fault.ReadFault.{ReadFault}
use Rattle.swp08_messages.specs.declared.fault.ReadFault.TheVariants.{UnknownCommand, WrongLength, BadField}
use Rattle.swp08_messages.specs.declared.message.Message.{Message}
use Rattle.swp08_messages.specs.Row.{row}
use Rattle.swp08_messages.specs.Spelled.{Spells}
use Rattle.swp08_messages.specs.Refused.{HasUnknownCommand, HasWrongLength, HasBadField, IsRefused}
use Rattle.swp08_messages.proofs.ReadingLemmas.{length-text-command}

-- DATA that spells a message begins with its command.
command_of-Spells : (command : ℕ) (bytes : List ℕ) (message : Message) → Spells (command ∷ bytes) message → (row message).command ≡ command
command_of-Spells command bytes message spells = let e = spells.parts in cc

pub not_both : (bytes : List ℕ) (message : Message) (fault : ReadFault) → Spells bytes message → IsRefused bytes fault → ⊥
not_both bytes message (UnknownCommand command) spells refused =
    let e = refused.parts in
    refused.never message (command_of-Spells command refused.behind message (subst (λ bs. Spells bs message) e spells))
not_both [] message (WrongLength found wanted) spells refused = let e = spells.parts in absurd cc
not_both (command ∷ behind) message (WrongLength found wanted) spells refused = refused.1.never behind message refl spells
not_both bytes message (BadField place byte) spells refused =
    refused.never refused.rest message refl (subst (λ bs. Spells bs message) refused.parts spells)

-- a text that goes on behind a byte goes on behind it in a longer front of the same text
longer_front : (front front' : List ℕ) (byte byte' : ℕ) (rest rest' : List ℕ) → length front < length front'
    → front ++ byte ∷ rest ≡ front' ++ byte' ∷ rest' → (between : List ℕ) × (front' ≡ front ++ byte ∷ between)
longer_front [] [] byte byte' rest rest' h e = absurd (omega (arith, h))
longer_front [] (b ∷ front') byte byte' rest rest' h e = (front', cc)
longer_front (a ∷ front) [] byte byte' rest rest' h e = absurd (omega (arith, h))
longer_front (a ∷ front) (b ∷ front') byte byte' rest rest' h e =
    let tails : front ++ byte ∷ rest ≡ front' ++ byte' ∷ rest' = cc in
    let found = longer_front front front' byte byte' rest rest' (omega (arith, h)) tails in
    let is = found.1 in
    (found.0, cc)

one_byte : (front front' : List ℕ) (byte byte' : ℕ) (rest rest' : List ℕ) → length front ≡ length front'
    → front ++ byte ∷ rest ≡ front' ++ byte' ∷ rest' → byte ≡ byte'
one_byte [] [] byte byte' rest rest' h e = cc
one_byte [] (b ∷ front') byte byte' rest rest' h e = absurd (omega (arith, h))
one_byte (a ∷ front) [] byte byte' rest rest' h e = absurd (omega (arith, h))
one_byte (a ∷ front) (b ∷ front') byte byte' rest rest' h e =
    let tails : front ++ byte ∷ rest ≡ front' ++ byte' ∷ rest' = cc in
    one_byte front front' byte byte' rest rest' (omega (arith, h)) tails

length-parts : (front : List ℕ) (byte : ℕ) (rest : List ℕ) → length (front ++ byte ∷ rest) ≡ length front + 1 + length rest
length-parts front byte rest = simp length-append (omega arith)

-- Of two bad fields of one DATA, none stands in front of the other.
bad_field-first : (bytes : List ℕ) (place place' byte byte' : ℕ) (f : HasBadField bytes place byte) (g : HasBadField bytes place' byte')
    → length f.front < length g.front → ⊥
bad_field-first bytes place place' byte byte' f g h =
    let e : f.command ∷ (f.front ++ byte ∷ f.rest) ≡ g.command ∷ (g.front ++ byte' ∷ g.rest) = sym f.parts ∙ g.parts in
    let command_is : g.command ≡ f.command = cc in
    let tails : f.front ++ byte ∷ f.rest ≡ g.front ++ byte' ∷ g.rest = cc in
    let found = longer_front f.front g.front byte byte' f.rest g.rest h tails in
    let whole : g.command ∷ (g.front ++ g.others) ≡ f.command ∷ (f.front ++ byte ∷ (found.0 ++ g.others)) =
    ap (λ c. c ∷ (g.front ++ g.others)) command_is
    ∙ ap (λ xs. f.command ∷ (xs ++ g.others)) found.1
    ∙ ap (λ xs. f.command ∷ xs) (append_assoc f.front (byte ∷ found.0) g.others) in
    let same : length (found.0 ++ g.others) ≡ length f.rest =
    omega (arith, length-append found.0 g.others, g.length_is, ap length tails, length-parts f.front byte f.rest, length-parts g.front byte' g.rest, ap length found.1, length-parts f.front byte found.0) in
    f.never (found.0 ++ g.others) g.message same (subst (λ bs. Spells bs g.message) whole g.good)

bad_fields : (bytes : List ℕ) (place place' byte byte' : ℕ) → HasBadField bytes place byte → HasBadField bytes place' byte' → BadField place byte ≡ BadField place' byte'
bad_fields bytes place place' byte byte' f g =
    let e : f.command ∷ (f.front ++ byte ∷ f.rest) ≡ g.command ∷ (g.front ++ byte' ∷ g.rest) = sym f.parts ∙ g.parts in
    let tails : f.front ++ byte ∷ f.rest ≡ g.front ++ byte' ∷ g.rest = cc in
    elim (cases_lt (length f.front) (length g.front)) [
      | inl h ↦ absurd (bad_field-first bytes place place' byte byte' f g h)
      | inr h ↦ elim (cases_lt (length g.front) (length f.front)) [
        | inl h' ↦ absurd (bad_field-first bytes place' place byte' byte g f h')
        | inr h' ↦
            let same : length f.front ≡ length g.front = omega (arith, h, h') in
            let places : place ≡ place' = omega (arith, f.place_is, g.place_is, same) in
            let bytes_are : byte ≡ byte' = one_byte f.front g.front byte byte' f.rest g.rest same tails in
            cc
      ]
    ]

-- the command that DATA with a bad field has is that of a message, and so is its length
bad_field-command : (bytes : List ℕ) (place byte : ℕ) (f : HasBadField bytes place byte) → (row f.message).command ≡ f.command
bad_field-command bytes place byte f = command_of-Spells f.command (f.front ++ f.others) f.message f.good

known_unknown : (bytes : List ℕ) (command : ℕ) (wanted : ℕ) → HasUnknownCommand bytes command → HasWrongLength bytes wanted → ⊥
known_unknown [] command wanted unknown wrong = let e = unknown.parts in cc
known_unknown (c ∷ behind) command wanted unknown wrong =
    let e = unknown.parts in
    let is : c ≡ command = cc in
    unknown.never wrong.message (wrong.command_is ∙ is)

bad_unknown : (bytes : List ℕ) (command place byte : ℕ) → HasUnknownCommand bytes command → HasBadField bytes place byte → ⊥
bad_unknown bytes command place byte unknown bad =
    let e : command ∷ unknown.behind ≡ bad.command ∷ (bad.front ++ byte ∷ bad.rest) = sym unknown.parts ∙ bad.parts in
    let is : bad.command ≡ command = cc in
    unknown.never bad.message (bad_field-command bytes place byte bad ∙ is)

bad_wrong : (bytes : List ℕ) (wanted place byte : ℕ) → HasWrongLength bytes wanted → HasBadField bytes place byte → ⊥
bad_wrong [] wanted place byte wrong bad = let e = bad.parts in cc
bad_wrong (c ∷ behind) wanted place byte wrong bad =
    let e = bad.parts in
    let is : bad.command ≡ c = cc in
    let behind_is : behind ≡ bad.front ++ byte ∷ bad.rest = cc in
    let same : length (bad.front ++ bad.others) ≡ length behind =
    omega (arith, length-append bad.front bad.others, bad.length_is, ap length behind_is, length-parts bad.front byte bad.rest) in
    wrong.never (bad.front ++ bad.others) bad.message same (subst (λ d. Spells (d ∷ (bad.front ++ bad.others)) bad.message) is bad.good)

one_wanted : (bytes : List ℕ) (wanted wanted' : ℕ) → HasWrongLength bytes wanted → HasWrongLength bytes wanted' → wanted ≡ wanted'
one_wanted [] wanted wanted' f g = f ∙ sym g
one_wanted (c ∷ behind) wanted wanted' f g =
    f.wanted_is ∙ length-text-command f.message g.message (f.command_is ∙ sym g.command_is) ∙ sym g.wanted_is

-- DATA is refused with one fault.
pub one_fault : (bytes : List ℕ) (f g : ReadFault) → IsRefused bytes f → IsRefused bytes g → f ≡ g
one_fault bytes (UnknownCommand a) (UnknownCommand b) f g = let e : a ∷ f.behind ≡ b ∷ g.behind = sym f.parts ∙ g.parts in cc
one_fault bytes (UnknownCommand a) (WrongLength found wanted) f g = absurd (known_unknown bytes a wanted f g.1)
one_fault bytes (UnknownCommand a) (BadField place byte) f g = absurd (bad_unknown bytes a place byte f g)
one_fault bytes (WrongLength found wanted) (UnknownCommand a) f g = absurd (known_unknown bytes a wanted g f.1)
one_fault bytes (WrongLength found wanted) (WrongLength found' wanted') f g =
    let counts : found ≡ found' = f.0 ∙ sym g.0 in
    let wants : wanted ≡ wanted' = one_wanted bytes wanted wanted' f.1 g.1 in
    cc
one_fault bytes (WrongLength found wanted) (BadField place byte) f g = absurd (bad_wrong bytes wanted place byte f.1 g)
one_fault bytes (BadField place byte) (UnknownCommand a) f g = absurd (bad_unknown bytes a place byte g f)
one_fault bytes (BadField place byte) (WrongLength found wanted) f g = absurd (bad_wrong bytes wanted place byte g.1 f)
one_fault bytes (BadField place byte) (BadField place' byte') f g = bad_fields bytes place place' byte byte' f g
