-- What the bytes behind a command are refused with, by the messages that other bytes spell.
use Rattle.std.proofs.Common.{◌≡◌, ◌≢◌, ℕ, suc, ◌+◌, ◌<◌, ◌≤◌, cond, nat_eq, nat_lt, true, false, List, [], ◌∷◌, ◌++◌, length, get_or, take, take_all, drop, map, ◌-◌, Bool, Option, eqb-true, Some, None, refl, sym, ap, ◌∙◌, subst, arith, length-append}
use Rattle.std.proofs.lemmas.Bool.Decides.{nat_tests}
use Rattle.swp08_messages.specs.declared.fault.ReadFault.{ReadFault}
use Rattle.swp08_messages.specs.declared.fault.ReadFault.TheVariants.{UnknownCommand, WrongLength, BadField}
use Rattle.swp08_messages.specs.declared.field.Field.{Field}
use Rattle.swp08_messages.specs.declared.message.Message.{Message}
use Rattle.swp08_messages.specs.Row.{row}
use Rattle.swp08_messages.specs.Spelled.{SpellRow, Spells}
use Rattle.swp08_messages.specs.Refused.{IsRefused}
use Rattle.swp08_messages.specs.ReadingInside.{limit_of, message_of, first_bad, fault_of}
use Rattle.swp08_messages.proofs.FieldLemmas.{limit_of-positive}
use Rattle.swp08_messages.proofs.SpelledLemmas.{length-SpellFields, SpellRow-held, held-in_range, spelled_below}
use Rattle.swp08_messages.proofs.LayoutLemmas.{Below}
use Rattle.swp08_messages.proofs.ReadingLemmas.{held, held_limits, message_of-reads, message_of-none, held_limits-command, length-limits, length-text}

first_bad-none : (place : ℕ) (fields : List Field) (bytes : List ℕ) → length bytes ≡ length fields → first_bad place fields bytes ≡ None → Below bytes (map limit_of fields)
first_bad-none place [] [] same e = tt
first_bad-none place [] (byte ∷ bytes) same e = absurd (omega (arith, same))
first_bad-none place (field ∷ fields) [] same e = absurd (omega (arith, same))
first_bad-none place (field ∷ fields) (byte ∷ bytes) same e =
    elim (nat_lt byte (limit_of field)) as (λ t. nat_lt byte (limit_of field) ≡ t → cond t (first_bad (place + 1) fields bytes) (Some (BadField place byte)) ≡ None → (byte < limit_of field) × Below bytes (map limit_of fields)) [
      | true ↦ λ below e. (grind (arith, nat_tests), first_bad-none (place + 1) fields bytes (omega (arith, same)) e)
      | false ↦ λ over e. absurd cc
    ] refl e

-- the first of the bytes that isn't below its limit
record StandsWrong (place : ℕ) (bytes limits : List ℕ) (fault : ReadFault) : Type 0 where
  front : List ℕ
  byte : ℕ
  rest : List ℕ
  before : List ℕ
  limit : ℕ
  after : List ℕ
  parts : bytes ≡ front ++ byte ∷ rest
  limits_are : limits ≡ before ++ limit ∷ after
  below : Below front before
  over : limit ≤ byte
  fault_is : fault ≡ BadField (place + length front) byte
  same : length rest ≡ length after

first_bad-some : (place : ℕ) (fields : List Field) (bytes : List ℕ) (fault : ReadFault) → length bytes ≡ length fields → first_bad place fields bytes ≡ Some fault
    → StandsWrong place bytes (map limit_of fields) fault
first_bad-some place [] bytes fault same e = absurd cc
first_bad-some place (field ∷ fields) [] fault same e = absurd cc
first_bad-some place (field ∷ fields) (byte ∷ bytes) fault same e =
    elim (nat_lt byte (limit_of field)) as (λ t. nat_lt byte (limit_of field) ≡ t → cond t (first_bad (place + 1) fields bytes) (Some (BadField place byte)) ≡ Some fault → StandsWrong place (byte ∷ bytes) (map limit_of (field ∷ fields)) fault) [
      | true ↦ λ is_below e.
          let later = first_bad-some (place + 1) fields bytes fault (omega (arith, same)) e in
          let below : byte < limit_of field = grind (arith, nat_tests) in
          let there : place + 1 + length later.front ≡ place + length (byte ∷ later.front) = omega arith in
          record {
            front = byte ∷ later.front;
            byte = later.byte;
            rest = later.rest;
            before = limit_of field ∷ later.before;
            limit = later.limit;
            after = later.after;
            parts = ap (λ bs. byte ∷ bs) later.parts;
            limits_are = ap (λ ls. limit_of field ∷ ls) later.limits_are;
            below = (below, later.below);
            over = later.over;
            fault_is = later.fault_is ∙ ap (λ n. BadField n later.byte) there;
            same = later.same;
          }
      | false ↦ λ is_over e.
          let over : limit_of field ≤ byte = grind (arith, nat_tests) in
          let here : place ≡ place + 0 = omega arith in
          let is : BadField place byte ≡ fault = cc in
          record {
            front = [];
            byte = byte;
            rest = bytes;
            before = [];
            limit = limit_of field;
            after = map limit_of fields;
            parts = refl;
            limits_are = refl;
            below = tt;
            over = over;
            fault_is = sym is ∙ ap (λ n. BadField n byte) here;
            same = omega (arith, same, length-limits fields);
          }
    ] refl e

-- zeros are below any limits
zeros : List ℕ → List ℕ
zeros [] = []
zeros (limit ∷ limits) = 0 ∷ zeros limits

length-zeros : (limits : List ℕ) → length (zeros limits) ≡ length limits
unfolding zeros
length-zeros [] = refl
length-zeros (limit ∷ limits) = ap suc (length-zeros limits)

Below-length : (bytes limits : List ℕ) → Below bytes limits → length bytes ≡ length limits
Below-length [] [] below = refl
Below-length (byte ∷ bytes) (limit ∷ limits) below = ap suc (Below-length bytes limits below.1)
Below-length [] (limit ∷ limits) below = absurd below
Below-length (byte ∷ bytes) [] below = absurd below

Below-zeros : (fields : List Field) (before after : List ℕ) (front : List ℕ) → map limit_of fields ≡ before ++ after → Below front before → Below (front ++ zeros after) (map limit_of fields)
unfolding zeros
Below-zeros [] [] [] [] e below = tt
Below-zeros (field ∷ fields) [] (limit ∷ after) [] e below =
    let rest : map limit_of fields ≡ [] ++ after = cc in
    (limit_of-positive field, Below-zeros fields [] after [] rest tt)
Below-zeros (field ∷ fields) (limit ∷ before) after (byte ∷ front) e below =
    let is : limit_of field ≡ limit = cc in
    let rest : map limit_of fields ≡ before ++ after = cc in
    (omega (arith, is, below.0), Below-zeros fields before after front rest below.1)
Below-zeros [] [] (limit ∷ after) front e below = absurd cc
Below-zeros [] (limit ∷ before) after front e below = absurd cc
Below-zeros (field ∷ fields) [] [] front e below = absurd cc
Below-zeros (field ∷ fields) (limit ∷ before) after [] e below = absurd below
Below-zeros fields [] after (byte ∷ front) e below = absurd below

length-parts : (front : List ℕ) (byte : ℕ) (rest : List ℕ) → length (front ++ byte ∷ rest) ≡ length front + 1 + length rest
length-parts front byte rest = simp length-append (omega arith)

byte_of-parts : (front : List ℕ) (byte : ℕ) (rest : List ℕ) → get_or (front ++ byte ∷ rest) (length front) 0 ≡ byte
byte_of-parts [] byte rest = refl
byte_of-parts (a ∷ front) byte rest = byte_of-parts front byte rest

-- the fields that the bytes behind a command are held to
abbrev held_fields : Message → List ℕ → List Field
held_fields message behind = held message (length behind)

-- what they are answered
abbrev answer : Message → List ℕ → Bool → Option ReadFault
answer message behind same = cond same (first_bad 1 (held_fields message behind) behind) (Some (WrongLength (1 + length behind) (1 + length (row message).fields)))

-- DATA without a fault spells what is read of it.
read_ok : (command : ℕ) (behind : List ℕ) (message : Message) → message_of command behind ≡ Some message → fault_of (row message).fields (row message).spare behind ≡ None → Spells (command ∷ behind) message
read_ok command behind message e none =
    elim (nat_eq (length behind) (length (held_fields message behind))) as (λ t. nat_eq (length behind) (length (held_fields message behind)) ≡ t → answer message behind t ≡ None → Spells (command ∷ behind) message) [
      | true ↦ λ same none. (message_of-reads command behind message e).spells (first_bad-none 1 (held_fields message behind) behind (eqb-true _ _ same) none)
      | false ↦ λ other none. absurd cc
    ] refl none

-- DATA of a command has as many bytes as the fields that a message of the command holds so many bytes to.
length-Spells : (command : ℕ) (bytes : List ℕ) (m message : Message) → (row message).command ≡ command → Spells (command ∷ bytes) m → length bytes ≡ length (held_fields message bytes)
length-Spells command bytes m message is spells =
    let e = spells.parts in
    let command_is : (row m).command ≡ (row message).command = cc in
    let behind_is : bytes ≡ spells.behind = cc in
    let spelled = SpellRow-held bytes (row m) (subst (λ bs. SpellRow bs (row m)) (sym behind_is) spells.fields) in
    let limits = ap length (held_limits-command m message (length bytes) command_is) in
    omega (arith, length-SpellFields bytes (held_fields m bytes) spelled, limits, length-limits (held_fields m bytes), length-limits (held_fields message bytes))

wrong_length : (command : ℕ) (behind : List ℕ) (message : Message) → (row message).command ≡ command → length behind ≢ length (held_fields message behind)
    → IsRefused (command ∷ behind) (WrongLength (1 + length behind) (1 + length (row message).fields))
wrong_length command behind message is other = (
  omega arith,
  record {
    message = message;
    command_is = is;
    wanted_is = sym (length-text message);
    never = λ bytes m same spells.
        let holds = length-Spells command bytes m message is spells in
        other (sym same ∙ holds ∙ ap (λ n. length (held message n)) same);
  },
)

bad_field : (command : ℕ) (behind : List ℕ) (message : Message) (fault : ReadFault) → ((k : ℕ) → get_or behind k 0 < 256) → message_of command behind ≡ Some message
    → StandsWrong 1 behind (held_limits message (length behind)) fault → IsRefused (command ∷ behind) fault
bad_field command behind message fault fits e wrong =
    let read = message_of-reads command behind message e in
    let fill = wrong.front ++ zeros (wrong.limit ∷ wrong.after) in
    let byte_fits : wrong.byte < 256 =
    subst (λ n. n < 256) (byte_of-parts wrong.front wrong.byte wrong.rest) (subst (λ bs. get_or bs (length wrong.front) 0 < 256) wrong.parts (fits (length wrong.front))) in
    let len : length behind ≡ length wrong.front + 1 + length wrong.rest = ap length wrong.parts ∙ length-parts wrong.front wrong.byte wrong.rest in
    let fill_len : length fill ≡ length behind =
    omega (arith, length-append wrong.front (zeros (wrong.limit ∷ wrong.after)), length-zeros (wrong.limit ∷ wrong.after), wrong.same, len) in
    elim (message_of command fill) as (λ o. message_of command fill ≡ o → IsRefused (command ∷ behind) fault) [
      | None ↦ λ none. absurd (message_of-none command fill none message read.command_is)
      | Some m ↦ λ some.
          let found = message_of-reads command fill m some in
          let limits_are : held_limits m (length fill) ≡ wrong.before ++ wrong.limit ∷ wrong.after =
          ap (held_limits m) fill_len ∙ held_limits-command m message (length behind) (found.command_is ∙ sym read.command_is) ∙ wrong.limits_are in
          let below = Below-zeros (held_fields m fill) wrong.before (wrong.limit ∷ wrong.after) wrong.front limits_are wrong.below in
          let refused : IsRefused (command ∷ behind) (BadField (1 + length wrong.front) wrong.byte) = record {
            command = command;
            front = wrong.front;
            rest = wrong.rest;
            parts = ap (λ bs. command ∷ bs) wrong.parts;
            place_is = refl;
            others = zeros (wrong.limit ∷ wrong.after);
            message = m;
            length_is = omega (arith, length-zeros (wrong.limit ∷ wrong.after), wrong.same);
            good = found.spells below;
            never = λ more n same spells.
                let e = spells.parts in
                let bytes = wrong.front ++ wrong.byte ∷ more in
                let behind_is : bytes ≡ spells.behind = cc in
                let command_is : (row n).command ≡ (row message).command = cc (read.command_is) in
                let same_len : length bytes ≡ length behind = length-parts wrong.front wrong.byte more ∙ ap (λ k. length wrong.front + 1 + k) same ∙ sym len in
                let spelled = SpellRow-held bytes (row n) (subst (λ bs. SpellRow bs (row n)) (sym behind_is) spells.fields) in
                let limits_n : held_limits n (length bytes) ≡ wrong.before ++ wrong.limit ∷ wrong.after =
                ap (held_limits n) same_len ∙ held_limits-command n message (length behind) command_is ∙ wrong.limits_are in
                let under = spelled_below wrong.front wrong.byte more (held_fields n bytes) wrong.before wrong.limit wrong.after
                limits_n (Below-length wrong.front wrong.before wrong.below) (held-in_range n (length bytes) spells.in_range) spelled byte_fits in
                absurd (omega (arith, under, wrong.over));
          } in
          subst (IsRefused (command ∷ behind)) (sym wrong.fault_is) refused
    ] refl

-- DATA with a fault is refused with it.
read_err : (command : ℕ) (behind : List ℕ) (message : Message) (fault : ReadFault) → ((k : ℕ) → get_or behind k 0 < 256) → message_of command behind ≡ Some message
    → fault_of (row message).fields (row message).spare behind ≡ Some fault → IsRefused (command ∷ behind) fault
read_err command behind message fault fits e some =
    let read = message_of-reads command behind message e in
    elim (nat_eq (length behind) (length (held_fields message behind))) as (λ t. nat_eq (length behind) (length (held_fields message behind)) ≡ t → answer message behind t ≡ Some fault → IsRefused (command ∷ behind) fault) [
      | true ↦ λ same some. bad_field command behind message fault fits e (first_bad-some 1 (held_fields message behind) behind fault (eqb-true _ _ same) some)
      | false ↦ λ other some.
          let differ : length behind ≢ length (held_fields message behind) = λ same. grind (arith, nat_tests) in
          let is : WrongLength (1 + length behind) (1 + length (row message).fields) ≡ fault = cc in
          subst (IsRefused (command ∷ behind)) is (wrong_length command behind message read.command_is differ)
    ] refl some

-- DATA that no message's command begins is refused with it.
read_unknown : (command : ℕ) (behind : List ℕ) → message_of command behind ≡ None → IsRefused (command ∷ behind) (UnknownCommand command)
read_unknown command behind e = record {
  behind = behind;
  parts = refl;
  never = message_of-none command behind e;
}

-- The same of whole DATA, by its first byte and the bytes behind it.

abbrev pub head : List ℕ → ℕ
head bytes = get_or bytes 0 0

abbrev pub tail : List ℕ → List ℕ
tail bytes = take (length bytes - 1) (drop 1 bytes)

pub tail-cons : (byte : ℕ) (bytes : List ℕ) → tail (byte ∷ bytes) ≡ bytes
tail-cons byte bytes =
    let n : length (byte ∷ bytes) - 1 ≡ length bytes = omega arith in
    rw n (take_all (length bytes) bytes (omega arith))

pub head_and_tail : (bytes : List ℕ) → 1 ≤ length bytes → bytes ≡ head bytes ∷ tail bytes
head_and_tail [] some = absurd (omega (arith, some))
head_and_tail (byte ∷ bytes) some = ap (λ bs. byte ∷ bs) (sym (tail-cons byte bytes))

fits_tail : (bytes : List ℕ) → 1 ≤ length bytes → ((k : ℕ) → get_or bytes k 0 < 256) → (k : ℕ) → get_or (tail bytes) k 0 < 256
fits_tail [] some fits k = absurd (omega (arith, some))
fits_tail (byte ∷ bytes) some fits k = subst (λ bs. get_or bs k 0 < 256) (sym (tail-cons byte bytes)) (fits (suc k))

pub data_ok : (bytes : List ℕ) (message : Message) → 1 ≤ length bytes → Some message ≡ message_of (head bytes) (tail bytes) → fault_of (row message).fields (row message).spare (tail bytes) ≡ None → Spells bytes message
data_ok bytes message some e none = subst (λ bs. Spells bs message) (sym (head_and_tail bytes some)) (read_ok (head bytes) (tail bytes) message (sym e) none)

pub data_err : (bytes : List ℕ) (message : Message) (fault : ReadFault) → 1 ≤ length bytes → ((k : ℕ) → get_or bytes k 0 < 256) → Some message ≡ message_of (head bytes) (tail bytes)
    → fault_of (row message).fields (row message).spare (tail bytes) ≡ Some fault → IsRefused bytes fault
data_err bytes message fault some fits e is =
    subst (λ bs. IsRefused bs fault) (sym (head_and_tail bytes some)) (read_err (head bytes) (tail bytes) message fault (fits_tail bytes some fits) (sym e) is)

pub data_unknown : (bytes : List ℕ) → 1 ≤ length bytes → message_of (head bytes) (tail bytes) ≡ None → IsRefused bytes (UnknownCommand (head bytes))
data_unknown bytes some e = subst (λ bs. IsRefused bs (UnknownCommand (head bytes))) (sym (head_and_tail bytes some)) (read_unknown (head bytes) (tail bytes) e)
