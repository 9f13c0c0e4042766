use Rattle.std.proofs.Common.{◌≡◌, map, sym, ap, ◌∙◌, subst}
use Rattle.swp08_messages.specs.declared.message.Message.{Message}
use Rattle.swp08_messages.specs.Field.{byte_of}
use Rattle.swp08_messages.specs.Row.{row}
use Rattle.swp08_messages.specs.Text.{text, InRange}
use Rattle.swp08_messages.specs.Spelled.{Spells}
use Rattle.swp08_messages.proofs.SpelledLemmas.{Spells-text}
use Rattle.swp08_messages.specs.ViewsInside.{written}
use Rattle.swp08_messages.proofs.FaultLemmas.{tail, tail-cons}
use Rattle.swp08_messages.proofs.ViewLemmas.{written-bytes}
use Rattle.swp08_messages.proofs.message.Message.read_text.Goals as goal
use Rattle.swp08_messages.proofs.message.Message.read_text.Goals.{In_default-read, Else-are_same}

-- DATA that is not read is the text of no message.
no_text : (c : In_default-read) (message : Message) → InRange message → c.args.bytes.now ≡ text message → ⊥
no_text c message h e =
    let read = c.in_default-read.ensures.only_ok message (subst (λ bs. Spells bs message) (sym e) (Spells-text message h)) in
    cc

pub returns-in_default-read-clause-text : goal.returns-in_default-read-clause-text
returns-in_default-read-clause-text c = no_text c

pub returns-in_default-read-clause-only : goal.returns-in_default-read-clause-only
returns-in_default-read-clause-only c = λ message h e. absurd (no_text c message h e)

pub returns-then-are_same-clause-only : goal.returns-then-are_same-clause-only
returns-then-are_same-clause-only c = λ message h e. let read = c.in-Ok.ensures.only_ok message (subst (λ bs. Spells bs message) (sym e) (Spells-text message h)) in cc

-- DATA that is read and is not as it is written is the text of no message.
not_as_written : (c : Else-are_same) (message : Message) → InRange message → c.args.bytes.now ≡ text message → ⊥
not_as_written c message h e =
    let read = c.in-Ok.ensures.only_ok message (subst (λ bs. Spells bs message) (sym e) (Spells-text message h)) in
    let same : message ≡ c.in-Ok.message = cc in
    let behind : tail c.args.bytes.now ≡ map byte_of (row message).fields = ap tail e ∙ tail-cons (row message).command (map byte_of (row message).fields) in
    let fields : map byte_of (row message).fields ≡ c.as_slice.result.now =
    sym (written-bytes (row message).fields h) ∙ ap (λ m. map written (row m).fields) same ∙ sym c.fields.ensures ∙ sym c.as_slice.ensures.value in
    let equal = c.if-are_same.ensures.1 (behind ∙ fields) in
    cc

pub returns-else-are_same-clause-text : goal.returns-else-are_same-clause-text
returns-else-are_same-clause-text c = not_as_written c

pub returns-else-are_same-clause-only : goal.returns-else-are_same-clause-only
returns-else-are_same-clause-only c = λ message h e. absurd (not_as_written c message h e)
