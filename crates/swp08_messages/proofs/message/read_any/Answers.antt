use Rattle.std.proofs.Common.{Ok, Err, ap, sym, arith}
use Rattle.swp08_messages.specs.declared.fault.ReadFault.TheVariants.{UnknownCommand}
use Rattle.swp08_messages.specs.Spelled.{Spells}
use Rattle.swp08_messages.specs.Refused.{HasUnknownCommand, IsRefused}
use Rattle.swp08_messages.proofs.ReadingLemmas.{one_message}
use Rattle.swp08_messages.proofs.RefusedLemmas.{not_both, one_fault}
use Rattle.swp08_messages.proofs.FaultLemmas.{data_ok, data_err, data_unknown, head}
use Rattle.swp08_messages.proofs.message.read_any.Goals as goal
use Rattle.swp08_messages.proofs.message.read_any.Goals.{In-None, In-Some-fault, In_default-read_unchecked}

-- DATA of which no byte is wrong spells what was read.
spells : (c : In-None) → Spells c.args.bytes.now c.in-Some.message
spells c =
    data_ok c.args.bytes.now c.in-Some.message c.in-len1-up.len_at_least c.in-Some.ensures
    (sym c.in-None.ensures)

pub returns-in-None-clause-read : goal.returns-in-None-clause-read
returns-in-None-clause-read c = spells c

pub returns-in-None-clause-only_ok : goal.returns-in-None-clause-only_ok
returns-in-None-clause-only_ok c = λ message other. ap (λ m. Ok m) (one_message c.args.bytes.now _ message (spells c) other)

pub returns-in-None-clause-only_err : goal.returns-in-None-clause-only_err
returns-in-None-clause-only_err c = λ fault refused. absurd (not_both c.args.bytes.now _ fault (spells c) refused)

-- DATA with a wrong byte, or of a wrong length, is refused.
refused : (c : In-Some-fault) → IsRefused c.args.bytes.now c.in-Some-fault.fault
refused c =
    data_err c.args.bytes.now c.in-Some.message c.in-Some-fault.fault c.in-len1-up.len_at_least (λ k. omega (arith, c.type_inv.bytes k)) c.in-Some.ensures
    (sym c.in-Some-fault.ensures)

pub returns-in-Some-fault-clause-read : goal.returns-in-Some-fault-clause-read
returns-in-Some-fault-clause-read c = refused c

pub returns-in-Some-fault-clause-only_ok : goal.returns-in-Some-fault-clause-only_ok
returns-in-Some-fault-clause-only_ok c = λ message spells. absurd (not_both c.args.bytes.now message _ spells (refused c))

pub returns-in-Some-fault-clause-only_err : goal.returns-in-Some-fault-clause-only_err
returns-in-Some-fault-clause-only_err c = λ fault other. ap (λ f. Err f) (one_fault c.args.bytes.now _ fault (refused c) other)

-- DATA that no message's command begins is refused.
unknown : (c : In_default-read_unchecked) → HasUnknownCommand c.args.bytes.now (head c.args.bytes.now)
unknown c = data_unknown c.args.bytes.now c.in-len1-up.len_at_least (sym c.in_default-read_unchecked.ensures)

pub returns-in_default-read_unchecked-clause-read : goal.returns-in_default-read_unchecked-clause-read
returns-in_default-read_unchecked-clause-read c = unknown c

pub returns-in_default-read_unchecked-clause-only_ok : goal.returns-in_default-read_unchecked-clause-only_ok
returns-in_default-read_unchecked-clause-only_ok c = λ message spells.
    absurd (not_both c.args.bytes.now message (UnknownCommand (head c.args.bytes.now)) spells (unknown c))

pub returns-in_default-read_unchecked-clause-only_err : goal.returns-in_default-read_unchecked-clause-only_err
returns-in_default-read_unchecked-clause-only_err c = λ fault other.
    ap (λ f. Err f) (one_fault c.args.bytes.now (UnknownCommand (head c.args.bytes.now)) fault (unknown c) other)
