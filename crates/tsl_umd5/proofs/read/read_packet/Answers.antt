use Rattle.std.proofs.Common.{ap, sym, ◌∙◌, arith}
use Rattle.tsl_umd5.specs.Reading.{packet_reading}
use Rattle.tsl_umd5.proofs.MessageLemmas.{IsBytes}
use Rattle.tsl_umd5.proofs.RefusalLemmas.{is_refused, is_reading}
use Rattle.tsl_umd5.proofs.ReadingLemmas.{is_found, reading_again}
use Rattle.tsl_umd5.proofs.read.read_packet.Goals as goal

pub returns-clause-found : goal.returns-clause-found
returns-clause-found c = is_found c.args.bytes.now c.packet_of.result (λ i. omega (arith, c.type_inv.bytes i)) c.packet_of.ensures

pub returns-clause-only : goal.returns-clause-only
returns-clause-only c = λ p is. c.packet_of.ensures ∙ ap packet_reading is.is_text ∙ reading_again p is.is_packet

pub returns-clause-refused : goal.returns-clause-refused
returns-clause-refused c = λ fault.
    let fits : IsBytes c.args.bytes.now = λ i. omega (arith, c.type_inv.bytes i) in
    (λ e. is_refused c.args.bytes.now fault fits (sym c.packet_of.ensures ∙ e), λ refused. c.packet_of.ensures ∙ is_reading c.args.bytes.now fault fits refused)
