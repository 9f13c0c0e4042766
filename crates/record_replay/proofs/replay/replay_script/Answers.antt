use Rattle.std.proofs.Common.{refl}
use Rattle.record_replay.proofs.ReplayScriptLemmas.{streamed_whole, streamed_front, never_rises}
use Rattle.record_replay.proofs.replay.replay_script.Goals as goal

pub unreachable-requires : goal.unreachable-requires
unreachable-requires g c =
    let told = rw c.in-Err-PortFault.field-0-is at c.in-Err-PortFault.ensures.port_count in never_rises told

pub returns-in-Ok-clause-ok : goal.returns-in-Ok-clause-ok
returns-in-Ok-clause-ok g c = streamed_whole c.args.plant.now c.args.script.now _ _ _ c.in-Ok.ensures.ok

pub returns-in-Err-NoMemory-clause-no_memory : goal.returns-in-Err-NoMemory-clause-no_memory
returns-in-Err-NoMemory-clause-no_memory g c = λ is.
    let told = rw c.in-Err-NoMemory.field-0-is at c.in-Err-NoMemory.ensures.no_memory in (told refl).0

pub returns-in-Err-NoMemory-clause-count : goal.returns-in-Err-NoMemory-clause-count
returns-in-Err-NoMemory-clause-count g c = rw c.in-Err-NoMemory.field-0-is at c.in-Err-NoMemory.ensures.count

pub returns-in-Err-OutputFault-clause-output_fault : goal.returns-in-Err-OutputFault-clause-output_fault
returns-in-Err-OutputFault-clause-output_fault g c = λ is.
    let told = rw c.in-Err-OutputFault.field-0-is at c.in-Err-OutputFault.ensures.output_fault in
    streamed_front c.args.plant.now c.args.script.now _ _ _ _ _ (told refl)

pub returns-in-Err-OutputFault-clause-count : goal.returns-in-Err-OutputFault-clause-count
returns-in-Err-OutputFault-clause-count g c = rw c.in-Err-OutputFault.field-0-is at c.in-Err-OutputFault.ensures.count
