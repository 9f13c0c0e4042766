use Rattle.std.proofs.Common.{refl}
use Rattle.command_rows.proofs.OpensLemmas.{plant_unread, text_read, text_refused}
use Rattle.command_rows.proofs.plant.read_plant.Goals as goal

pub returns-in-Err : goal.returns-in-Err
returns-in-Err g c =
    let reads = c.in-Err.ensures in
    rw c.of_file.ensures
    (plant_unread c.in-Err.fault c.args.name _ _ _ refl reads.missing reads.too_long reads.no_memory
    (record { openings = reads.next; others = reads.others; disks = reads.disks; given_back = reads.given_back; faults = reads.count }))

pub returns-in-Ok-from_toml : goal.returns-in-Ok-from_toml
returns-in-Ok-from_toml g c =
    let reads = c.in-Ok.ensures in
    text_read c.in-Ok-from_toml.plant c.args.name.now _ _ c.as_slice.result.now (rw c.as_slice.ensures.value reads.whole) (rw c.as_slice.ensures.value reads.within) c.in-Ok-from_toml.ensures
    (record { openings = reads.next; others = reads.others; disks = reads.disks; given_back = reads.given_back; faults = reads.count })

pub returns : goal.returns
returns g c =
    let reads = c.in-Ok.ensures in
    text_refused c.in-Err-from_toml.fault c.of_fault.result c.args.name.now _ _ c.as_slice.result.now
    (rw c.as_slice.ensures.value reads.whole) (rw c.as_slice.ensures.value reads.within) c.in-Err-from_toml.ensures c.of_fault.ensures
    (record { openings = reads.next; others = reads.others; disks = reads.disks; given_back = reads.given_back; faults = reads.count })
