use Rattle.std.proofs.Common.{refl}
use Rattle.command_rows.proofs.OpensLemmas.{unread}
use Rattle.command_rows.proofs.whole.read_whole_file.Goals as goal

pub returns-in-Err : goal.returns-in-Err
returns-in-Err g c =
    let reads = c.in-Err.ensures in
    rw c.of_file.ensures
    (unread c.in-Err.fault c.args.word c.args.most c.args.name _ _ _ refl reads.missing reads.too_long reads.no_memory
    (record { openings = reads.next; others = reads.others; disks = reads.disks; given_back = reads.given_back; faults = reads.count }))
