use Rattle.command_rows.specs.LentDisk.{disk_end}
use Rattle.command_rows.specs.Moment.{output_of}
use Rattle.command_format.specs.Format.{IsFormatted}
use Rattle.command_format.proofs.FormatLemmas.{told, where_done}
use Rattle.command_format.proofs.row.work.Goals as goal

pub returns : goal.returns
returns g c =
    let here = c.in-Here.ensures in
    let back = c.close_disk.ensures in
    let formatted = c.format_disk-formatted in
    let shown = disk_end g.F.D.Disk.name g.F.D.Disk.past g.F.D.Disk.faults formatted.result.1 in
    told c.args.plant.now c.args.store.now (g.F.Files.shows c.args.files.now) (g.F.Files.shows c.disk.new.self) (g.F.Files.shows c.close_disk.new.self) shown (output_of g.K.Sink.written g.K.Sink.faults c.args.out.now)
    (record { others = record { held = here.others; disks = here.disks }; custody = here.lent; faults = here.count }) (formatted.ensures.named c.args.store.now here.named)
    (record { held = back.others; disks = back.disks; custody = back.returned; faults = back.count }) (output_of g.K.Sink.written g.K.Sink.faults c.write_number.new.out) c.if_written.result c.store_size-size.result c.write_number.result
    c.store_size-size.ensures (where_done formatted.result.0 (IsFormatted c.args.plant.now shown) c.if-not-formatted.false formatted.ensures.done) c.write_number.ensures.all c.write_number.ensures.front c.write_number.ensures.count
    c.if_written.ensures.written c.if_written.ensures.unwritten
