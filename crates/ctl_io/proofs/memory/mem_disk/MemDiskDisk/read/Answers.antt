use Rattle.std.proofs.Common.{◌≡◌, ap, sym, subst, length, Some}
use Rattle.ctl_io.specs.Calls.{next_fails}
use Rattle.ctl_io.specs.Crash.{LeavesNoMore, Elapses}
use Rattle.ctl_io.specs.DiskPast.{Stored, WasRead, MayLeave, LeftSince, ShownSince}
use Rattle.ctl_io.specs.MemDisk.{DiskState, stored_by, has_room}
use Rattle.ctl_io.proofs.MemDiskLaws.{counts, elapses_when, shows_when, reads, read_crash}
use Rattle.ctl_io.proofs.memory.mem_disk.MemDiskDisk.read.Goals as goal

pub returns-clause-contents : goal.returns-clause-contents
returns-clause-contents c =
    let d = c.args.self.now in
    subst (λ (s : DiskState). Some (stored_by s).present ≡ Some (stored_by d).present) (sym c.give.ensures.after) (ap (λ (s : Stored). Some s.present) (reads d))

pub returns-clause-size : goal.returns-clause-size
returns-clause-size c =
    let d = c.args.self.now in
    subst (λ (s : DiskState). length (stored_by s).present ≡ length (stored_by d).present) (sym c.give.ensures.after) (ap (λ (s : Stored). length s.present) (reads d))

pub returns-clause-crash : goal.returns-clause-crash
returns-clause-crash c =
    let d = c.args.self.now in
    subst (λ (s : DiskState). LeavesNoMore (MayLeave (stored_by d)) (MayLeave (stored_by s))) (sym c.give.ensures.after) (read_crash d)

pub returns-clause-time : goal.returns-clause-time
returns-clause-time c =
    let d = c.args.self.now in
    subst (λ (s : DiskState). Elapses (length d.events) (length s.events) (LeftSince d.start d.events) (LeftSince s.start s.events) (MayLeave (stored_by s))) (sym c.give.ensures.after)
    (elapses_when (next_fails d.calls) (has_room 0 d) WasRead 0 d)

pub returns-clause-shown : goal.returns-clause-shown
returns-clause-shown c =
    let d = c.args.self.now in
    subst (λ (s : DiskState). Elapses (length d.events) (length s.events) (ShownSince d.start d.events) (ShownSince s.start s.events) (λ all. Some (stored_by s).present ≡ Some all)) (sym c.give.ensures.after)
    (shows_when (next_fails d.calls) (has_room 0 d) WasRead 0 d)

pub returns-clause-count : goal.returns-clause-count
returns-clause-count c = counts c.args.self.now _ 0 WasRead _ c.give.ensures.after c.give.ensures.answer
