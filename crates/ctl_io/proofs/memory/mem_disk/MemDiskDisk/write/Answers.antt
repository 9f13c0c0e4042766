use Rattle.std.proofs.Common.{◌≡◌, not, ap, sym, subst, ◌∙◌, List, length, Some}
use Rattle.ctl_io.specs.Calls.{next_fails}
use Rattle.ctl_io.specs.Disk.{Torn}
use Rattle.ctl_io.specs.Crash.{Follows, Elapses}
use Rattle.ctl_io.specs.DiskPast.{DiskWrite, WasWritten, MayLeave, LeftSince, ShownSince}
use Rattle.ctl_io.specs.MemDisk.{DiskState, stored_by, has_room}
use Rattle.ctl_io.proofs.MemDiskLaws.{counts, elapses_when, shows_when, writes, tears, write_crash}
use Rattle.ctl_io.proofs.memory.mem_disk.MemDiskDisk.write.Goals as goal
use Rattle.ctl_io.proofs.memory.mem_disk.MemDiskDisk.write.Goals.{After-take}

-- the write that is made
abbrev made : After-take → DiskWrite
made c = record { at = c.args.at; bytes = c.args.bytes.now }

torn : (c : After-take) → Torn c.args.at (length c.args.bytes.now) (stored_by c.args.self.now).present (stored_by c.take.new.self).present
torn c =
    let d = c.args.self.now in
    subst (λ (s : DiskState). Torn c.args.at (length c.args.bytes.now) (stored_by d).present (stored_by s).present) (sym c.take.ensures.after) (tears d (made c) c.requires)

pub returns-clause-written : goal.returns-clause-written
returns-clause-written c = λ done.
    let d = c.args.self.now in
    ap (λ (s : DiskState). Some (stored_by s).present) c.take.ensures.after ∙ ap (λ (l : List _). Some l) (writes d (made c) _ c.take.ensures.answer done)

pub returns-clause-others : goal.returns-clause-others
returns-clause-others c = torn c

pub returns-clause-size : goal.returns-clause-size
returns-clause-size c = (torn c).as_long

pub returns-clause-crash : goal.returns-clause-crash
returns-clause-crash c =
    let d = c.args.self.now in
    subst (λ (s : DiskState). Follows (Torn c.args.at (length c.args.bytes.now)) (MayLeave (stored_by d)) (MayLeave (stored_by s))) (sym c.take.ensures.after) (write_crash d (made c) c.requires)

pub returns-clause-time : goal.returns-clause-time
returns-clause-time c =
    let d = c.args.self.now in
    subst (λ (s : DiskState). Elapses (length d.events) (length s.events) (LeftSince d.start d.events) (LeftSince s.start s.events) (MayLeave (stored_by s))) (sym c.take.ensures.after)
    (elapses_when (next_fails d.calls) (has_room (length c.args.bytes.now) d) (WasWritten (not (next_fails d.calls)) (made c)) (length c.args.bytes.now) d)

pub returns-clause-shown : goal.returns-clause-shown
returns-clause-shown c =
    let d = c.args.self.now in
    subst (λ (s : DiskState). Elapses (length d.events) (length s.events) (ShownSince d.start d.events) (ShownSince s.start s.events) (λ all. Some (stored_by s).present ≡ Some all)) (sym c.take.ensures.after)
    (shows_when (next_fails d.calls) (has_room (length c.args.bytes.now) d) (WasWritten (not (next_fails d.calls)) (made c)) (length c.args.bytes.now) d)

pub returns-clause-count : goal.returns-clause-count
returns-clause-count c = counts c.args.self.now _ (length c.args.bytes.now) _ _ c.take.ensures.after c.take.ensures.answer
