use Rattle.std.proofs.Common.{◌≡◌, Bool, true, false, length, Some, sym, ap, subst, ◌∙◌}
use Rattle.ctl_io.specs.Files.{IfFound, IsZeroed}
use Rattle.ctl_io.specs.Held.{ShowsHeld, Stays, AfterFound, IsNamed}
use Rattle.ctl_io.specs.MemDisk.{past_of, stored_by}
use Rattle.ctl_io.specs.MemDisks.{disk_held_of}
use Rattle.ctl_io.specs.MemFiles.{FilesState, held_of, custody_of, disk_answer, after_disk}
use Rattle.ctl_io.specs.declared.files.Found.{Found}
use Rattle.ctl_io.specs.declared.files.Found.TheVariants as found
use Rattle.ctl_io.specs.declared.memory.named_objects.NamedDisk.{NamedDisk}
use Rattle.ctl_io.proofs.MemFilesLemmas.{if_found}
use Rattle.ctl_io.proofs.MemDisksLemmas.{disk_is_held, disk_is_zeroed, disk_is_named, made_is_found, missing_is_unheld, next_disk, other_disk, sources_stay, disk_is_lent}
use Rattle.ctl_io.proofs.memory.mem_files.MemFilesFiles.disk.Goals as goal

-- what is answered, where the call makes a disk or doesn't
answered : (c : goal.After-lend_disk) (make : Bool) → c.args.make ≡ make → disk_answer c.args.self.now c.args.name.now c.args.size make ≡ c.lend_disk.result
answered c make is = ap (disk_answer c.args.self.now c.args.name.now c.args.size) (sym is) ∙ sym c.lend_disk.ensures.answer

zeroed : (c : goal.After-lend_disk) → c.args.make ≡ true → IfFound c.lend_disk.result (λ entry. IsZeroed c.args.size (Some (stored_by entry.disk).present) × (length (stored_by entry.disk).present ≡ c.args.size))
zeroed c is =
    let P : Found NamedDisk → Type 0 = λ found. IfFound found (λ entry. IsZeroed c.args.size (Some (stored_by entry.disk).present) × (length (stored_by entry.disk).present ≡ c.args.size)) in
    subst P (answered c true is) (disk_is_zeroed c.args.self.now c.args.name.now c.args.size)

pub returns-clause-held : goal.returns-clause-held
returns-clause-held c = λ is.
    let P : Found NamedDisk → Type 0 = λ found. IfFound found (λ entry. ShowsHeld (disk_held_of c.args.self.now.disks c.args.name.now 0) (Some (past_of entry.disk))) in
    subst P (answered c false is) (disk_is_held c.args.self.now c.args.name.now c.args.size)

pub returns-clause-zeroed : goal.returns-clause-zeroed
returns-clause-zeroed c = λ is. if_found _ _ c.lend_disk.result (zeroed c is) (λ entry fact. fact.0)

pub returns-clause-size : goal.returns-clause-size
returns-clause-size c = λ is. if_found _ _ c.lend_disk.result (zeroed c is) (λ entry fact. fact.1)

pub returns-clause-named : goal.returns-clause-named
returns-clause-named c =
    let P : Found NamedDisk → Type 0 = λ found. IfFound found (λ entry. IsNamed c.args.name.now (Some entry.name)) in
    subst P (sym c.lend_disk.ensures.answer) (disk_is_named c.args.self.now c.args.name.now c.args.size c.args.make)

pub returns-clause-found : goal.returns-clause-found
returns-clause-found c = λ is missing. made_is_found c.args.self.now c.args.name.now c.args.size (answered c true is ∙ missing)

pub returns-clause-missing : goal.returns-clause-missing
returns-clause-missing c = λ missing. missing_is_unheld c.args.self.now c.args.name.now c.args.size c.args.make (sym c.lend_disk.ensures.answer ∙ missing)

pub returns-clause-next : goal.returns-clause-next
returns-clause-next c = λ is.
    let P : FilesState → Type 0 = λ files. AfterFound c.lend_disk.result (disk_held_of c.args.self.now.disks c.args.name.now) (disk_held_of files.disks c.args.name.now) in
    subst P (sym (c.lend_disk.ensures.after ∙ ap (λ (make : Bool). after_disk c.lend_disk.result c.args.name.now make c.args.self.now) is)) (next_disk c.lend_disk.result c.args.name.now c.args.self.now)

pub returns-clause-same : goal.returns-clause-same
returns-clause-same c = λ is.
    let P : FilesState → Type 0 = λ files. Stays (held_of c.args.self.now c.args.name.now) (held_of files c.args.name.now) in
    subst P (sym c.lend_disk.ensures.after) (sources_stay c.lend_disk.result c.args.name.now c.args.name.now c.args.make c.args.self.now)

pub returns-clause-others : goal.returns-clause-others
returns-clause-others c = λ other apart.
    let P : FilesState → Type 0 = λ files. Stays (held_of c.args.self.now other) (held_of files other) in
    subst P (sym c.lend_disk.ensures.after) (sources_stay c.lend_disk.result c.args.name.now other c.args.make c.args.self.now)

pub returns-clause-disks : goal.returns-clause-disks
returns-clause-disks c = λ other apart.
    let P : FilesState → Type 0 = λ files. Stays (disk_held_of c.args.self.now.disks other) (disk_held_of files.disks other) in
    subst P (sym c.lend_disk.ensures.after) (other_disk c.lend_disk.result c.args.name.now other c.args.make c.args.self.now apart)

pub returns-clause-lent : goal.returns-clause-lent
returns-clause-lent c = ap custody_of c.lend_disk.ensures.after ∙ disk_is_lent c.lend_disk.result c.args.name.now c.args.make c.args.self.now
