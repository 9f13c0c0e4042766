use Rattle.std.proofs.Common.{List, Option, Some, IfSome, find, sym, ap, ◌∙◌, subst}
use Rattle.ctl_io.specs.MemDisks.{DisksState, disk_has, after_lending, IsNewDisk, AreNewDisks}
use Rattle.ctl_io.specs.MemDisksInside.{disks_state}
use Rattle.ctl_io.specs.declared.memory.named_objects.NamedDisk.{NamedDisk}
use Rattle.ctl_io.proofs.MemFilesLemmas.{first_has, others_have}
use Rattle.ctl_io.proofs.memory.mem_disks.MemDisks.lend.Goals as goal

pub invariant_of-self-2 : goal.invariant_of-self-2
invariant_of-self-2 c = record {
  new = subst AreNewDisks (sym c.take_first.ensures.rest) (others_have _ (disk_has c.args.name.now) c.self.inside.waiting.items c.self.invariant.new);
  blank = c.self.invariant.blank;
}

pub returns-clause-found : goal.returns-clause-found
returns-clause-found c = c.in_ok-entry.ensures.found ∙ ap (λ (d : DisksState). find (disk_has c.args.name.now) d.waiting) c.self.view_is

pub returns-clause-after : goal.returns-clause-after
returns-clause-after c =
    ap (λ (w : List NamedDisk). record (after_lending (Some c.in_ok-entry.entry) c.args.name.now (disks_state c.self.inside)) { waiting = w }) c.take_first.ensures.rest
    ∙ ap (after_lending (Some c.in_ok-entry.entry) c.args.name.now) c.self.view_is

pub returns-clause-new : goal.returns-clause-new
returns-clause-new c =
    let P : Option NamedDisk → Type 0 = λ first. IfSome first (λ entry. IsNewDisk entry.disk) in
    subst P (sym c.in_ok-entry.ensures.found) (first_has _ (disk_has c.args.name.now) c.self.inside.waiting.items c.self.invariant.new)
