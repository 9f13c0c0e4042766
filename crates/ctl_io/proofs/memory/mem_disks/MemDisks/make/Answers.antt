use Rattle.std.proofs.Common.{◌≡◌, ◌≤◌, ◌++◌, List, [], Some, take, replicate, sym, ap, ◌∙◌, subst, arith}
use Rattle.std.specs.List.{AllByRecursion}
use Rattle.ctl_io.specs.MemDisk.{DiskState, unused}
use Rattle.ctl_io.specs.MemDisks.{DisksState, disk_made}
use Rattle.ctl_io.specs.MemDisksInside.{IsBlank, made_size}
use Rattle.ctl_io.proofs.MemDisksLemmas.{all_split, made_is, zeros_cut}
use Rattle.ctl_io.proofs.memory.mem_disks.MemDisks.make.Goals as goal

pub returns-clause-made : goal.returns-clause-made
returns-clause-made c =
    let made = made_size c.self.inside in
    let size = c.args.size in
    let blank = (all_split (IsBlank made) _ _ (subst (AllByRecursion (IsBlank made)) c.in_ok-blank.ensures.items c.self.invariant.blank)).1 in
    let named : c.of.result ≡ c.args.name.now = c.of.ensures ∙ c.append.ensures.bytes ∙ ap (λ (front : List _). front ++ c.args.name.now) blank.unnamed in
    let cut : c.cut.new.self ≡ unused (replicate size 0) made.calls_room made.bytes_room [] =
    c.cut.ensures ∙ ap (λ (d : DiskState). record d { start = take size d.start }) blank.disk ∙ zeros_cut size made (subst (λ (d : DisksState). size ≤ d.made.bytes) (sym c.self.view_is) c.requires.within) in
    (λ k. Some (record { name = named k; disk = cut k })) ∙ made_is c.args.name.now size made (omega (arith, c.if-name-gt-LONGEST_NAME.false))
    ∙ ap (λ (d : DisksState). disk_made c.args.name.now size d.made) c.self.view_is
