use Rattle.std.proofs.Common.{◌≡◌, length, take, drop, map, min, ap, sym, subst, ◌∙◌, arith}
use Rattle.std.proofs.lemmas.List.{take_at}
use Rattle.std.proofs.lemmas.Result.{IfOk-weaker}
use Rattle.ctl_io.specs.DiskPast.{MayLeave}
use Rattle.ctl_io.specs.MemDisk.{DiskState, stored_by, unused, crashed_at, crash_copy, torn_last}
use Rattle.ctl_io.specs.MemDiskInside.{stored_in, write_of}
use Rattle.ctl_io.proofs.MemDiskLemmas.{crashed_left, crashed_is}
use Rattle.ctl_io.proofs.memory.mem_disk.MemDisk.crashed.Goals as goal

pub returns-clause-after : goal.returns-clause-after
returns-clause-after c =
    let i = c.self.inside in
    let out = c.replay.new.out in
    let copied : c.deref_mut.result.now ≡ i.synced.items = c.deref_mut.ensures.value ∙ c.in_ok-bytes.ensures.items_if_clones_equal (λ x y e. e) ∙ c.deref.ensures.value in
    let first : c.min-first.result ≡ min c.args.kept (length i.pending.items) = omega (arith, c.min-first.ensures, c.len.ensures) in
    let made : out ≡ crashed_at c.args.kept (stored_in i) =
    c.replay.ensures ∙ (λ k. torn_last (map (write_of (c.deref-3.ensures.value k)) (take c.min-first.result (c.deref-2.ensures.value k))) (copied k))
    ∙ crashed_is c.args.kept c.min-first.result (stored_in i) i.present.items i.synced.items i.written.items i.pending.items c.self.invariant.agrees first in
    let long : length out ≡ c.in_ok-bytes.bytes.len = omega (arith, c.replay.auto.out, c.deref_mut.ensures.len) in
    let bytes = take_at out (drop (length out) c.in_ok-bytes.bytes.items) c.in_ok-bytes.bytes.len long ∙ made in
    IfOk-weaker c.new-2.result _ _
    (λ disk is. is ∙ (λ k. unused (bytes k) (c.capacity-calls.ensures k) (c.capacity-room.ensures k) (c.new.ensures.items k)) ∙ ap (crash_copy c.args.kept) c.self.view_is)
    c.new-2.ensures

pub returns-clause-left : goal.returns-clause-left
returns-clause-left c =
    let i = c.self.inside in
    let left : MayLeave (stored_by c.args.self.now) (crashed_at c.args.kept (stored_by c.args.self.now)) =
    subst (λ (d : DiskState). MayLeave (stored_by d) (crashed_at c.args.kept (stored_by d))) c.self.view_is
    (crashed_left c.args.kept (stored_in i) i.present.items i.synced.items i.written.items i.pending.items c.self.invariant.agrees) in
    IfOk-weaker c.new-2.result _ _ (λ disk is. subst (MayLeave (stored_by c.args.self.now)) (sym (ap (λ (d : DiskState). d.start) is)) left) (returns-clause-after c)
