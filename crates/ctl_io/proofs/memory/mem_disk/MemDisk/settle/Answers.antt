use Rattle.std.proofs.Common.{Bool, not, [], ap, ◌∙◌, refl, rules, arith}
use Rattle.ctl_io.specs.Calls.{called}
use Rattle.ctl_io.specs.DiskPast.{WasSynced, after_sync}
use Rattle.ctl_io.specs.MemDisk.{after_disk_sync, disk_answer}
use Rattle.ctl_io.specs.MemDiskInside.{stored_in, disk_state, events_on}
use Rattle.ctl_io.specs.declared.memory.disk_call.DiskCall.TheVariants as call
use Rattle.ctl_io.proofs.MemDiskCalls.{room_is, answer_full, answer_done, after_full, after_recorded, kept_same, kept_sync}
use Rattle.ctl_io.proofs.MemDiskLemmas.{events_sync}
use Rattle.ctl_io.proofs.memory.mem_disk.MemDisk.settle.Goals as goal

pub returns-then-not-room-clause-answer : goal.returns-then-not-room-clause-answer
returns-then-not-room-clause-answer c =
    answer_full (disk_state c.self.inside) 0 _ _ c.next_fails-listed.ensures (c.has_room-room.ensures ∙ room_is c.self.inside 0) (search rules) ∙ ap (disk_answer 0) c.self.view_is

pub returns-then-not-room-clause-after : goal.returns-then-not-room-clause-after
returns-then-not-room-clause-after c =
    after_full (disk_state c.self.inside) 0 _ _ c.next_fails-listed.ensures (c.has_room-room.ensures ∙ room_is c.self.inside 0) _ WasSynced (search rules) refl (c.count.ensures ∙ ap (λ (f : Bool). called f c.self.inside.count) c.fails.ensures) ∙ ap after_disk_sync c.self.view_is

pub invariant_of-self-then-listed : goal.invariant_of-self-then-listed
invariant_of-self-then-listed c =
    kept_same c.self.inside _ _ (call.Sync (not c.next_fails-listed.result)) c.self.invariant c.push_reserved.ensures.items c.push_reserved.ensures.capacity tt
    (ap (λ (b : Bool). after_sync (not b) (stored_in c.self.inside)) c.if-listed.true)

pub returns-then-listed-clause-after : goal.returns-then-listed-clause-after
returns-then-listed-clause-after c =
    after_recorded (disk_state c.self.inside) 0 _ _ c.next_fails-listed.ensures (c.has_room-room.ensures ∙ room_is c.self.inside 0) _ WasSynced (search rules) refl
    (ap (events_on [] c.self.inside.written.items) c.push_reserved.ensures.items ∙ events_sync c.self.inside.written.items c.self.inside.calls.items (not c.next_fails-listed.result)) (omega arith) c.push_reserved.ensures.capacity refl (c.count.ensures ∙ ap (λ (f : Bool). called f c.self.inside.count) c.fails.ensures)
    ∙ ap after_disk_sync c.self.view_is

pub invariant_of-self-2 : goal.invariant_of-self-2
invariant_of-self-2 c =
    kept_sync c.self.inside _ _ _ _ (not c.next_fails-listed.result) (ap not c.if-listed.false) c.self.invariant (c.copy_from_slice.ensures.items ∙ c.deref.ensures.value)
    c.push_reserved.ensures.items c.push_reserved.ensures.capacity c.clear.ensures.items c.clear.ensures.capacity

pub returns-clause-answer : goal.returns-clause-answer
returns-clause-answer c =
    answer_done (disk_state c.self.inside) 0 _ _ c.next_fails-listed.ensures (c.has_room-room.ensures ∙ room_is c.self.inside 0) (search rules) c.if-listed.false ∙ ap (disk_answer 0) c.self.view_is

pub returns-clause-after : goal.returns-clause-after
returns-clause-after c =
    after_recorded (disk_state c.self.inside) 0 _ _ c.next_fails-listed.ensures (c.has_room-room.ensures ∙ room_is c.self.inside 0) _ WasSynced (search rules) refl
    (ap (events_on [] c.self.inside.written.items) c.push_reserved.ensures.items ∙ events_sync c.self.inside.written.items c.self.inside.calls.items (not c.next_fails-listed.result)) (omega arith) c.push_reserved.ensures.capacity refl (c.count.ensures ∙ ap (λ (f : Bool). called f c.self.inside.count) c.fails.ensures)
    ∙ ap after_disk_sync c.self.view_is
