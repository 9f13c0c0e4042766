use Rattle.std.proofs.Common.{◌≡◌, ◌+◌, ◌≤◌, Bool, not, [], length, drop, ap, ◌∙◌, refl, rules, arith, length-append}
use Rattle.std.proofs.lemmas.List.{take_at}
use Rattle.ctl_io.specs.Calls.{called}
use Rattle.ctl_io.specs.Disk.{overlaid}
use Rattle.ctl_io.specs.DiskPast.{DiskWrite, WasWritten}
use Rattle.ctl_io.specs.MemDisk.{after_disk_write, disk_answer}
use Rattle.ctl_io.specs.MemDiskInside.{disk_state, events_on}
use Rattle.ctl_io.specs.declared.memory.disk_call.WriteSpan.{WriteSpan}
use Rattle.ctl_io.proofs.MemDiskCalls.{room_is, answer_full, answer_done, after_full, after_recorded, kept_write, kept_failed}
use Rattle.ctl_io.proofs.MemDiskLemmas.{events_write}
use Rattle.ctl_io.proofs.memory.mem_disk.MemDisk.take.Goals as goal

pub returns-then-not-room-clause-answer : goal.returns-then-not-room-clause-answer
returns-then-not-room-clause-answer c =
    let n = length c.args.bytes.now in
    answer_full (disk_state c.self.inside) n _ _ c.next_fails-listed.ensures (c.has_room-room.ensures ∙ room_is c.self.inside n) (search rules) ∙ ap (disk_answer n) c.self.view_is

pub returns-then-not-room-clause-after : goal.returns-then-not-room-clause-after
returns-then-not-room-clause-after c =
    let n = length c.args.bytes.now in
    let write : DiskWrite = record { at = c.args.at; bytes = c.args.bytes.now } in
    after_full (disk_state c.self.inside) n _ _ c.next_fails-listed.ensures (c.has_room-room.ensures ∙ room_is c.self.inside n) _ (λ done. WasWritten done write) (search rules) refl
    (c.count.ensures ∙ ap (λ (f : Bool). called f c.self.inside.count) c.fails.ensures) ∙ ap (after_disk_write write) c.self.view_is

pub invariant_of-self-then-listed : goal.invariant_of-self-then-listed
invariant_of-self-then-listed c =
    let span : WriteSpan = record { at = c.args.at; from = c.len.result; len = length c.args.bytes.now } in
    let from : c.len.result ≡ length c.self.inside.written.items = search rules in
    let within : c.args.at + length c.args.bytes.now ≤ length c.self.inside.present.items = search rules in
    kept_failed c.self.inside _ _ _ _ span c.args.bytes.now (not c.next_fails-listed.result) (ap not c.if-listed.true) c.self.invariant from refl within
    c.append.ensures.bytes c.push_reserved-2.ensures.items c.push_reserved-2.ensures.capacity c.push_reserved.ensures.items c.push_reserved.ensures.capacity

pub returns-then-listed-clause-after : goal.returns-then-listed-clause-after
returns-then-listed-clause-after c =
    let n = length c.args.bytes.now in
    let w = c.self.inside.written.items in
    let write : DiskWrite = record { at = c.args.at; bytes = c.args.bytes.now } in
    let span : WriteSpan = record { at = c.args.at; from = c.len.result; len = n } in
    let from : c.len.result ≡ length w = search rules in
    let written = c.append.ensures.bytes in
    let calls = c.push_reserved-2.ensures.items in
    after_recorded (disk_state c.self.inside) n _ _ c.next_fails-listed.ensures (c.has_room-room.ensures ∙ room_is c.self.inside n) _ (λ done. WasWritten done write) (search rules) refl
    ((λ k. events_on [] (written k) (calls k)) ∙ events_write w c.args.bytes.now c.self.inside.calls.items span _ c.self.invariant.calls from refl)
    (ap length written ∙ length-append w c.args.bytes.now) c.push_reserved-2.ensures.capacity c.append.ensures.room (c.count.ensures ∙ ap (λ (f : Bool). called f c.self.inside.count) c.fails.ensures)
    ∙ ap (after_disk_write write) c.self.view_is

pub invariant_of-self-2 : goal.invariant_of-self-2
invariant_of-self-2 c =
    let span : WriteSpan = record { at = c.args.at; from = c.len.result; len = length c.args.bytes.now } in
    let from : c.len.result ≡ length c.self.inside.written.items = search rules in
    let within : c.args.at + length c.args.bytes.now ≤ length c.self.inside.present.items = search rules in
    let long : length c.overwrite.new.out ≡ c.self.inside.present.len = omega (arith, c.overwrite.auto.out, c.deref_mut.ensures.len) in
    let present = take_at c.overwrite.new.out (drop (length c.overwrite.new.out) c.self.inside.present.items) c.self.inside.present.len long
    ∙ c.overwrite.ensures ∙ ap (overlaid c.args.at c.args.bytes.now) c.deref_mut.ensures.value in
    kept_write c.self.inside _ _ _ _ _ span c.args.bytes.now (not c.next_fails-listed.result) (ap not c.if-listed.false) c.self.invariant from refl within
    present c.append.ensures.bytes c.push_reserved-2.ensures.items c.push_reserved-2.ensures.capacity c.push_reserved.ensures.items c.push_reserved.ensures.capacity

pub returns-clause-answer : goal.returns-clause-answer
returns-clause-answer c =
    let n = length c.args.bytes.now in
    answer_done (disk_state c.self.inside) n _ _ c.next_fails-listed.ensures (c.has_room-room.ensures ∙ room_is c.self.inside n) (search rules) c.if-listed.false ∙ ap (disk_answer n) c.self.view_is

pub returns-clause-after : goal.returns-clause-after
returns-clause-after c =
    let n = length c.args.bytes.now in
    let w = c.self.inside.written.items in
    let write : DiskWrite = record { at = c.args.at; bytes = c.args.bytes.now } in
    let span : WriteSpan = record { at = c.args.at; from = c.len.result; len = n } in
    let from : c.len.result ≡ length w = search rules in
    let written = c.append.ensures.bytes in
    let calls = c.push_reserved-2.ensures.items in
    after_recorded (disk_state c.self.inside) n _ _ c.next_fails-listed.ensures (c.has_room-room.ensures ∙ room_is c.self.inside n) _ (λ done. WasWritten done write) (search rules) refl
    ((λ k. events_on [] (written k) (calls k)) ∙ events_write w c.args.bytes.now c.self.inside.calls.items span _ c.self.invariant.calls from refl)
    (ap length written ∙ length-append w c.args.bytes.now) c.push_reserved-2.ensures.capacity c.append.ensures.room (c.count.ensures ∙ ap (λ (f : Bool). called f c.self.inside.count) c.fails.ensures)
    ∙ ap (after_disk_write write) c.self.view_is
