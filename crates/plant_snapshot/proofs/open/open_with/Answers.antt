use Rattle.std.proofs.Common.{rules, ◌≡◌, List, Option, Err, IfSome, length, sym, ◌∙◌, subst}
use Rattle.std.proofs.lemmas.List.{take_at}
use Rattle.std.specs.Vec.{with_items}
use Rattle.state_store.specs.Reading.{HasRead}
use Rattle.state_store.specs.declared.slot.Slot.{Slot}
use Rattle.plant_snapshot.specs.StandsFor.{entry_size}
use Rattle.plant_snapshot.specs.SavedInside.{SaysDamage}
use Rattle.plant_snapshot.specs.declared.store.Store.{Store}
use Rattle.plant_snapshot.specs.declared.saved.Unread.{Unread}
use Rattle.plant_snapshot.proofs.OpenLemmas.{stands_read, gives_back, none_stands}
use Rattle.plant_snapshot.proofs.open.open_with.Goals as goal

pub returns-in-Ok-read_saved-clause-stands : goal.returns-in-Ok-read_saved-clause-stands
returns-in-Ok-read_saved-clause-stands g c =
    let shown = g.D.Disk.contents c.args.disk in
    let n = length c.deref_mut.result.now in
    let long : n ≡ entry_size c.args.plant.now = search rules in
    let many : length c.open.new.entry ≡ c.args.entry.len = search rules in
    let same : c.deref.result.now ≡ c.open.new.entry = c.deref.ensures.value ∙ take_at c.open.new.entry _ c.args.entry.len many in
    let read = subst (λ (e : List _). IfSome shown (HasRead n c.standing.result e)) (sym same) (subst (λ (s : Option Slot). IfSome shown (HasRead n s c.open.new.entry)) (sym c.standing.ensures) c.in-Ok.ensures.entry) in
    stands_read c.args.plant.now c.in-Ok-read_saved.state _ n c.standing.result c.deref.result.now shown long read c.in-Ok.ensures.number c.in-Ok-read_saved.ensures.state

pub returns-in-Ok-read_saved-clause-same : goal.returns-in-Ok-read_saved-clause-same
returns-in-Ok-read_saved-clause-same g c =
    let shown = g.D.Disk.contents c.args.disk in
    let n = length c.deref_mut.result.now in
    let long : n ≡ entry_size c.args.plant.now = search rules in
    let many : length c.open.new.entry ≡ c.args.entry.len = search rules in
    let same : c.deref.result.now ≡ c.open.new.entry = c.deref.ensures.value ∙ take_at c.open.new.entry _ c.args.entry.len many in
    let read = subst (λ (e : List _). IfSome shown (HasRead n c.standing.result e)) (sym same) (subst (λ (s : Option Slot). IfSome shown (HasRead n s c.open.new.entry)) (sym c.standing.ensures) c.in-Ok.ensures.entry) in
    let store : Store g.row.D.Denot = record { slots = c.in-Ok.slots; entry = with_items c.args.entry c.open.new.entry } in
    gives_back {D = g.row.D.Denot} c.args.plant.now store c.in-Ok-read_saved.state shown
    (stands_read c.args.plant.now c.in-Ok-read_saved.state _ n c.standing.result c.deref.result.now shown long read c.in-Ok.ensures.number c.in-Ok-read_saved.ensures.state)

pub returns-clause-same : goal.returns-clause-same
returns-clause-same g c =
    let shown = g.D.Disk.contents c.args.disk in
    let n = length c.deref_mut.result.now in
    let long : n ≡ entry_size c.args.plant.now = search rules in
    let many : length c.open.new.entry ≡ c.args.entry.len = search rules in
    let same : c.deref.result.now ≡ c.open.new.entry = c.deref.ensures.value ∙ take_at c.open.new.entry _ c.args.entry.len many in
    let read = subst (λ (e : List _). IfSome shown (HasRead n c.standing.result e)) (sym same) (subst (λ (s : Option Slot). IfSome shown (HasRead n s c.open.new.entry)) (sym c.standing.ensures) c.in-Ok.ensures.entry) in
    let says = subst (λ (fault : Unread). SaysDamage c.args.plant.now c.standing.result c.deref.result.now (Err fault)) c.in-Err-Damaged.field-0-is c.in-Err-Damaged.ensures.damaged in
    none_stands c.args.plant.now c.into_disk-in-Err-Damaged.result c.in-Err-Damaged.slot c.in-Err-Damaged.place n c.standing.result c.deref.result.now shown long read says.1
