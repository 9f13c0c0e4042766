use Rattle.std.proofs.Common.{◌≤◌, List, Option, IfSome, sym, subst}
use Rattle.ctl_io.specs.Crash.{Follows}
use Rattle.ctl_io.specs.Disk.{Torn, ShowsTorn}
use Rattle.ctl_io.proofs.DiskLemmas.{started, goes_on}
use Rattle.state_store.specs.Slots.{store_size}
use Rattle.state_store.specs.Steps.{ShowsStep, TearsGates, IsTornFrom, IsAtStart}
use Rattle.state_store.specs.declared.slot.Slot.TheVariants.{First, Second}
use Rattle.state_store.proofs.StepLemmas.{shows_gate}
use Rattle.state_store.proofs.FormatLemmas.{starts, tears_gates, torn_not, torn_once, torn_twice}
use Rattle.state_store.proofs.formatting.format.Goals as goal

pub returns-in-Done-clause-start : goal.returns-in-Done-clause-start
returns-in-Done-clause-start g c = λ done.
    let n = c.args.entry_len in
    let old = c.args.disk.now in
    let mid = c.write.new.self in
    let new = c.write-2.new.self in
    let first = shows_gate n First c.gate.result 0 (g.D.Disk.size old) (g.D.Disk.contents old) (g.D.Disk.contents mid) c.gate.ensures (g.met.D.Disk.as_many old) c.requires.within (c.write.ensures.written c.in_default.is) in
    let within = subst (λ s. store_size n ≤ s) (sym c.write.ensures.size) c.requires.within in
    let second = shows_gate n Second c.gate-2.result 0 (g.D.Disk.size mid) (g.D.Disk.contents mid) (g.D.Disk.contents new) c.gate-2.ensures (g.met.D.Disk.as_many mid) within (c.write-2.ensures.written c.in-Done.is) in
    subst (λ (shown : Option (List _)). IfSome shown (IsAtStart n)) (sym c.sync.ensures.contents) (starts n (g.D.Disk.contents old) (g.D.Disk.contents mid) (g.D.Disk.contents new) first second)

pub returns-in-Done-clause-others : goal.returns-in-Done-clause-others
returns-in-Done-clause-others g c = λ done.
    let n = c.args.entry_len in
    let old = g.D.Disk.contents c.args.disk.now in
    let mid = g.D.Disk.contents c.write.new.self in
    let new = g.D.Disk.contents c.write-2.new.self in
    let first = subst (λ at. ShowsTorn at 1 old mid) c.gate.ensures c.write.ensures.others in
    let second = subst (λ at. ShowsTorn at 1 mid new) c.gate-2.ensures c.write-2.ensures.others in
    subst (λ (shown : Option (List _)). ShowsStep (TearsGates n) old shown) (sym c.sync.ensures.contents) (tears_gates n old mid new first second)

pub returns-in-Failed-clause-any_moment : goal.returns-in-Failed-clause-any_moment
returns-in-Failed-clause-any_moment g c =
    let n = c.args.entry_len in
    let disk = c.args.disk.now in
    let left = g.D.Disk.may_leave in
    let P = IsTornFrom n (left disk) in
    let first = subst (λ at. Follows (Torn at 1) (left disk) (left c.write.new.self)) c.gate.ensures c.write.ensures.crash in
    goes_on g.D.Disk.moment g.D.Disk.left_since disk disk c.write.new.self P (left c.write.new.self)
    (started g.D.Disk.moment g.D.Disk.left_since disk P (λ f since. torn_not n (left disk) f (g.met.D.Disk.only_now disk f since)))
    c.write.ensures.time (torn_once n (left disk) (left c.write.new.self) first)

pub returns-in-Failed-write-clause-any_moment : goal.returns-in-Failed-write-clause-any_moment
returns-in-Failed-write-clause-any_moment g c =
    let n = c.args.entry_len in
    let disk = c.args.disk.now in
    let left = g.D.Disk.may_leave in
    let P = IsTornFrom n (left disk) in
    let first = subst (λ at. Follows (Torn at 1) (left disk) (left c.write.new.self)) c.gate.ensures c.write.ensures.crash in
    let second = subst (λ at. Follows (Torn at 1) (left c.write.new.self) (left c.write-2.new.self)) c.gate-2.ensures c.write-2.ensures.crash in
    let one = goes_on g.D.Disk.moment g.D.Disk.left_since disk disk c.write.new.self P (left c.write.new.self)
    (started g.D.Disk.moment g.D.Disk.left_since disk P (λ f since. torn_not n (left disk) f (g.met.D.Disk.only_now disk f since)))
    c.write.ensures.time (torn_once n (left disk) (left c.write.new.self) first) in
    goes_on g.D.Disk.moment g.D.Disk.left_since disk c.write.new.self c.write-2.new.self P (left c.write-2.new.self) one c.write-2.ensures.time
    (torn_twice n (left disk) (left c.write.new.self) (left c.write-2.new.self) first second)

pub returns-in-Done-clause-any_moment : goal.returns-in-Done-clause-any_moment
returns-in-Done-clause-any_moment g c =
    let n = c.args.entry_len in
    let disk = c.args.disk.now in
    let left = g.D.Disk.may_leave in
    let P = IsTornFrom n (left disk) in
    let first = subst (λ at. Follows (Torn at 1) (left disk) (left c.write.new.self)) c.gate.ensures c.write.ensures.crash in
    let second = subst (λ at. Follows (Torn at 1) (left c.write.new.self) (left c.write-2.new.self)) c.gate-2.ensures c.write-2.ensures.crash in
    let one = goes_on g.D.Disk.moment g.D.Disk.left_since disk disk c.write.new.self P (left c.write.new.self)
    (started g.D.Disk.moment g.D.Disk.left_since disk P (λ f since. torn_not n (left disk) f (g.met.D.Disk.only_now disk f since)))
    c.write.ensures.time (torn_once n (left disk) (left c.write.new.self) first) in
    let both = goes_on g.D.Disk.moment g.D.Disk.left_since disk c.write.new.self c.write-2.new.self P (left c.write-2.new.self) one c.write-2.ensures.time
    (torn_twice n (left disk) (left c.write.new.self) (left c.write-2.new.self) first second) in
    goes_on g.D.Disk.moment g.D.Disk.left_since disk c.write-2.new.self c.sync.new.self P (left c.sync.new.self) both c.sync.ensures.time
    (λ f now. torn_twice n (left disk) (left c.write.new.self) (left c.write-2.new.self) first second f (c.sync.ensures.crash f now))
