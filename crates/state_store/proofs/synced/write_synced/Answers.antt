use Rattle.std.proofs.Common.{length}
use Rattle.state_store.proofs.Moments.{wrote, synced}
use Rattle.state_store.proofs.synced.write_synced.Goals as goal

pub returns-in-Failed-clause-any_moment : goal.returns-in-Failed-clause-any_moment
returns-in-Failed-clause-any_moment g c =
    let d = g.D.Disk in
    wrote d.moment d.left_since c.args.at (length c.args.bytes.now) c.args.disk.now c.write.new.self (d.contents c.args.disk.now) (d.may_leave c.args.disk.now) (d.may_leave c.write.new.self)
    c.requires.lasts (g.met.D.Disk.only_now c.args.disk.now) c.write.ensures.crash c.write.ensures.time

pub returns-in-Done-clause-any_moment : goal.returns-in-Done-clause-any_moment
returns-in-Done-clause-any_moment g c =
    let d = g.D.Disk in
    let disk = c.args.disk.now in
    let mid = c.write.new.self in
    let first = wrote d.moment d.left_since c.args.at (length c.args.bytes.now) disk mid (d.contents disk) (d.may_leave disk) (d.may_leave mid)
    c.requires.lasts (g.met.D.Disk.only_now disk) c.write.ensures.crash c.write.ensures.time in
    synced d.moment d.left_since c.args.at (length c.args.bytes.now) disk mid c.sync.new.self (d.contents disk) (d.may_leave disk) (d.may_leave mid) (d.may_leave c.sync.new.self)
    c.requires.lasts c.write.ensures.crash c.sync.ensures.crash first c.sync.ensures.time
