use Rattle.std.proofs.Common.{◌≡◌, length, sym, ◌∙◌}
use Rattle.state_store.proofs.ReadingLemmas.{none_read, entry_read}
use Rattle.state_store.proofs.reading.read_entry.Goals as goal

pub returns-in-None-clause-entry : goal.returns-in-None-clause-entry
returns-in-None-clause-entry g c = λ done.
    none_read (length c.args.entry.now) c.args.heads.now c.args.entry.now (g.D.Disk.contents c.args.disk.now) (sym c.standing.ensures ∙ c.in-None.is) c.requires.heads

pub returns-in-Some-clause-entry : goal.returns-in-Some-clause-entry
returns-in-Some-clause-entry g c = λ done.
    let long : length c.read.new.into ≡ length c.args.entry.now = c.read.auto.into in
    entry_read (length c.args.entry.now) c.args.heads.now c.in-Some.slot c.gate.result c.read.new.into (g.D.Disk.contents c.args.disk.now) (sym c.standing.ensures ∙ c.in-Some.is) c.gate.ensures long (c.read.ensures.bytes done) c.requires.heads
