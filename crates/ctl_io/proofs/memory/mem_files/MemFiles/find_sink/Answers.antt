use Rattle.std.proofs.Common.{Option, IfSome, rules, sym, subst}
use Rattle.ctl_io.specs.Memory.{IsNewSink}
use Rattle.ctl_io.specs.MemFiles.{AreNewSinks, sink_has}
use Rattle.ctl_io.specs.declared.memory.named_objects.NamedSink.{NamedSink}
use Rattle.ctl_io.proofs.MemFilesLemmas.{first_has, others_have}
use Rattle.ctl_io.proofs.memory.mem_files.MemFiles.find_sink.Goals as goal

pub invariant_of-self : goal.invariant_of-self
invariant_of-self c = record {
  new_sinks = subst AreNewSinks (sym c.take_first.ensures.rest) (others_have _ (sink_has c.args.name.now) c.self.inside.sinks.items c.self.invariant.new_sinks);
  new_sources = c.self.invariant.new_sources;
  sources = search rules;
  sinks = search rules;
  disks = search rules;
}

pub returns-in-Some-clause-new : goal.returns-in-Some-clause-new
returns-in-Some-clause-new c =
    let P : Option NamedSink → Type 0 = λ first. IfSome first (λ entry. IsNewSink entry.sink) in
    subst P (sym c.in-Some.ensures.found) (first_has _ (sink_has c.args.name.now) c.self.inside.sinks.items c.self.invariant.new_sinks)
