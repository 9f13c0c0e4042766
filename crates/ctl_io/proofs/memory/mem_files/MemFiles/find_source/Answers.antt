use Rattle.std.proofs.Common.{Option, IfSome, rules, sym, subst}
use Rattle.ctl_io.specs.Memory.{IsNewSource}
use Rattle.ctl_io.specs.MemFiles.{AreNewSources, source_has}
use Rattle.ctl_io.specs.declared.memory.named_objects.NamedSource.{NamedSource}
use Rattle.ctl_io.proofs.MemFilesLemmas.{first_has, others_have}
use Rattle.ctl_io.proofs.memory.mem_files.MemFiles.find_source.Goals as goal

pub invariant_of-self : goal.invariant_of-self
invariant_of-self c = record {
  new_sources = subst AreNewSources (sym c.take_first.ensures.rest) (others_have _ (source_has c.args.name.now) c.self.inside.waiting.items c.self.invariant.new_sources);
  new_sinks = c.self.invariant.new_sinks;
  sources = search rules;
  sinks = search rules;
  disks = search rules;
}

pub returns-in-Some-clause-new : goal.returns-in-Some-clause-new
returns-in-Some-clause-new c =
    let P : Option NamedSource → Type 0 = λ first. IfSome first (λ entry. IsNewSource entry.source) in
    subst P (sym c.in-Some.ensures.found) (first_has _ (source_has c.args.name.now) c.self.inside.waiting.items c.self.invariant.new_sources)
