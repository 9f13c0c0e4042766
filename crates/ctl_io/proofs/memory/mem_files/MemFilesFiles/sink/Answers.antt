use Rattle.std.proofs.Common.{Some, sym, subst}
use Rattle.ctl_io.specs.Files.{IfMade}
use Rattle.ctl_io.specs.Held.{IsNamed}
use Rattle.ctl_io.specs.declared.files.Made.{Made}
use Rattle.ctl_io.specs.declared.memory.named_objects.NamedSink.{NamedSink}
use Rattle.ctl_io.proofs.MemFilesLemmas.{made_is_named}
use Rattle.ctl_io.proofs.memory.mem_files.MemFilesFiles.sink.Goals as goal

pub returns-clause-named : goal.returns-clause-named
returns-clause-named c =
    let P : Made NamedSink → Type 0 = λ made. IfMade made (λ entry. IsNamed c.args.name.now (Some entry.name)) in
    subst P (sym c.lend_sink.ensures.answer) (made_is_named c.args.self.now c.args.name.now)
