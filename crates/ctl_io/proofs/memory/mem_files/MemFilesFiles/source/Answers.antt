use Rattle.std.proofs.Common.{sym, subst}
use Rattle.ctl_io.specs.Files.{IfFound}
use Rattle.ctl_io.specs.Held.{Stays, AfterFound}
use Rattle.ctl_io.specs.MemFiles.{FilesState, held_of}
use Rattle.ctl_io.specs.declared.files.Found.{Found}
use Rattle.ctl_io.specs.declared.memory.named_objects.NamedSource.{NamedSource}
use Rattle.ctl_io.proofs.MemFilesLemmas.{IsLent, if_found, found_is_lent, next_held, other_held}
use Rattle.ctl_io.proofs.memory.mem_files.MemFilesFiles.source.Goals as goal

lent : (c : goal.After-lend_source) → IfFound c.lend_source.result (IsLent c.args.self.now c.args.name.now)
lent c =
    let P : Found NamedSource → Type 0 = λ found. IfFound found (IsLent c.args.self.now c.args.name.now) in
    subst P (sym c.lend_source.ensures.answer) (found_is_lent c.args.self.now c.args.name.now)

pub returns-clause-left : goal.returns-clause-left
returns-clause-left c = if_found (IsLent c.args.self.now c.args.name.now) _ c.lend_source.result (lent c) (λ entry fact. fact.0)

pub returns-clause-named : goal.returns-clause-named
returns-clause-named c = if_found (IsLent c.args.self.now c.args.name.now) _ c.lend_source.result (lent c) (λ entry fact. fact.1)

pub returns-clause-next : goal.returns-clause-next
returns-clause-next c =
    let P : FilesState → Type 0 = λ files. AfterFound c.lend_source.result (held_of c.args.self.now c.args.name.now) (held_of files c.args.name.now) in
    subst P (sym c.lend_source.ensures.after) (next_held c.lend_source.result c.args.name.now c.args.self.now)

pub returns-clause-others : goal.returns-clause-others
returns-clause-others c = λ other apart.
    let P : FilesState → Type 0 = λ files. Stays (held_of c.args.self.now other) (held_of files other) in
    subst P (sym c.lend_source.ensures.after) (other_held c.lend_source.result c.args.name.now other c.args.self.now apart)
