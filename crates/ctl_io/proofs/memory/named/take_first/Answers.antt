use Rattle.std.proofs.Common.{◌≡◌, true, List, ◌++◌, take, find, sym, ap, ◌∙◌, arith}
use Rattle.std.specs.Str.{bytes_eq}
use Rattle.ctl_io.specs.Named.{without_first}
use Rattle.ctl_io.proofs.MemFilesLemmas.{same_read, found_at, rest_at}
use Rattle.ctl_io.proofs.memory.named.take_first.Goals as goal

-- the object that is taken out has the name
named : (g : _) (c : goal.After-remove g) → bytes_eq (g.T.Named.name_of c.remove.result) c.args.name.now ≡ true
named g c =
    ap (λ (e : _). bytes_eq (g.T.Named.name_of e) c.args.name.now) (same_read c.loop-i.entries.items c.loop-i.i c.remove.result c.index.result.now (omega arith) c.remove.ensures.value c.index.ensures)
    ∙ sym (ap (λ (bytes : List _). bytes_eq bytes c.args.name.now) c.name_of.ensures) ∙ sym c.eq.ensures ∙ c.if-eq.true

pub returns-then-eq-clause-found : goal.returns-then-eq-clause-found
returns-then-eq-clause-found g c =
    sym (found_at (λ entry. bytes_eq (g.T.Named.name_of entry) c.args.name.now) c.loop-i.entries.items c.loop-i.i c.remove.result (omega arith) c.remove.ensures.value (named g c))
    ∙ c.loop-i.invariant.found ∙ ap (find (λ entry. bytes_eq (g.T.Named.name_of entry) c.args.name.now)) c.loop-i.invariant.same

pub returns-then-eq-clause-rest : goal.returns-then-eq-clause-rest
returns-then-eq-clause-rest g c =
    c.remove.ensures.by_index.2
    ∙ ap (λ (xs : List _). take c.loop-i.i c.loop-i.entries.items ++ xs) (sym (rest_at (λ entry. bytes_eq (g.T.Named.name_of entry) c.args.name.now) c.loop-i.entries.items c.loop-i.i c.remove.result (omega arith) c.remove.ensures.value (named g c)))
    ∙ c.loop-i.invariant.rest ∙ ap (without_first (λ entry. bytes_eq (g.T.Named.name_of entry) c.args.name.now)) c.loop-i.invariant.same
