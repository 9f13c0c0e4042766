use Rattle.std.proofs.Common.{length, ap, sym, ◌∙◌, arith}
use Rattle.std.proofs.lemmas.List.{length-take-le}
use Rattle.dle_framing.proofs.FrontLemmas.{front-push, front-full}
use Rattle.dle_framing.proofs.front.Front.push.Goals as goal

pub returns-then-self-lt-KEPT : goal.returns-then-self-lt-KEPT
returns-then-self-lt-KEPT c = front-push c.self.inside.bytes c.args.self.now c.self.inside.len c.args.byte c.self.view_is (omega arith) c.self.told

pub returns-else-self-lt-KEPT : goal.returns-else-self-lt-KEPT
returns-else-self-lt-KEPT c =
    front-full c.args.self.now _ (ap length (sym c.self.view_is) ∙ length-take-le c.self.inside.len c.self.inside.bytes (omega arith) ∙ omega arith)
