use Rattle.std.proofs.Common.{◌≡◌, length, ap, sym, ◌∙◌, arith}
use Rattle.std.proofs.lemmas.List.{length-take-le}
use Rattle.dle_framing.proofs.FrontLemmas.{front-extend}
use Rattle.dle_framing.proofs.front.Front.extend.Goals as goal

pub returns : goal.returns
returns c =
    let count : length c.args.self.now ≡ c.self.inside.len = ap length (sym c.self.view_is) ∙ length-take-le c.self.inside.len c.self.inside.bytes (omega arith) in
    c.append.ensures ∙ front-extend c.args.self.now c.args.bytes.now _ (omega arith) (omega arith)
