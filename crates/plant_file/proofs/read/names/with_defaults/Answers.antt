use Rattle.std.proofs.Common.{◌≡◌, length, [], ◌∷◌, ◌++◌, ℕ, List, ap, sym, ◌∙◌, arith}
use Rattle.std.proofs.lemmas.List.{length_push}
use Rattle.plant_file.specs.Reading.{default_name}
use Rattle.plant_file.proofs.NamesAnswer.{names_of-more}
use Rattle.plant_file.proofs.read.names.with_defaults.Goals as goal

pub loop-number-preserved : goal.loop-number-preserved
loop-number-preserved c =
    let names = c.loop-number.names.items in
    let counted = c.loop-number.invariant.counted in
    let items : c.push.new.self.items ≡ names ++ default_name (c.args.letter ∷ []) (length names) ∷ [] =
    c.in_ok-push.ensures.items ∙ ap (λ (name : List ℕ). names ++ name ∷ []) (c.numbered.ensures ∙ ap (default_name (c.args.letter ∷ [])) (sym counted)) in
    record {
      counted = rw (items, length_push names (default_name (c.args.letter ∷ []) (length names))) (omega arith);
      same = rw items (names_of-more (c.args.letter ∷ []) c.args.count names (omega arith) ∙ c.loop-number.invariant.same);
    }
