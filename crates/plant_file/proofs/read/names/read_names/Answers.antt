use Rattle.std.proofs.Common.{◌≡◌, ◌+◌, drop, [], ◌∷◌, ◌++◌, ℕ, List, Err, inl, ap, sym, ◌∙◌, rules, arith}
use Rattle.std.proofs.lemmas.Grind.{common_steps}
use Rattle.plant_file.proofs.ReadingInside.{entry_here}
use Rattle.plant_file.proofs.NamesAnswer.{texts-Ok, texts-Err, texts-none}
use Rattle.plant_file.proofs.read.names.read_names.Goals as goal

pub returns-in_err-text : goal.returns-in_err-text
returns-in_err-text c =
    let is : c.from_residual.result ≡ Err c.in_err-text.field-0.0 = search rules in
    let went = rw (entry_here c.args.items.now _ _ c.item-item.is c.loop-item-test.true) at c.loop-item.invariant in
    rw is (inl (sym (went ∙ texts-Err c.args.at c.loop-item.names.items c.item-item.result (drop (c.loop-item.item-index + 1) c.args.items.now) _ c.in_err-text.ensures.answer)))

pub loop-item-preserved : goal.loop-item-preserved
loop-item-preserved c =
    let names = c.loop-item.names.items in
    let went = rw (entry_here c.args.items.now _ _ c.item-item.is c.loop-item-test.true) at c.loop-item.invariant in
    let items : c.push.new.self.items ≡ names ++ c.in_ok-text.text.now ∷ [] =
    c.in_ok-push.ensures.items ∙ ap (λ (name : List ℕ). names ++ name ∷ []) (c.of.ensures ∙ c.as_bytes.ensures.value) in
    rw items (went ∙ texts-Ok c.args.at names c.item-item.result (drop (c.loop-item.item-index + 1) c.args.items.now) _ c.in_ok-text.ensures.answer)

pub returns : goal.returns
returns c =
    let none : drop c.loop-item.item-index c.args.items.now ≡ [] = grind (arith, common_steps) in
    inl (sym (rw none at c.loop-item.invariant ∙ texts-none c.args.at c.loop-item.names.items))
