use Rattle.std.proofs.Common.{◌≡◌, ◌<◌, ◌∙◌, ℕ, List, map, length, drop, get_or, ap, subst, arith}
use Rattle.std.proofs.lemmas.Bool.{false≢true}
use Rattle.std.proofs.lemmas.List.{get_or-map, length-map}
use Rattle.std.specs.Prelude.{IsTrue, ◌↔◌}
use Rattle.std.specs.String.{string_bytes}
use Rattle.command_words.specs.declared.parts.Part.TheVariants.{Plant}
use Rattle.command_words.specs.ReadParts.{CanSayLast, last_as, part_as}
use Rattle.command_words.specs.Words.{texts}
use Rattle.command_words.proofs.NamesLemmas.{text-at}
use Rattle.command_words.proofs.PartsLemmas.{all_read, not_read, one_read, texts_behind, too_few}
use Rattle.command_words.proofs.parts.can_say.Goals as goal

pub returns-in_default : goal.returns-in_default
returns-in_default c = (
  λ is. absurd (false≢true is),
  λ can. absurd
      (too_few c.loop-index.before c.loop-index.index (map part_as c.args.parts.now) (last_as c.args.last) (texts c.args.words.now) c.loop-index.invariant
      (omega (arith, c.loop-index-test.true, length-map c.args.parts.now part_as)) (omega (arith, c.in_default.ensures.lookup.3, length-map c.args.words.now string_bytes)) can),
)

pub returns-in_default-say_part : goal.returns-in_default-say_part
returns-in_default-say_part c =
    let i = c.loop-index.index in
    let part = part_as (get_or c.args.parts.now i Plant) in
    let less : i < length (map part_as c.args.parts.now) = omega (arith, c.loop-index-test.true, length-map c.args.parts.now part_as) in
    let word = c.in-Some.ensures.lookup.3 in (
      λ is. absurd (false≢true is),
      λ can. absurd
          (not_read c.loop-index.before i (map part_as c.args.parts.now) (last_as c.args.last) (texts c.args.words.now) c.loop-index.invariant less part c.as_str.result.now
          (get_or-map part_as c.args.parts.now i Plant part (omega (arith, c.loop-index-test.true)))
          (text-at c.args.words.now i c.in-Some.word.now c.as_str.result.now word.0 (word.1 c.in-Some.word.now) c.as_str.ensures.value) c.in_default-say_part.ensures.only can),
    )

pub loop-index-preserved : goal.loop-index-preserved
loop-index-preserved c =
    let i = c.loop-index.index in
    let part = part_as (get_or c.args.parts.now i Plant) in
    let less : i < length (map part_as c.args.parts.now) = omega (arith, c.loop-index-test.true, length-map c.args.parts.now part_as) in
    let word = c.in-Some.ensures.lookup.3 in
    one_read c.loop-index.before i (map part_as c.args.parts.now) (last_as c.args.last) (texts c.args.words.now) c.loop-index.invariant less part c.as_str.result.now
    (get_or-map part_as c.args.parts.now i Plant part (omega (arith, c.loop-index-test.true)))
    (text-at c.args.words.now i c.in-Some.word.now c.as_str.result.now word.0 (word.1 c.in-Some.word.now) c.as_str.ensures.value) c.in-Some-say_part.number c.in-Some-say_part.ensures.found c.in-Some-say_part.ensures.only

pub returns : goal.returns
returns c =
    let words = c.args.words.now in
    let n = length c.args.parts.now in
    let index_is : n ≡ c.loop-index.index = omega (arith, c.loop-index-test.false, c.loop-index.auto.index-end) in
    all_read c.loop-index.before c.loop-index.index (map part_as c.args.parts.now) (last_as c.args.last) (texts words) c.can_say_last.result c.loop-index.invariant
    (omega (arith, c.loop-index-test.false, length-map c.args.parts.now part_as))
    (subst (λ (ws : List (List ℕ)). IsTrue c.can_say_last.result ↔ CanSayLast (last_as c.args.last) ws) (texts_behind words n ∙ ap (λ (i : ℕ). drop i (texts words)) index_is)
    c.can_say_last.ensures)
