use Rattle.std.proofs.Common.{refl, subst, arith}
use Rattle.std.specs.Prelude.{All}
use Rattle.std.specs.String.{string_bytes}
use Rattle.std.proofs.lemmas.Bool.{false≢true}
use Rattle.std.proofs.lemmas.List.{take_all}
use Rattle.std.proofs.lemmas.List.Elements.{All-map}
use Rattle.command_words.specs.Words.{IsFileName}
use Rattle.command_words.proofs.NamesLemmas.{NamesOne, not_all, all_more}
use Rattle.command_words.proofs.names.are_names.Goals as goal

pub returns-then-not-is_name : goal.returns-then-not-is_name
returns-then-not-is_name c = (
  λ is. absurd (false≢true is),
  λ all. absurd
      (not_all c.args.words.now c.loop-word.word-index c.word-item.result c.as_str.result.now c.is_name.result c.loop-word-test.true c.word-item.is c.as_str.ensures.value
      c.is_name.ensures.1 c.if-not-is_name.true all),
)

pub loop-word-preserved : goal.loop-word-preserved
loop-word-preserved c =
    all_more c.args.words.now c.loop-word.word-index c.word-item.result c.as_str.result.now c.is_name.result c.loop-word-test.true c.word-item.is c.as_str.ensures.value
    c.is_name.ensures.0 c.if-not-is_name.false c.loop-word.invariant

pub returns : goal.returns
returns c = (
  λ is. All-map IsFileName string_bytes c.args.words.now
      (subst (All NamesOne) (take_all c.loop-word.word-index c.args.words.now (omega (arith, c.loop-word-test.false))) c.loop-word.invariant),
  λ all. refl,
)
