use Rattle.std.proofs.Common.{◌≡◌, ◌∙◌, ap, true, Some, option_map}
use Rattle.std.proofs.lemmas.Bool.{and_parts}
use Rattle.std.proofs.lemmas.Result.{IfErr-weaker, IfOk-weaker, MatchResult-from_both}
use Rattle.clap.specs.Words.{App, app_of, kind_of, subcommand_name_of, subcommand_of, takes}
use Rattle.clap.specs.declared.error.kind.ErrorKind.TheVariants.{OutOfMemory}
use Rattle.command_words.specs.Words.{texts}
use Rattle.command_words.proofs.ClapFormLemmas.{name_found}
use Rattle.command_words.proofs.clap_forms.parse.Goals as goal

pub returns : goal.returns
returns g c =
    let words = texts c.args.words.now in
    let told = c.in_ok-program.ensures.0 in
    let found = c.try_get_matches_from in
    λ one.
    let taken : takes (app_of c.in_ok-program.program) words ≡ true = ap (λ (app : App). takes app words) told ∙ c.requires.taken words one in
    MatchResult-from_both found.result (λ m. subcommand_name_of m ≡ Some one.line.name) (λ e. kind_of e ≡ OutOfMemory)
    (IfOk-weaker found.result _ _ (λ m h. name_found m ∙ ap (option_map (λ p. p.0)) ((h (and_parts _ _ taken).0).1 ∙ ap (λ (app : App). subcommand_of app words) told) ∙ c.requires.entered words one) found.ensures.matches)
    (IfErr-weaker found.result _ _ (λ e h. h taken) found.ensures.passes)
