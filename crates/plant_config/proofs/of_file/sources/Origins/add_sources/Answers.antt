use Rattle.std.proofs.Common.{◌<◌, [], ◌∷◌, ◌++◌, length, get_or, take, ap, sym, subst, ◌∙◌, append_assoc}
use Rattle.plant_config.specs.OfFileInside.{sources_from, with_origin, origin_in}
use Rattle.plant_config.proofs.OfFileLemmas.{sources_from-more}
use Rattle.plant_config.proofs.of_file.sources.Origins.add_sources.Goals as goal

pub loop-number-preserved : goal.loop-number-preserved
loop-number-preserved c =
    let levels = c.args.self.now.levels.now in
    let file = c.args.self.now.file.now in
    let level = c.args.level.now in
    let at = c.loop-number.number in
    let name = c.name-item.result in
    let old = c.args.made.now.items in
    let before = sources_from levels file level (take at level.source_names) in
    let shows = c.source_names-name-items.ensures in
    let low : at < length level.source_names = subst (λ names. at < length names) shows c.loop-number-test.true in
    let same = c.name-item.is ∙ ap (λ names. get_or names at name) shows in
    c.in_ok-push.ensures.items ∙ ap (λ front. front ++ with_origin name c.origin-origin.result ∷ []) c.loop-number.invariant
    ∙ append_assoc old before (with_origin name c.origin-origin.result ∷ [])
    ∙ ap (λ origin. old ++ (before ++ with_origin name origin ∷ [])) c.origin-origin.ensures
    ∙ ap (λ item. old ++ (before ++ with_origin item (origin_in levels file level at) ∷ [])) same
    ∙ ap (λ made. old ++ made) (sym (sources_from-more levels file level level.source_names at name low))
