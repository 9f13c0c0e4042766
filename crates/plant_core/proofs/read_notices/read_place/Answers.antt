use Rattle.std.proofs.Common.{ℕ, ◌+◌, ◌*◌, ap, ◌∙◌}
use Rattle.plant_core.specs.StateFields.{place_of_panel}
use Rattle.plant_core.proofs.PlaceLemmas.{none_still, place_read, boards_read}
use Rattle.plant_core.proofs.read_notices.read_place.Goals as goal

pub put_word-requires-2-clause-none : goal.put_word-requires-2-clause-none
put_word-requires-2-clause-none c =
    none_still c.args.plant.now c.args.bytes.now c.args.panel c.args.place c.word_in-source.result c.args.notices.now c.put_word.new.self c.requires.read c.put_word.ensures

pub returns-clause-read : goal.returns-clause-read
returns-clause-read c =
    let at = c.place_of_panel.ensures.place ∙ ap (place_of_panel c.args.plant.now) c.get.ensures in
    place_read c.args.plant.now c.args.bytes.now c.args.panel c.args.place _ c.word_in-source.result c.word_in-protect.result c.args.notices.now c.put_word.new.self c.put_word-2.new.self
    c.requires.whole c.requires.panel c.requires.place (ap (λ (from : ℕ). from + 1 + 64 * c.args.place) at) c.word_in-source.ensures c.word_in-protect.ensures c.put_word.ensures c.put_word-2.ensures c.requires.read

pub returns-clause-boards : goal.returns-clause-boards
returns-clause-boards c =
    boards_read c.args.plant.now c.args.bytes.now c.args.panel (64 * c.args.place + 64) c.args.notices.now c.put_word-2.new.self c.requires.place
    (c.put_word-2.ensures.count ∙ c.put_word.ensures.count) (λ p other. c.put_word-2.ensures.panels p other ∙ c.put_word.ensures.panels p other)
    (returns-clause-read c) c.requires.boards
