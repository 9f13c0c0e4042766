use Rattle.std.proofs.Common.{◌∙◌, ap, sym, length, eqb-true}
use Rattle.std.proofs.lemmas.Bool.{eqb-false}
use Rattle.std.specs.Option.{option_map}
use Rattle.dle_framing.specs.Feeding.{shown}
use Rattle.command_drive.proofs.WayLemmas.{none_on, no_bytes, taken_on}
use Rattle.command_drive.proofs.way.Way.take.Goals as goal

pub returns-then-is_empty-clause-taken : goal.returns-then-is_empty-clause-taken
returns-then-is_empty-clause-taken c = λ every count messages is.
    let empty = eqb-true (length c.as_slice.result.now) 0 (sym c.is_empty.ensures ∙ c.if-is_empty.true) in
    sym (none_on c.args.self.now every count messages is (sym c.as_slice.ensures.value ∙ no_bytes c.as_slice.result.now empty))

pub returns-clause-taken : goal.returns-clause-taken
returns-clause-taken c =
    let some = eqb-false (length c.as_slice.result.now) 0 (sym c.is_empty.ensures ∙ c.if-is_empty.false) in
    taken_on c.args.self.now c.deref.result.now c.feed.result.0 (option_map shown c.feed.result.1) c.message_of-message.result c.deref.ensures.value c.feed.ensures.feeds (length c.as_slice.result.now) (ap length (sym c.as_slice.ensures.value)) some
    c.message_of-message.ensures
