use Rattle.std.proofs.Common.{arith}
use Rattle.command_words.specs.Words.{texts}
use Rattle.command_drive.proofs.AskedLemmas.{two_texts, say_two, ask_for}
use Rattle.command_drive.proofs.asked.asked_by.Goals as goal

pub returns-clause-drive : goal.returns-clause-drive
returns-clause-drive c =
    let words = c.args.words.now in
    let form =
    two_texts words c.number-item.result c.wants-item.result c.as_str.result.now c.as_str-2.result.now c.in-len2.len_at_least c.in-len2.len_below c.number-item.is c.wants-item.is
    c.as_str.ensures.value c.as_str-2.ensures.value in
    ask_for (texts words) c.as_str.result.now c.as_str-2.result.now _ form c.said_number.ensures c.said_number-2.ensures

pub returns-clause-number : goal.returns-clause-number
returns-clause-number c =
    let words = c.args.words.now in
    let form =
    two_texts words c.number-item.result c.wants-item.result c.as_str.result.now c.as_str-2.result.now c.in-len2.len_at_least c.in-len2.len_below c.number-item.is c.wants-item.is
    c.as_str.ensures.value c.as_str-2.ensures.value in
    let it = say_two (texts words) c.as_str.result.now c.as_str-2.result.now form c.requires in
    omega (arith, c.said_number.ensures 0 4294967295 it.number it.says_number, it.says_number.not_more)

pub returns-clause-wants : goal.returns-clause-wants
returns-clause-wants c =
    let words = c.args.words.now in
    let form =
    two_texts words c.number-item.result c.wants-item.result c.as_str.result.now c.as_str-2.result.now c.in-len2.len_at_least c.in-len2.len_below c.number-item.is c.wants-item.is
    c.as_str.ensures.value c.as_str-2.ensures.value in
    let it = say_two (texts words) c.as_str.result.now c.as_str-2.result.now form c.requires in
    omega (arith, c.said_number-2.ensures 1 100000 it.wants it.says_wants, it.says_wants.not_more)
