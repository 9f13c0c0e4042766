use Rattle.std.proofs.Common.{refl, arith}
use Rattle.std.specs.String.{string_bytes}
use Rattle.command_words.specs.Words.{texts}
use Rattle.command_drill.proofs.AskedLemmas.{three_texts, say_three, ask_for}
use Rattle.command_drill.proofs.asked.asked.Goals as goal

pub overflow_cast-result : goal.overflow_cast-result
overflow_cast-result c =
    let words = c.args.words.now in
    let form =
    three_texts words c.number-item.result c.panels-item.result c.messages-item.result c.as_str.result.now c.as_str-2.result.now (string_bytes c.messages-item.result) c.in-len3.len_at_least c.in-len3.len_below
    c.number-item.is c.panels-item.is c.messages-item.is c.as_str.ensures.value c.as_str-2.ensures.value refl in
    let it = say_three (texts words) c.as_str.result.now c.as_str-2.result.now (string_bytes c.messages-item.result) form c.requires in
    omega (arith, c.said_number-2.ensures 1 16 it.panels it.says_panels, it.says_panels.not_more)

pub returns-clause-drill : goal.returns-clause-drill
returns-clause-drill c =
    let words = c.args.words.now in
    let form =
    three_texts words c.number-item.result c.panels-item.result c.messages-item.result c.as_str.result.now c.as_str-2.result.now c.as_str-3.result.now c.in-len3.len_at_least c.in-len3.len_below
    c.number-item.is c.panels-item.is c.messages-item.is c.as_str.ensures.value c.as_str-2.ensures.value c.as_str-3.ensures.value in
    ask_for (texts words) c.as_str.result.now c.as_str-2.result.now c.as_str-3.result.now _ _ _ form c.said_number.ensures c.said_number-2.ensures c.said_number-3.ensures

pub returns-clause-some : goal.returns-clause-some
returns-clause-some c =
    let words = c.args.words.now in
    let form =
    three_texts words c.number-item.result c.panels-item.result c.messages-item.result c.as_str.result.now c.as_str-2.result.now c.as_str-3.result.now c.in-len3.len_at_least c.in-len3.len_below
    c.number-item.is c.panels-item.is c.messages-item.is c.as_str.ensures.value c.as_str-2.ensures.value c.as_str-3.ensures.value in
    let it = say_three (texts words) c.as_str.result.now c.as_str-2.result.now c.as_str-3.result.now form c.requires in
    omega (arith, c.said_number-2.ensures 1 16 it.panels it.says_panels, it.says_panels.not_less)

pub returns-clause-few : goal.returns-clause-few
returns-clause-few c =
    let words = c.args.words.now in
    let form =
    three_texts words c.number-item.result c.panels-item.result c.messages-item.result c.as_str.result.now c.as_str-2.result.now c.as_str-3.result.now c.in-len3.len_at_least c.in-len3.len_below
    c.number-item.is c.panels-item.is c.messages-item.is c.as_str.ensures.value c.as_str-2.ensures.value c.as_str-3.ensures.value in
    let it = say_three (texts words) c.as_str.result.now c.as_str-2.result.now c.as_str-3.result.now form c.requires in
    omega (arith, c.said_number-2.ensures 1 16 it.panels it.says_panels, it.says_panels.not_more)

pub returns-clause-messages : goal.returns-clause-messages
returns-clause-messages c =
    let words = c.args.words.now in
    let form =
    three_texts words c.number-item.result c.panels-item.result c.messages-item.result c.as_str.result.now c.as_str-2.result.now c.as_str-3.result.now c.in-len3.len_at_least c.in-len3.len_below
    c.number-item.is c.panels-item.is c.messages-item.is c.as_str.ensures.value c.as_str-2.ensures.value c.as_str-3.ensures.value in
    let it = say_three (texts words) c.as_str.result.now c.as_str-2.result.now c.as_str-3.result.now form c.requires in
    omega (arith, c.said_number-3.ensures it.panels 200000 it.messages it.says_messages, it.says_messages.not_more)
