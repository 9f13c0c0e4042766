use Rattle.std.proofs.Common.{refl}
use Rattle.command_drive.specs.declared.bench.Bench.{Bench}
use Rattle.command_drive.proofs.BenchLemmas.{turn_hears, turn_takes, turn_waits, asks_taken, less_shown}
use Rattle.command_drive.proofs.bench.Bench.turn.Goals as goal

pub made-requires-clause-asks : goal.made-requires-clause-asks
made-requires-clause-asks c = asks_taken c.args.self.now c.in-Some-take.message c.requires.stands c.in-Some-take.ensures.taken

pub returns-in-Some-clause-turn : goal.returns-in-Some-clause-turn
returns-in-Some-clause-turn c = λ drive is regular.
    let old = c.args.self.now in
    let mid : Bench = record { to_frame = old.to_frame; to_driver = c.take.new.self; driver = old.driver; frame = old.frame } in
    turn_hears old mid c.come.new.self drive c.in-Some.message is c.in-Some.ensures.taken refl refl refl c.take.ensures.empty c.come.ensures.comes

pub returns-in-Some-clause-less : goal.returns-in-Some-clause-less
returns-in-Some-clause-less c =
    let old = c.args.self.now in
    let mid : Bench = record { to_frame = old.to_frame; to_driver = c.take.new.self; driver = old.driver; frame = old.frame } in
    let stands = c.requires.stands in
    less_shown old c.come.new.self stands.drive stands.shows
    (turn_hears old mid c.come.new.self stands.drive c.in-Some.message stands.shows c.in-Some.ensures.taken refl refl refl c.take.ensures.empty c.come.ensures.comes)
    (c.requires.going stands.drive stands.shows)

pub returns-in-Some-take-clause-turn : goal.returns-in-Some-take-clause-turn
returns-in-Some-take-clause-turn c = λ drive is regular.
    let old = c.args.self.now in
    let mid : Bench = record { to_frame = c.take-in_default.new.self; to_driver = c.take.new.self; driver = old.driver; frame = old.frame } in
    turn_takes old mid c.made.new.self drive c.in-Some-take.message is c.in_default.ensures.taken c.in-Some-take.ensures.taken refl refl c.take.ensures.empty c.take-in_default.ensures.empty c.made.ensures.takes

pub returns-in-Some-take-clause-less : goal.returns-in-Some-take-clause-less
returns-in-Some-take-clause-less c =
    let old = c.args.self.now in
    let mid : Bench = record { to_frame = c.take-in_default.new.self; to_driver = c.take.new.self; driver = old.driver; frame = old.frame } in
    let stands = c.requires.stands in
    less_shown old c.made.new.self stands.drive stands.shows
    (turn_takes old mid c.made.new.self stands.drive c.in-Some-take.message stands.shows c.in_default.ensures.taken c.in-Some-take.ensures.taken refl refl c.take.ensures.empty c.take-in_default.ensures.empty
    c.made.ensures.takes)
    (c.requires.going stands.drive stands.shows)

pub returns-in_default-take-clause-turn : goal.returns-in_default-take-clause-turn
returns-in_default-take-clause-turn c = λ drive is regular.
    let old = c.args.self.now in
    let mid : Bench = record { to_frame = c.take-in_default.new.self; to_driver = c.take.new.self; driver = old.driver; frame = old.frame } in
    turn_waits old mid c.come-in_default-take.new.self drive is c.in_default.ensures.taken c.in_default-take.ensures.taken refl refl c.take.ensures.empty c.take-in_default.ensures.empty c.come-in_default-take.ensures.comes

pub returns-in_default-take-clause-less : goal.returns-in_default-take-clause-less
returns-in_default-take-clause-less c =
    let old = c.args.self.now in
    let mid : Bench = record { to_frame = c.take-in_default.new.self; to_driver = c.take.new.self; driver = old.driver; frame = old.frame } in
    let stands = c.requires.stands in
    less_shown old c.come-in_default-take.new.self stands.drive stands.shows
    (turn_waits old mid c.come-in_default-take.new.self stands.drive stands.shows c.in_default.ensures.taken c.in_default-take.ensures.taken refl refl c.take.ensures.empty c.take-in_default.ensures.empty
    c.come-in_default-take.ensures.comes)
    (c.requires.going stands.drive stands.shows)
