use Rattle.std.proofs.Common.{IfSome, Option, ◌∙◌, subst, arith}
use Rattle.panel_session.specs.declared.sending.name_page.NamePage.{NamePage}
use Rattle.panel_session.specs.NamePagesInside.{AddsNames, GoesOnWith, HasRoomFor}
use Rattle.panel_session.proofs.NamesAddedLemmas.{adds_on, fewer_left, first_room, next_room, part_room}
use Rattle.panel_session.proofs.sending.outgoing.Outgoing.add_part.Goals as goal

pub loop-left-init : goal.loop-left-init
loop-left-init c = record {
  adds = c.add_names-left.ensures.adds;
  room = first_room c.args.names.now c.args.page c.add_names-left.result c.args.self.now.output c.add_names-left.new.self.output c.requires.front c.add_names-left.ensures.most c.add_names-left.ensures.adds.next;
  same = c.add_names-left.ensures.room;
}

pub overflow_sub-next : goal.overflow_sub-next
overflow_sub-next c =
    let Goes : Option NamePage → Type 0 = λ left. IfSome left (GoesOnWith c.args.names.now c.args.page) in
    let goes = subst Goes c.in-Some.is c.loop-left.invariant.adds.next in omega (arith, goes.behind)

pub returns-then-next-page-ge-NAMES_AT_ONCE-clause-far : goal.returns-then-next-page-ge-NAMES_AT_ONCE-clause-far
returns-then-next-page-ge-NAMES_AT_ONCE-clause-far c =
    let Goes : Option NamePage → Type 0 = λ left. IfSome left (GoesOnWith c.args.names.now c.args.page) in
    let goes = subst Goes c.in-Some.is c.loop-left.invariant.adds.next in
    (omega (arith, goes.behind), goes.is_page.first)

pub add_names-left-requires-in-Some-clause-size : goal.add_names-left-requires-in-Some-clause-size
add_names-left-requires-in-Some-clause-size c =
    let Goes : Option NamePage → Type 0 = λ left. IfSome left (GoesOnWith c.args.names.now c.args.page) in
    let goes = subst Goes c.in-Some.is c.loop-left.invariant.adds.next in goes.is_page.size

pub add_names-left-requires-in-Some-clause-room : goal.add_names-left-requires-in-Some-clause-room
add_names-left-requires-in-Some-clause-room c =
    let Goes : Option NamePage → Type 0 = λ left. IfSome left (GoesOnWith c.args.names.now c.args.page) in
    let goes = subst Goes c.in-Some.is c.loop-left.invariant.adds.next in
    let Room : Option NamePage → Type 0 = λ left. IfSome left (λ next. HasRoomFor c.args.page.first next c.loop-left.self.output) in
    let room = subst Room c.in-Some.is c.loop-left.invariant.room in
    part_room c.args.names.now c.in-Some.next c.args.page.first c.loop-left.self.output c.loop-left.self.room goes.there (omega arith) (omega (arith, goes.behind)) room (omega (arith, c.requires.names, c.loop-left.invariant.same))

pub loop-left-preserved : goal.loop-left-preserved
loop-left-preserved c =
    let Adds : Option NamePage → Type 0 = λ left. AddsNames c.args.names.now c.args.page c.args.self.now.output left c.loop-left.self.output in
    let Room : Option NamePage → Type 0 = λ left. IfSome left (λ next. HasRoomFor c.args.page.first next c.loop-left.self.output) in
    let adds = c.add_names-left-in-Some.ensures.adds in
    record {
      adds = adds_on c.args.names.now c.args.page c.in-Some.next c.args.self.now.output c.loop-left.self.output c.add_names-left-in-Some.new.self.output c.add_names-left-in-Some.result (subst Adds c.in-Some.is c.loop-left.invariant.adds) adds;
      room = next_room c.args.names.now c.in-Some.next c.add_names-left-in-Some.result c.args.page.first c.loop-left.self.output c.add_names-left-in-Some.new.self.output (subst Room c.in-Some.is c.loop-left.invariant.room) c.add_names-left-in-Some.ensures.most adds.next;
      same = c.add_names-left-in-Some.ensures.room ∙ c.loop-left.invariant.same;
    }

pub loop-left-smaller : goal.loop-left-smaller
loop-left-smaller c =
    let Goes : Option NamePage → Type 0 = λ left. IfSome left (GoesOnWith c.args.names.now c.args.page) in
    let goes = subst Goes c.in-Some.is c.loop-left.invariant.adds.next in
    fewer_left c.args.names.now c.in-Some.next c.loop-left.left c.add_names-left-in-Some.result c.in-Some.is goes.is_page.first c.add_names-left-in-Some.ensures.adds.next

pub returns-clause-adds : goal.returns-clause-adds
returns-clause-adds c =
    let Adds : Option NamePage → Type 0 = λ left. AddsNames c.args.names.now c.args.page c.args.self.now.output left c.loop-left.self.output in
    subst Adds c.in_default.is c.loop-left.invariant.adds
