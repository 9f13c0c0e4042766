use Rattle.std.proofs.Common.{◌≡◌, IfSome}
use Rattle.panel_session.specs.NamePagesInside.{AddsNames, HasRoomFor, numbers_left}
use Rattle.panel_session.proofs.sending.outgoing.Outgoing.add_part.Given as goal

-- Of the pages from the first on some were added, and for those that are left there is room.
abbrev pub invariant-loop-left : goal.invariant-loop-left
invariant-loop-left l = record {
  adds : AddsNames l.names l.page l.fn.self.output l.left l.self.output;
  room : IfSome l.left (λ next. HasRoomFor l.page.first next l.self.output);
  same : l.self.room ≡ l.fn.self.room;
}

-- The numbers that are left for a page to begin at.
abbrev pub decreases-loop-left : goal.decreases-loop-left
decreases-loop-left l = numbers_left l.left
