use Rattle.std.proofs.Common.{◌≡◌, ◌++◌, IfSome, List, ℕ}
use Rattle.std.specs.Bool.{OnFalse, OnTrue}
use Rattle.panel_session.specs.Engine.{FailsIn}
use Rattle.panel_session.specs.MovesInside.{IsReadOrLeft}
use Rattle.panel_session.specs.NamePagesInside.{IsNamePage, numbers_left}
use Rattle.panel_session.specs.NamesLeftInside.{left_at}
use Rattle.panel_session.specs.Session.{made_by}
use Rattle.panel_session.specs.WorkInside.{IsSpelled, left_bytes, spelled_all}
use Rattle.panel_session.proofs.session.Session.send_all.Given as goal

-- Some of the pages that were left were spelled, and with the others all are. They were given, or a front of them.
abbrev pub invariant-loop-self : goal.invariant-loop-self
invariant-loop-self g l = record {
  left : IsReadOrLeft l.self.phase;
  pages : IfSome (left_at l.self.phase) IsNamePage;
  spelled : IsSpelled l.fn.self (spelled_all l.self);
  same : g.O.Outlet.IsSame l.fn.out l.out;
  given : (added : List ℕ) × (left_bytes l.fn.self ≡ added ++ left_bytes l.self)
      × OnTrue l.whole (g.O.Outlet.Given l.fn.out (made_by l.fn.self ++ added) l.out)
      × OnFalse l.whole ((given : List ℕ) × FailsIn g.O.Outlet.Given g.O.Outlet.Failed (made_by l.fn.self ++ added) given l.fn.out l.out);
}

-- The numbers that are left for a page to begin at.
abbrev pub decreases-loop-self : goal.decreases-loop-self
decreases-loop-self g l = numbers_left (left_at l.self.phase)
