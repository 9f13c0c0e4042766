-- An acceptor in memory.
use Rattle.std.proofs.Common.{◌≡◌, ◌==◌, Bool, true, false, List, [], ◌∷◌, drop, slice_get, if◌then◌else◌, Option, Some, None, IfSome, refl, arith}
use Rattle.std.proofs.lemmas.Bool.{eqb-true, eqb-false}
use Rattle.ctl_io.specs.Calls.{next_fails}
use Rattle.ctl_net.specs.Acceptor.{IfOne, IsFresh, Uses, link_lent}
use Rattle.ctl_net.specs.MemLink.{LinkState, IsNewLink}
use Rattle.ctl_net.specs.MemAcceptor.{AcceptorState, AreNewLinks, lent_link, next_answer, after_next, end_of, links_of}
use Rattle.ctl_net.specs.declared.acceptor.Next.{Next}
use Rattle.ctl_net.specs.declared.acceptor.Next.TheVariants as next

-- the first link, and the others, are new as all are
pub first_new : (links : List LinkState) → AreNewLinks links → IfSome (slice_get links 0) IsNewLink
first_new [] new = tt
first_new (link ∷ links) new = new.0

pub others_new : (links : List LinkState) → AreNewLinks links → AreNewLinks (drop 1 links)
others_new [] new = tt
others_new (link ∷ links) new = new.1

-- a new link shows that nothing happened
is_fresh : (link : LinkState) → IsNewLink link → IsFresh (end_of link)
is_fresh link new = record {
  unwritten = new.unwritten.empty;
  no_faults = new.unwritten.no_faults;
  unread = record { reads = new.untold; faults = new.no_faults; idles = new.not_idle };
}

pub fresh_one : (answer : Next LinkState) → IfOne answer IsNewLink → IfOne answer (λ link. IsFresh (end_of link))
fresh_one (next.One link) new = is_fresh link new
fresh_one next.NoMore new = tt
fresh_one next.Failed new = tt

-- what an answer does to the custody and to the counts
pub lent_next : (answer : Next LinkState) (acceptor : AcceptorState) → links_of (after_next answer acceptor) ≡ link_lent answer (links_of acceptor)
lent_next (next.One link) acceptor = refl
lent_next next.NoMore acceptor = refl
lent_next next.Failed acceptor = refl

pub done_stays : (answer : Next LinkState) (acceptor : AcceptorState) → (after_next answer acceptor).done_faults ≡ acceptor.done_faults
done_stays (next.One link) acceptor = refl
done_stays next.NoMore acceptor = refl
done_stays next.Failed acceptor = refl

-- a link uses up a session
uses_by : (acceptor : AcceptorState) (fails none : Bool) (first : Option LinkState) → (acceptor.sessions == 0) ≡ none → Uses (if fails then next.Failed else (if none then next.NoMore else lent_link acceptor.objects first)) acceptor.sessions (after_next (if fails then next.Failed else (if none then next.NoMore else lent_link acceptor.objects first)) acceptor).sessions
uses_by acceptor true none first is = refl
uses_by acceptor false true first is = (eqb-true acceptor.sessions 0 is, eqb-true acceptor.sessions 0 is)
uses_by acceptor false false None is = refl
uses_by acceptor false false (Some link) is =
    elim (acceptor.objects == 0) as (λ few. Uses (if few then next.Failed else next.One link) acceptor.sessions (after_next (if few then next.Failed else next.One link) acceptor).sessions) [ true ↦ refl | false ↦ omega (arith, eqb-false acceptor.sessions 0 is) ]

pub uses_next : (acceptor : AcceptorState) → Uses (next_answer acceptor) acceptor.sessions (after_next (next_answer acceptor) acceptor).sessions
uses_next acceptor = uses_by acceptor (next_fails acceptor.calls) (acceptor.sessions == 0) (slice_get acceptor.waiting 0) refl
