-- What an acceptor in memory holds, and what it answers.
use Rattle.std.specs.Prelude.{◌≡◌, ℕ, ◌+◌, ◌-◌, ◌==◌, Bool, List, [], ◌∷◌, ◌++◌, length, map, drop, min, slice_get, Option, Some, None, if◌then◌else◌}
use Rattle.std.specs.List.{AllByRecursion}
use Rattle.ctl_io.specs.Calls.{Calls, next_fails, called, uncalled}
use Rattle.ctl_io.specs.Custody.{Custody}
use Rattle.ctl_io.specs.Faults.{count_after}
use Rattle.ctl_net.specs.Acceptor.{AcceptorData, LinkEnd, link_end, is_faulty_link, next_failed}
use Rattle.ctl_net.specs.MemLink.{LinkState, IsNewLink, read_half_of}
use Rattle.ctl_net.specs.declared.acceptor.Next.{Next}
use Rattle.ctl_net.specs.declared.acceptor.Next.TheVariants as next
use Rattle.ctl_net.specs.declared.opening.Opening.{Opening}

-- An acceptor in memory: the opening that made it, the links that weren't handed out yet, how many sessions are left, how many
-- links may still be handed out, how many are out, those that were given back, for how many it has taken the memory, the calls
-- for the next link, and the count of links that were given back with faults.
pub record AcceptorState : Type 0 where
  pub opening : Option Opening
  pub waiting : List LinkState
  pub sessions : ℕ
  pub objects : ℕ
  pub out : ℕ
  pub back : List LinkState
  pub room : ℕ
  pub calls : Calls
  pub done_faults : ℕ

-- an acceptor of these links that no net opened and that wasn't asked for one yet
abbrev pub unasked : List LinkState → ℕ → List ℕ → AcceptorState
unasked links objects failing = record {
  opening = None;
  waiting = links;
  sessions = length links;
  objects = objects;
  out = 0;
  back = [];
  room = objects;
  calls = uncalled failing;
  done_faults = 0;
}

-- what is answered of the first link that waits: that one, while links may still be handed out
abbrev pub lent_link : ℕ → Option LinkState → Next LinkState
lent_link objects None = next.Failed
lent_link objects (Some link) = if objects == 0 then next.Failed else next.One link

-- what is answered where the next link is asked for
abbrev pub next_answer : AcceptorState → Next LinkState
next_answer acceptor =
    if next_fails acceptor.calls then next.Failed
    else (if acceptor.sessions == 0 then next.NoMore
    else lent_link acceptor.objects (slice_get acceptor.waiting 0))

-- the acceptor without the link that is handed out
abbrev pub without_link : Next LinkState → AcceptorState → AcceptorState
without_link (next.One link) acceptor = record acceptor {
  waiting = drop 1 acceptor.waiting;
  sessions = acceptor.sessions - 1;
  objects = acceptor.objects - 1;
  out = acceptor.out + 1;
}
without_link next.NoMore acceptor = acceptor
without_link next.Failed acceptor = acceptor

-- the acceptor after such an answer
abbrev pub after_next : Next LinkState → AcceptorState → AcceptorState
after_next answer acceptor =
    record (without_link answer acceptor) { calls = called (next_failed answer) acceptor.calls }

-- what a link that was given back showed
abbrev pub end_of : LinkState → LinkEnd
end_of link = link_end (Some link.output.written) link.output.calls.faults (read_half_of link.input)

-- whether a call of a link failed
abbrev pub link_fails : LinkState → Bool
link_fails link = is_faulty_link link.output.calls.faults (read_half_of link.input)

-- the acceptor after a link was given back
abbrev pub after_done : LinkState → AcceptorState → AcceptorState
after_done link acceptor = record acceptor {
  out = acceptor.out - 1;
  back = acceptor.back ++ link ∷ [];
  done_faults = count_after (link_fails link) acceptor.done_faults;
}

-- the custody of its links
abbrev pub links_of : AcceptorState → Custody LinkEnd
links_of acceptor = record { out = acceptor.out; back = Some (map end_of acceptor.back) }

-- what it shows
abbrev pub shown_acceptor : AcceptorState → AcceptorData
shown_acceptor acceptor = record {
  opening = acceptor.opening;
  sessions = acceptor.sessions;
  links = links_of acceptor;
  next_faults = acceptor.calls.faults;
  done_faults = acceptor.done_faults;
}

-- No call was made of the links.
abbrev pub AreNewLinks : List LinkState → Type 0
AreNewLinks links = AllByRecursion IsNewLink links

-- the acceptor with at most so many sessions left
abbrev pub at_most : ℕ → AcceptorState → AcceptorState
at_most sessions acceptor = record acceptor { sessions = min acceptor.sessions sessions }

-- the acceptor as this opening makes it, for at most so many sessions
abbrev pub opened_as : Opening → ℕ → AcceptorState → AcceptorState
opened_as opening sessions acceptor =
    record (at_most sessions acceptor) { opening = Some opening }

-- No call was made of the acceptor.
pub record IsNewAcceptor (acceptor : AcceptorState) : Type 0 where
  pub none_out : acceptor.out ≡ 0
  pub none_back : acceptor.back ≡ []
  pub unasked : acceptor.calls.made ≡ 0
  pub no_faults : acceptor.calls.faults ≡ 0
  pub none_faulty : acceptor.done_faults ≡ 0
