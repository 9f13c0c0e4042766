use Rattle.std.proofs.Common.{◌≡◌, List, ◌≤◌, length, drop, sym, ap, ◌∙◌, subst, arith, rules}
use Rattle.ctl_net.specs.LinkEvents.{ahead}
use Rattle.ctl_net.specs.MemLink.{InputState}
use Rattle.ctl_net.specs.declared.link_event.LinkEvent.{LinkEvent}
use Rattle.ctl_net.proofs.InputLemmas.{passed_is_at, stays_view}
use Rattle.ctl_net.proofs.memory.mem_input.MemInput.pass_empty.Goals as goal

pub invariant_of-self : goal.invariant_of-self
invariant_of-self c =
    let items : List LinkEvent = c.self.inside.events.items in
    let within : c.first_from-self-inside.result ≤ length items =
    let P : List LinkEvent → Type 0 = λ events. c.first_from-self-inside.result ≤ length events in subst P c.deref.ensures.value c.first_from-self-inside.ensures.within in
    let is : drop c.first_from-self-inside.result items ≡ ahead (drop c.self.inside.at items) =
    let P : List LinkEvent → Type 0 = λ events. drop c.first_from-self-inside.result events ≡ ahead (drop c.self.inside.at events) in subst P c.deref.ensures.value c.first_from-self-inside.ensures.ahead in
    passed_is_at c.self.inside c.first_from-self-inside.result c.self.invariant (search rules) within is

pub returns-else-self-eq0 : goal.returns-else-self-eq0
returns-else-self-eq0 c =
    sym c.self.view_is ∙ (stays_view c.self.inside c.self.invariant (omega (arith, c.if-self-eq0.false)) ∙ ap (λ (input : InputState). record input { events = ahead input.events }) c.self.view_is)
