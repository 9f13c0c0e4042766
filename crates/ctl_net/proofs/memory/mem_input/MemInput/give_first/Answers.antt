use Rattle.std.proofs.Common.{◌≡◌, ℕ, ◌+◌, ◌-◌, min, take, get_or, sym, List, ◌∷◌, length, drop, refl, ◌∙◌, ap, subst, arith, rules, ◌<◌}
use Rattle.std.proofs.lemmas.Grind.{common_steps}
use Rattle.ctl_net.specs.LinkEvents.{IsAhead}
use Rattle.ctl_net.specs.InputInside.{cut_first, left_events}
use Rattle.ctl_net.specs.MemLink.{InputState, after_first}
use Rattle.ctl_net.specs.declared.link_event.LinkEvent.{LinkEvent}
use Rattle.ctl_net.specs.declared.link_event.LinkEvent.TheVariants.{Piece, Idle}
use Rattle.ctl_net.proofs.LinkEventsLemmas.{from_event}
use Rattle.ctl_net.proofs.InputLemmas.{FindsIdle, FindsPiece, idle_is_at, idle_view, last_is_at, last_view, part_is_at, part_view, rest_all}
use Rattle.ctl_net.proofs.memory.mem_input.MemInput.give_first.Goals as goal
use Rattle.ctl_net.proofs.memory.mem_input.MemInput.give_first.Goals.{After-push_reserved, After-push_reserved-in-Piece}

-- the event that was found
here : (at : ℕ) (items found : List LinkEvent) → found ≡ items → at < length found → at < length items
here at items found same within = let P : List LinkEvent → Type 0 = λ events. at < length events in subst P same within

first : (at : ℕ) (items found : List LinkEvent) (one its : LinkEvent) → found ≡ items → at < length found → one ≡ get_or found at one → one ≡ its → drop at items ≡ its ∷ drop (at + 1) items
first at items found one its same within read is =
    ap (drop at) (sym same) ∙ (from_event found at one within read ∙ (ap (λ event. event ∷ drop (at + 1) found) is ∙ ap (λ events. its ∷ drop (at + 1) events) same))

idle : (c : After-push_reserved) → FindsIdle c.self.inside (drop (c.self.inside.at + 1) c.self.inside.events.items) c.push_reserved.new.self (length c.args.into.now)
idle c = record {
  at = c.self.invariant;
  here = here c.self.inside.at c.self.inside.events.items c.deref.result.now c.deref.ensures.value c.in-Some.ensures.lookup.3.0;
  first = first c.self.inside.at c.self.inside.events.items c.deref.result.now c.in-Some.event.now Idle c.deref.ensures.value c.in-Some.ensures.lookup.3.0 c.in-Some.ensures.lookup.1 c.in-Idle.is;
  next = refl;
  pushed = search rules;
  same = search rules;
}

pub invariant_of-self : goal.invariant_of-self
invariant_of-self c = idle_is_at c.self.inside _ c.push_reserved.new.self (length c.args.into.now) c.raise.new.self (idle c)

pub returns-in-Idle-clause-after : goal.returns-in-Idle-clause-after
returns-in-Idle-clause-after c =
    idle_view c.self.inside _ c.push_reserved.new.self (length c.args.into.now) c.raise.new.self c.args.into.now (idle c) c.raise.ensures
    ∙ ap (λ input. after_first input (length c.args.into.now) c.args.into.now) c.self.view_is

-- the piece in front
front : (c : After-push_reserved-in-Piece) → drop c.self.inside.at c.self.inside.events.items ≡ Piece c.in-Piece.bytes ∷ drop (c.self.inside.at + 1) c.self.inside.events.items
front c = first c.self.inside.at c.self.inside.events.items c.deref.result.now c.in-Some.event.now (Piece c.in-Piece.bytes) c.deref.ensures.value c.in-Some.ensures.lookup.3.0 c.in-Some.ensures.lookup.1 c.in-Piece.is

full : (c : After-push_reserved-in-Piece) → 0 < length (drop c.self.inside.given c.in-Piece.bytes)
full c =
    let left : c.args.self.now.events ≡ left_events c.self.inside = ap (λ (input : InputState). input.events) (sym c.self.view_is) in
    subst IsAhead (left ∙ ap (λ events. cut_first c.self.inside.given events) (front c)) c.requires.first

-- the bytes of the piece that weren't given yet
given : (c : After-push_reserved-in-Piece) → take (length c.as_slice.result.now - c.self.inside.given) (drop c.self.inside.given c.as_slice.result.now) ≡ drop c.self.inside.given c.in-Piece.bytes
given c = rest_all c.self.inside.given c.as_slice.result.now ∙ ap (drop c.self.inside.given) c.as_slice.ensures

counted : (c : After-push_reserved-in-Piece) → c.copy_front-n.result ≡ min (length c.args.into.now) (length (drop c.self.inside.given c.in-Piece.bytes))
counted c = c.copy_front-n.ensures.count ∙ ap (λ (bytes : List ℕ). min (length c.args.into.now) (length bytes)) (given c)

piece : (c : After-push_reserved-in-Piece) → FindsPiece c.self.inside c.in-Piece.bytes (drop (c.self.inside.at + 1) c.self.inside.events.items) c.push_reserved-in-Piece.new.self (length c.args.into.now) c.copy_front-n.result c.copy_front-n.new.into
piece c = record {
  at = c.self.invariant;
  here = here c.self.inside.at c.self.inside.events.items c.deref.result.now c.deref.ensures.value c.in-Some.ensures.lookup.3.0;
  first = front c;
  next = refl;
  pushed = search rules;
  same = search rules;
  some = omega (arith, full c, c.requires.some, counted c);
  count = counted c;
  front = c.copy_front-n.ensures.front ∙ ap (take c.copy_front-n.result) (given c);
}

pub invariant_of-self-then-is_last : goal.invariant_of-self-then-is_last
invariant_of-self-then-is_last c = last_is_at c.self.inside c.in-Piece.bytes _ c.push_reserved-in-Piece.new.self (length c.args.into.now) c.copy_front-n.result c.copy_front-n.new.into (piece (goal.at.invariant_of-self-then-is_last c).After-push_reserved-in-Piece) (c.if-is_last.true ∙ ap length (given (goal.at.invariant_of-self-then-is_last c).After-push_reserved-in-Piece))

pub returns-then-is_last-clause-after : goal.returns-then-is_last-clause-after
returns-then-is_last-clause-after c =
    last_view c.self.inside c.in-Piece.bytes _ c.push_reserved-in-Piece.new.self (length c.args.into.now) c.copy_front-n.result c.copy_front-n.new.into (piece (goal.at.returns-then-is_last-clause-after c).After-push_reserved-in-Piece) (c.if-is_last.true ∙ ap length (given (goal.at.returns-then-is_last-clause-after c).After-push_reserved-in-Piece))
    ∙ ap (λ input. after_first input (length c.args.into.now) c.copy_front-n.new.into) c.self.view_is

pub invariant_of-self-in-Piece : goal.invariant_of-self-in-Piece
invariant_of-self-in-Piece c = part_is_at c.self.inside c.in-Piece.bytes _ c.push_reserved-in-Piece.new.self (length c.args.into.now) c.copy_front-n.result c.copy_front-n.new.into (piece (goal.at.invariant_of-self-in-Piece c).After-push_reserved-in-Piece) (grind (arith, common_steps))

pub returns-else-is_last-clause-after : goal.returns-else-is_last-clause-after
returns-else-is_last-clause-after c =
    part_view c.self.inside c.in-Piece.bytes _ c.push_reserved-in-Piece.new.self (length c.args.into.now) c.copy_front-n.result c.copy_front-n.new.into (piece (goal.at.returns-else-is_last-clause-after c).After-push_reserved-in-Piece) (grind (arith, common_steps))
    ∙ ap (λ input. after_first input (length c.args.into.now) c.copy_front-n.new.into) c.self.view_is
