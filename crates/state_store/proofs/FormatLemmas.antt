-- What closing both gates leaves.
use Rattle.std.proofs.Common.{ℕ, false, List, Option, Some, None, IfSome, ◌∙◌, ap}
use Rattle.ctl_io.specs.Disk.{Torn, ShowsTorn}
use Rattle.ctl_io.specs.Crash.{Follows}
use Rattle.ctl_io.proofs.DiskLemmas.{torn_same}
use Rattle.state_store.specs.Slots.{InSlot, in_slot, gate_at}
use Rattle.state_store.specs.Kept.{kept_of}
use Rattle.state_store.specs.Steps.{ShowsStep, SetsGate, TearsGates, IsTornFrom, IsAtStart}
use Rattle.state_store.specs.declared.slot.Slot.TheVariants.{First, Second}

-- Both gates are closed: nothing is kept.
pub starts : (n : ℕ) (a b c : Option (List ℕ)) → ShowsStep (SetsGate n First false) a b → ShowsStep (SetsGate n Second false) b c → IfSome c (IsAtStart n)
starts n a b None r s = tt
starts n a None (Some z) r s = absurd s
starts n None (Some y) (Some z) r s = absurd r
starts n (Some x) (Some y) (Some z) r s =
    let closed : InSlot = record { is_open = false; entry = (in_slot n First x).entry } in
    ap (λ (i : InSlot). kept_of i (in_slot n Second z)) (s.that ∙ r.this) ∙ ap (kept_of closed) s.this

-- No other byte changed.
pub tears_gates : (n : ℕ) (a b c : Option (List ℕ)) → ShowsTorn (gate_at n First) 1 a b → ShowsTorn (gate_at n Second) 1 b c → ShowsStep (TearsGates n) a c
tears_gates n None None None r s = tt
tears_gates n None None (Some z) r s = s
tears_gates n None (Some y) c r s = absurd r
tears_gates n (Some x) None c r s = absurd r
tears_gates n (Some x) (Some y) None r s = s
tears_gates n (Some x) (Some y) (Some z) r s = (y, r, s)

-- what a crash leaves before the first gate is written, and behind each
pub torn_not : (n : ℕ) (may_leave : List ℕ → Type 0) (c : List ℕ) → may_leave c → IsTornFrom n may_leave c
torn_not n may_leave c left = (c, left, (c, torn_same (gate_at n First) 1 c, torn_same (gate_at n Second) 1 c))

pub torn_once : (n : ℕ) (may_leave now : List ℕ → Type 0) → Follows (Torn (gate_at n First) 1) may_leave now → (c : List ℕ) → now c → IsTornFrom n may_leave c
torn_once n may_leave now crash c left =
    let from = crash c left in
    (from.0, from.1, (c, from.2, torn_same (gate_at n Second) 1 c))

pub torn_twice : (n : ℕ) (may_leave mid now : List ℕ → Type 0) → Follows (Torn (gate_at n First) 1) may_leave mid → Follows (Torn (gate_at n Second) 1) mid now → (c : List ℕ) → now c → IsTornFrom n may_leave c
torn_twice n may_leave mid now first second c left =
    let from = second c left in
    let back = first from.0 from.1 in
    (back.0, back.1, (from.0, back.2, from.2))
