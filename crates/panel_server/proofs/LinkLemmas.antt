-- Links that are served, one behind the other.
use Rattle.std.proofs.Common.{◌≡◌, ℕ, ◌+◌, ◌-◌, Bool, true, false, cond, if◌then◌else◌, List, [], ◌∷◌, ◌++◌, length, filter, Option, None, Some, refl, sym, ap, ◌∙◌, arith}
use Rattle.std.specs.Option.{option_map}
use Rattle.std.proofs.lemmas.Bool.{false≢true}
use Rattle.std.proofs.lemmas.List.{append_assoc, append-nil, length-append}
use Rattle.std.proofs.lemmas.List.Elements.{filter-append}
use Rattle.ctl_io.specs.Custody.{Custody, lent, returned}
use Rattle.ctl_io.specs.Faults.{count_after}
use Rattle.ctl_net.specs.Acceptor.{LinkEnd, is_faulty_link}
use Rattle.plant_config.specs.Plant.{PlantData}
use Rattle.panel_session.specs.declared.serve.SessionEnd.{SessionEnd}
use Rattle.panel_session.specs.declared.serve.SessionEnd.TheVariants.{Ended, ReadFault, WriteFault, TraceFault, IdleOut, Spent, Full}
use Rattle.panel_session.specs.Served.{PlantSeat, TraceData, read_failed_at, trace_failed_at, write_failed_at}
use Rattle.panel_server.specs.PanelServed.{AreInTurn, LinkServed, all_returned, faults_back, is_full, is_last_end, is_link_fault, that_ended}

-- of a filtered list there is nothing, so there is nothing of its first element
none_first : {X : Type 0} → (b : Bool) (x : X) (xs : List X) → cond b (x ∷ xs) xs ≡ [] → (b ≡ false) × (xs ≡ [])
none_first true x xs is = absurd cc
none_first false x xs is = (refl, is)

pub false_too : (a b : Bool) → (a ≡ true → b ≡ true) → b ≡ false → a ≡ false
false_too true b so is = absurd (false≢true (sym is ∙ so refl))
false_too false b so is = refl

filter_weaker : {X : Type 0} → (p q : X → Bool) → ((x : X) → p x ≡ true → q x ≡ true) → (xs : List X) → filter q xs ≡ [] → filter p xs ≡ []
filter_weaker p q weaker [] none = refl
filter_weaker p q weaker (x ∷ xs) none =
    let first = none_first (q x) x (filter q xs) none in
    ap (λ (b : Bool). cond b (x ∷ filter p xs) (filter p xs)) (false_too (p x) (q x) (weaker x) first.0) ∙ filter_weaker p q weaker xs first.1

-- one element more of a filtered list
count_one : {X : Type 0} → (b : Bool) (x : X) (n : ℕ) → n + length (cond b (x ∷ []) []) ≡ (if b then n + 1 else n)
count_one true x n = refl
count_one false x n = omega arith

pub count_more : {X : Type 0} → (p : X → Bool) (xs : List X) (x : X) → length (filter p (xs ++ x ∷ [])) ≡ (if p x then length (filter p xs) + 1 else length (filter p xs))
count_more p xs x = ap length (filter-append p xs (x ∷ [])) ∙ length-append (filter p xs) (filter p (x ∷ [])) ∙ count_one (p x) x (length (filter p xs))

pub filter_more : {X : Type 0} → (p : X → Bool) (xs : List X) (x : X) → filter p xs ≡ [] → filter p (xs ++ x ∷ []) ≡ cond (p x) (x ∷ []) []
filter_more p xs x none = filter-append p xs (x ∷ []) ∙ ap (λ (front : List _). front ++ filter p (x ∷ [])) none

-- An end by a full history, or by a fault of the trace, is one behind which no further link is taken.
full_last : (end : SessionEnd) → is_full end ≡ true → is_last_end end ≡ true
full_last Ended is = absurd (false≢true is)
full_last ReadFault is = absurd (false≢true is)
full_last WriteFault is = absurd (false≢true is)
full_last TraceFault is = refl
full_last IdleOut is = absurd (false≢true is)
full_last Spent is = absurd (false≢true is)
full_last Full is = refl

pub torn_last : (end : SessionEnd) → trace_failed_at end ≡ true → is_last_end end ≡ true
torn_last Ended is = absurd (false≢true is)
torn_last ReadFault is = absurd (false≢true is)
torn_last WriteFault is = absurd (false≢true is)
torn_last TraceFault is = refl
torn_last IdleOut is = absurd (false≢true is)
torn_last Spent is = absurd (false≢true is)
torn_last Full is = refl

-- Of an end it is known whether a call of its link failed.
faulty-end : (end : SessionEnd) → is_faulty_link (count_after (write_failed_at end) 0) (record { left = None; reads = None; faults = count_after (read_failed_at end) 0; idles = 0 }) ≡ is_link_fault end
faulty-end Ended = refl
faulty-end ReadFault = refl
faulty-end WriteFault = refl
faulty-end TraceFault = refl
faulty-end IdleOut = refl
faulty-end Spent = refl
faulty-end Full = refl

module _ {plant : PlantData} {panel turns : ℕ} where
  pub none_full : (links : List (LinkServed plant panel turns)) → that_ended is_last_end links ≡ [] → that_ended is_full links ≡ []
  none_full links none = filter_weaker (λ (one : LinkServed plant panel turns). is_full one.end) (λ (one : LinkServed plant panel turns). is_last_end one.end) (λ one is. full_last one.end is) links none

  pub none_torn : (links : List (LinkServed plant panel turns)) → that_ended is_last_end links ≡ [] → that_ended trace_failed_at links ≡ []
  none_torn links none = filter_weaker (λ (one : LinkServed plant panel turns). trace_failed_at one.end) (λ (one : LinkServed plant panel turns). is_last_end one.end) (λ one is. torn_last one.end is) links none

  -- A link with faults was given back exactly where its session ended by one.
  pub faulty-is : (one : LinkServed plant panel turns) → is_faulty_link one.link_then.write_faults one.link_then.read_half ≡ is_link_fault one.end
  faulty-is one =
      let writes : one.link_then.write_faults ≡ count_after (write_failed_at one.end) 0 = one.served.write_count ∙ ap (count_after (write_failed_at one.end)) one.fresh.no_faults in
      let reads : one.link_then.read_half.faults ≡ count_after (read_failed_at one.end) 0 = one.served.read_count ∙ ap (count_after (read_failed_at one.end)) one.fresh.unread.faults in
      ap (λ (count : ℕ). is_faulty_link count one.link_then.read_half) writes
      ∙ ap (λ (count : ℕ). is_faulty_link (count_after (write_failed_at one.end) 0) (record { left = None; reads = None; faults = count; idles = 0 })) reads
      ∙ faulty-end one.end

  -- One link more is served.
  pub in_turn_more : (seat b : PlantSeat) (trace t : TraceData) (links : List (LinkServed plant panel turns)) (one : LinkServed plant panel turns) → AreInTurn seat trace links b t → that_ended is_last_end links ≡ [] → one.seat ≡ b → one.trace ≡ t
      → AreInTurn seat trace (links ++ one ∷ []) one.seat_then one.trace_then
  in_turn_more seat b trace t [] one turn none from traced = (from ∙ turn.0, traced ∙ turn.1, λ last. refl, (refl, refl))
  in_turn_more seat b trace t (first ∷ later) one turn none from traced =
      let apart = none_first (is_last_end first.end) first (that_ended is_last_end later) none in (
        turn.0,
        turn.1,
        λ last. absurd (false≢true (sym apart.0 ∙ last)),
        in_turn_more first.seat_then b first.trace_then t later one turn.3 apart.1 from traced,
      )

  pub faults_more : (links : List (LinkServed plant panel turns)) (one : LinkServed plant panel turns) (count : ℕ) → faults_back (links ++ one ∷ []) count ≡ count_after (is_link_fault one.end) (faults_back links count)
  faults_more [] one count = refl
  faults_more (first ∷ links) one count = faults_more links one (count_after (is_link_fault first.end) count)

-- What was given back before, and one link more.
back_more : (ends : List LinkEnd) (link : LinkEnd) (back : Option (List LinkEnd)) → option_map (λ back. back ++ link ∷ []) (option_map (λ back. back ++ ends) back) ≡ option_map (λ back. back ++ (ends ++ link ∷ [])) back
back_more ends link None = refl
back_more ends link (Some back) = ap (λ (all : List LinkEnd). Some all) (append_assoc back ends (link ∷ []))

pub returned_more : (ends : List LinkEnd) (link : LinkEnd) (custody : Custody LinkEnd) → returned link (lent (all_returned ends custody)) ≡ all_returned (ends ++ link ∷ []) custody
returned_more ends link custody =
    let out : custody.out + 1 - 1 ≡ custody.out = omega arith in
    ap (λ (n : ℕ). record { out = n; back = option_map (λ back. back ++ link ∷ []) (option_map (λ back. back ++ ends) custody.back) }) out
    ∙ ap (λ (back : Option (List LinkEnd)). record { out = custody.out; back = back }) (back_more ends link custody.back)

pub returned_none : (custody : Custody LinkEnd) → all_returned [] custody ≡ custody
returned_none custody = ap (λ (back : Option (List LinkEnd)). record { out = custody.out; back = back }) (none custody.back) where
  none : (back : Option (List LinkEnd)) → option_map (λ back. back ++ []) back ≡ back
  none None = refl
  none (Some back) = ap (λ (all : List LinkEnd). Some all) (append-nil back)
