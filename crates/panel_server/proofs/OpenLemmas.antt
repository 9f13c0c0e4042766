-- What is opened to serve a plant, opening by opening, and what comes back where one is refused.
use Rattle.std.proofs.Common.{◌≡◌, ℕ, zero, suc, ◌+◌, ◌-◌, ◌<◌, ◌≤◌, List, [], ◌∷◌, ◌++◌, length, take, slice_get, slice_index_or, Option, Some, None, IfSome, IfNone, OnSome, All, refl, sym, ap, ◌∙◌, subst, arith, inl, inr}
use Rattle.std.specs.Prelude.{◌⊎◌}
use Rattle.std.specs.Option.{option_map}
use Rattle.std.proofs.lemmas.List.{append_assoc, append-nil, length-append}
use Rattle.std.proofs.lemmas.List.Elements.{All-cons, All-head, All-tail}
use Rattle.ctl_io.specs.Custody.{Custody, lent, returned}
use Rattle.ctl_io.specs.Faults.{count_after}
use Rattle.ctl_net.specs.Acceptor.{AcceptorData}
use Rattle.ctl_net.specs.Net.{AcceptorEnd, IsFreshAcceptor, PortEnd, ends_faulty, is_refused, opened, opening_lent}
use Rattle.ctl_net.specs.declared.opening.Opening.{Opening}
use Rattle.ctl_net.specs.declared.opening.Opening.TheVariants.{Acceptor, Display}
use Rattle.plant_config.specs.Plant.{PlantData}
use Rattle.plant_config.specs.declared.records.Panel.{Panel}
use Rattle.plant_file.specs.declared.entries.Server.{Server}
use Rattle.panel_server.specs.PanelServed.{all_returned}
use Rattle.panel_server.specs.PlantServed.{RefusesOpening, NetData, acceptor_openings, opened_all}
use Rattle.panel_server.specs.ServeInside.{AreOwn, ComeBackFresh, WasRefused, opened_acceptors, with_acceptor, with_closed, with_port, with_refusal}

-- two nets that show the same are the same
pub same_net : {P : Type 0} (one other : NetData P) → one.openings ≡ other.openings → one.acceptors ≡ other.acceptors → one.ports ≡ other.ports
    → one.open_faults ≡ other.open_faults → one.close_faults ≡ other.close_faults → one ≡ other
same_net {P} one other openings acceptors ports refused faulty =
    ap (λ (x : Option (List Opening)). record one { openings = x }) openings
    ∙ ap (λ (x : Custody AcceptorEnd). record one { openings = other.openings; acceptors = x }) acceptors
    ∙ ap (λ (x : Custody (PortEnd P)). record other { ports = x; open_faults = one.open_faults; close_faults = one.close_faults }) ports
    ∙ ap (λ (x : ℕ). record other { open_faults = x; close_faults = one.close_faults }) refused
    ∙ ap (λ (x : ℕ). record other { close_faults = x }) faulty

-- openings behind openings
pub opened_both : (one other : List Opening) (shown : Option (List Opening)) → opened_all other (opened_all one shown) ≡ opened_all (one ++ other) shown
opened_both one other None = refl
opened_both one other (Some former) = ap (λ (all : List Opening). Some all) (append_assoc former one other)

pub opened_none : (shown : Option (List Opening)) → opened_all [] shown ≡ shown
opened_none None = refl
opened_none (Some former) = ap (λ (all : List Opening). Some all) (append-nil former)

-- one acceptor for each panel
pub openings_count : (server : Server) (number : ℕ) (panels : List Panel) → length (acceptor_openings server number panels) ≡ length panels
openings_count server number [] = refl
openings_count server number (panel ∷ panels) = ap (λ (n : ℕ). suc n) (openings_count server (number + 1) panels)

-- the opening of the next panel
pub openings_next : (server : Server) (from number : ℕ) (panels : List Panel) (other : Panel) → number < length panels
    → take (suc number) (acceptor_openings server from panels)
    ≡ take number (acceptor_openings server from panels) ++ Acceptor (from + number) server.listen (slice_index_or panels number other).port server.sessions server.idle_ms ∷ []
openings_next server from number [] other below = absurd (omega (arith, below))
openings_next server from zero (panel ∷ panels) other below =
    ap (λ (n : ℕ). Acceptor n server.listen panel.port server.sessions server.idle_ms ∷ []) (omega arith)
openings_next server from (suc number) (panel ∷ panels) other below =
    let first = Acceptor from server.listen panel.port server.sessions server.idle_ms in
    let at : from + 1 + number ≡ from + suc number = omega arith in
    ap (λ (later : List Opening). first ∷ later) (openings_next server (from + 1) number panels other (omega (arith, below)))
    ∙ ap (λ (n : ℕ). first ∷ (take number (acceptor_openings server (from + 1) panels) ++ Acceptor n server.listen (slice_index_or panels number other).port server.sessions server.idle_ms ∷ [])) at

module _ {P : Type 0} (plant : PlantData) (net : NetData P) where
  -- one acceptor more
  pub opened_next : (number : ℕ) (other : Panel) → number < length plant.panels
      → with_acceptor plant.server number (slice_index_or plant.panels number other).port (opened_acceptors plant number net) ≡ opened_acceptors plant (number + 1) net
  opened_next number other below =
      let all = acceptor_openings plant.server 0 plant.panels in
      let one = Acceptor number plant.server.listen (slice_index_or plant.panels number other).port plant.server.sessions plant.server.idle_ms in
      let at : number ≡ 0 + number = omega arith in
      let next_at : suc number ≡ number + 1 = omega arith in
      let more : take number all ++ one ∷ [] ≡ take (number + 1) all =
      ap (λ (n : ℕ). take number all ++ Acceptor n plant.server.listen (slice_index_or plant.panels number other).port plant.server.sessions plant.server.idle_ms ∷ []) at
      ∙ sym (openings_next plant.server 0 number plant.panels other below) ∙ ap (λ (n : ℕ). take n all) next_at in
      let shown : opened_all (one ∷ []) (opened_all (take number all) net.openings) ≡ opened_all (take (number + 1) all) net.openings =
      opened_both (take number all) (one ∷ []) net.openings ∙ ap (λ (openings : List Opening). opened_all openings net.openings) more in
      let out : net.acceptors.out + number + 1 ≡ net.acceptors.out + (number + 1) = omega arith in
      ap (λ (openings : Option (List Opening)). record (opened_acceptors plant number net) { openings = openings; acceptors = lent (opened_acceptors plant number net).acceptors }) shown
      ∙ ap (λ (n : ℕ). record (opened_acceptors plant (number + 1) net) { acceptors = record net.acceptors { out = n } }) out

  -- none was opened yet
  pub opened_begins : net ≡ opened_acceptors plant 0 net
  opened_begins = ap (λ (openings : Option (List Opening)). record net { openings = openings }) (sym (opened_none net.openings))
      ∙ ap (λ (n : ℕ). record (opened_acceptors plant 0 net) { acceptors = record net.acceptors { out = n } }) {x = net.acceptors.out} (omega arith)

-- what an opening leaves, by its answer
pub acceptor_opened : {A P : Type 0} → (answer : Option A) (one : Opening) (net next : NetData P)
    → next.openings ≡ opened answer one net.openings → next.acceptors ≡ opening_lent answer net.acceptors → next.ports ≡ net.ports
    → next.open_faults ≡ count_after (is_refused answer) net.open_faults → next.close_faults ≡ net.close_faults
    → OnSome answer (next ≡ record net { openings = opened_all (one ∷ []) net.openings; acceptors = lent net.acceptors })
acceptor_opened (Some acceptor) one net next openings acceptors ports refused faulty = same_net next _ openings acceptors ports refused faulty
acceptor_opened None one net next openings acceptors ports refused faulty = tt

pub acceptor_refused : {A P : Type 0} → (answer : Option A) (one : Opening) (net next : NetData P)
    → next.openings ≡ opened answer one net.openings → next.acceptors ≡ opening_lent answer net.acceptors → next.ports ≡ net.ports
    → next.open_faults ≡ count_after (is_refused answer) net.open_faults → next.close_faults ≡ net.close_faults
    → IfNone answer (next ≡ with_refusal net)
acceptor_refused (Some acceptor) one net next openings acceptors ports refused faulty = tt
acceptor_refused None one net next openings acceptors ports refused faulty = same_net next _ openings acceptors ports refused faulty

pub port_opened : {P : Type 0} → (answer : Option P) (one : Opening) (net next : NetData P)
    → next.openings ≡ opened answer one net.openings → next.ports ≡ opening_lent answer net.ports → next.acceptors ≡ net.acceptors
    → next.open_faults ≡ count_after (is_refused answer) net.open_faults → next.close_faults ≡ net.close_faults
    → OnSome answer (next ≡ record net { openings = opened_all (one ∷ []) net.openings; ports = lent net.ports })
port_opened (Some port) one net next openings ports acceptors refused faulty = same_net next _ openings acceptors ports refused faulty
port_opened None one net next openings ports acceptors refused faulty = tt

pub port_refused : {P : Type 0} → (answer : Option P) (one : Opening) (net next : NetData P)
    → next.openings ≡ opened answer one net.openings → next.ports ≡ opening_lent answer net.ports → next.acceptors ≡ net.acceptors
    → next.open_faults ≡ count_after (is_refused answer) net.open_faults → next.close_faults ≡ net.close_faults
    → IfNone answer (next ≡ with_refusal net)
port_refused (Some port) one net next openings ports acceptors refused faulty = tt
port_refused None one net next openings ports acceptors refused faulty = same_net next _ openings acceptors ports refused faulty

-- acceptors that came back, and one more
pub back_both : {X : Type 0} → (one other : List X) (shown : Option (List X)) → option_map (λ (back : List X). back ++ other) (option_map (λ (back : List X). back ++ one) shown) ≡ option_map (λ (back : List X). back ++ (one ++ other)) shown
back_both one other None = refl
back_both {X} one other (Some former) = ap (λ (all : List X). Some all) (append_assoc former one other)

back_none : {X : Type 0} → (shown : Option (List X)) → option_map (λ (back : List X). back ++ []) shown ≡ shown
back_none None = refl
back_none {X} (Some former) = ap (λ (all : List X). Some all) (append-nil former)

at_one_more : {X : Type 0} → (xs : List X) (x y : X) (k : ℕ) → slice_get (xs ++ x ∷ []) k ≡ Some y → (slice_get xs k ≡ Some y) ⊎ ((k ≡ length xs) × (x ≡ y))
at_one_more {X} [] x y zero is =
    let Is : Option X → Type 0 = λ first. IfSome first (λ z. x ≡ z) in
    inr (refl, subst Is is refl)
at_one_more [] x y (suc k) is = absurd cc
at_one_more (z ∷ xs) x y zero is = inl is
at_one_more (z ∷ xs) x y (suc k) is = elim (at_one_more xs x y k is) [
  | (inl before) ↦ inl before
  | (inr last) ↦ inr (omega (arith, last.0), last.1)
]

module _ {P : Type 0} (plant : PlantData) (count : ℕ) (net : NetData P) where
  pub back_begins : ComeBackFresh plant count 0 net net
  back_begins = record {
    back = [];
    counted = refl;
    each = λ k one at. absurd cc;
    net_is = ap (λ (back : Option (List AcceptorEnd)). record net { acceptors = record net.acceptors { back = back } }) (sym (back_none net.acceptors.back))
        ∙ ap (λ (n : ℕ). record net { acceptors = record (all_returned [] net.acceptors) { out = n } }) {x = net.acceptors.out} (omega arith);
  }

  pub back_next : (some more : ℕ) (one : AcceptorEnd) (mid : NetData P) → ComeBackFresh plant count some net mid → more ≡ some + 1 → one.panel + more ≡ count
      → IsFreshAcceptor one.links one.next_faults one.done_faults
      → one.opening ≡ slice_get (acceptor_openings plant.server 0 plant.panels) one.panel → ComeBackFresh plant count more net (with_closed one mid)
  back_next some more one mid came is at fresh own =
      let same : with_closed one mid ≡ record mid { acceptors = returned one mid.acceptors } =
      ap (λ (n : ℕ). record mid { acceptors = returned one mid.acceptors; close_faults = count_after (ends_faulty n one.done_faults) mid.close_faults }) fresh.next_count
      ∙ ap (λ (n : ℕ). record mid { acceptors = returned one mid.acceptors; close_faults = count_after (ends_faulty 0 n) mid.close_faults }) fresh.done_count in
      let out : net.acceptors.out - some - 1 ≡ net.acceptors.out - more = omega (arith, is) in
      record {
        back = came.back ++ one ∷ [];
        counted = omega (arith, is, came.counted, length-append came.back (one ∷ []));
        each = λ k other place. elim (at_one_more came.back one other k place) [
          | (inl before) ↦ came.each k other before
          | (inr last) ↦ subst (λ (end : AcceptorEnd). (end.panel + (k + 1) ≡ count) × IsFreshAcceptor end.links end.next_faults end.done_faults
              × (end.opening ≡ slice_get (acceptor_openings plant.server 0 plant.panels) end.panel)) last.1
              (omega (arith, at, is, last.0, came.counted), fresh, own)
        ];
        net_is = same ∙ ap (λ (before : NetData P). record before { acceptors = returned one before.acceptors }) came.net_is
            ∙ ap (λ (back : Option (List AcceptorEnd)). record net { acceptors = record { out = net.acceptors.out - some - 1; back = back } }) (back_both came.back (one ∷ []) net.acceptors.back)
            ∙ ap (λ (n : ℕ). record net { acceptors = record (all_returned (came.back ++ one ∷ []) net.acceptors) { out = n } }) out;
      }

-- a front of a list and another behind it
front_of : {X : Type 0} → (xs ys : List X) (n : ℕ) → n ≤ length xs → take n xs ≡ take n (xs ++ ys)
front_of xs ys zero few = refl
front_of [] ys (suc n) few = absurd (omega (arith, few))
front_of {X} (x ∷ xs) ys (suc n) few = ap (λ (later : List X). x ∷ later) (front_of xs ys n (omega (arith, few)))

-- An opening was refused, and what was opened came back.
pub refused_all : {P : Type 0} (plant : PlantData) (count : ℕ) (net mid end : NetData P) → count ≤ length plant.panels → WasRefused plant count net mid
    → ComeBackFresh plant count count mid end → RefusesOpening plant net end
refused_all {P} plant count net mid end few refused came =
    let all = acceptor_openings plant.server 0 plant.panels in
    let last = Display plant.server.display ∷ [] in
    let counted = openings_count plant.server 0 plant.panels in
    let front : take count all ≡ take count (all ++ last) = front_of all last count (omega (arith, few, counted)) in
    let out : net.acceptors.out + count - count ≡ net.acceptors.out = omega arith in
    record {
      count = count;
      back = came.back;
      fewer = omega (arith, few, counted, length-append all last);
      openings = ap (λ (net : NetData P). net.openings) came.net_is ∙ ap (λ (net : NetData P). net.openings) refused
          ∙ ap (λ (openings : List Opening). opened_all openings net.openings) front;
      acceptors = ap (λ (net : NetData P). net.acceptors) came.net_is
          ∙ ap (λ (mid : NetData P). record (all_returned came.back mid.acceptors) { out = mid.acceptors.out - count }) refused
          ∙ ap (λ (n : ℕ). record (all_returned came.back net.acceptors) { out = n }) out;
      counted = came.counted;
      fresh = came.each;
      ports = ap (λ (net : NetData P). net.ports) came.net_is ∙ ap (λ (net : NetData P). net.ports) refused;
      open_count = ap (λ (net : NetData P). net.open_faults) came.net_is ∙ ap (λ (net : NetData P). net.open_faults) refused;
      close_count = ap (λ (net : NetData P). net.close_faults) came.net_is ∙ ap (λ (net : NetData P). net.close_faults) refused;
    }

-- the same of one acceptor more, by what was asked of the net for it
pub opened_step : {P : Type 0} (plant : PlantData) (net mid next : NetData P) (server : Server) (panels : List Panel) (number told : ℕ) (other : Panel)
    → server ≡ plant.server → panels ≡ plant.panels → number < length panels → told ≡ number → mid ≡ opened_acceptors plant number net
    → next ≡ with_acceptor server told (slice_index_or panels number other).port mid → next ≡ opened_acceptors plant (number + 1) net
opened_step {P} plant net mid next server panels number told other server_is panels_are below told_is before is =
    is
    ∙ ap (λ (server : Server). with_acceptor server told (slice_index_or panels number other).port mid) server_is
    ∙ ap (λ (told : ℕ). with_acceptor plant.server told (slice_index_or panels number other).port mid) told_is
    ∙ ap (λ (panels : List Panel). with_acceptor plant.server number (slice_index_or panels number other).port mid) panels_are
    ∙ ap (λ (mid : NetData P). with_acceptor plant.server number (slice_index_or plant.panels number other).port mid) before
    ∙ opened_next plant net number other (subst (λ (panels : List Panel). number < length panels) panels_are below)

-- what is so of each element is so of the last
pub all_and_last : {X : Type 0} (Is : X → Type 0) (xs : List X) (x : X) → All Is (xs ++ x ∷ []) → All Is xs × Is x
all_and_last Is [] x all = ((λ k d below. absurd (omega (arith, below))), All-head Is x [] all)
all_and_last Is (y ∷ xs) x all =
    let rest = all_and_last Is xs x (All-tail Is y (xs ++ x ∷ []) all) in
    (All-cons Is y xs (All-head Is y (xs ++ x ∷ []) all) rest.0, rest.1)

-- the refusal of the acceptor behind those of the panels below a number
pub refused_step : {P : Type 0} (plant : PlantData) (net mid next : NetData P) (number count : ℕ) → mid ≡ opened_acceptors plant number net → count ≡ number
    → next ≡ with_refusal mid → WasRefused plant count net next
refused_step {P} plant net mid next number count before counted is =
    is ∙ ap (λ (mid : NetData P). with_refusal mid) before ∙ ap (λ (count : ℕ). with_refusal (opened_acceptors plant count net)) (sym counted)

-- those that were opened are out
pub refused_out : {P : Type 0} (plant : PlantData) (count : ℕ) (net mid : NetData P) → WasRefused plant count net mid → count ≤ mid.acceptors.out
refused_out {P} plant count net mid is = omega (arith, ap (λ (net : NetData P). net.acceptors.out) is)

-- all acceptors were opened, and then the port
pub opened_whole : {P : Type 0} (plant : PlantData) (count : ℕ) (net mid next : NetData P) (server : Server) → server ≡ plant.server → count ≡ length plant.panels
    → mid ≡ opened_acceptors plant count net → next ≡ with_port server mid → next ≡ with_port plant.server (opened_acceptors plant (length plant.panels) net)
opened_whole {P} plant count net mid next server server_is counted before is =
    is ∙ ap (λ (server : Server). with_port server mid) server_is ∙ ap (λ (mid : NetData P). with_port plant.server mid) before
    ∙ ap (λ (count : ℕ). with_port plant.server (opened_acceptors plant count net)) counted

-- what stands in a list with one more behind it
at_front : {X : Type 0} → (xs : List X) (x : X) (k : ℕ) (y : X) → slice_get xs k ≡ Some y → slice_get (xs ++ x ∷ []) k ≡ Some y
at_front [] x k y at = absurd cc
at_front (z ∷ xs) x zero y at = at
at_front (z ∷ xs) x (suc k) y at = at_front xs x k y at

at_last : {X : Type 0} → (xs : List X) (x : X) → slice_get (xs ++ x ∷ []) (length xs) ≡ Some x
at_last [] x = refl
at_last (z ∷ xs) x = at_last xs x

-- the opening of the panel at a place
pub opening_at : (server : Server) (from number : ℕ) (panels : List Panel) (other : Panel) → number < length panels
    → slice_get (acceptor_openings server from panels) number ≡ Some (Acceptor (from + number) server.listen (slice_index_or panels number other).port server.sessions server.idle_ms)
opening_at server from number [] other below = absurd (omega (arith, below))
opening_at server from zero (panel ∷ panels) other below =
    ap (λ (n : ℕ). Some (Acceptor n server.listen panel.port server.sessions server.idle_ms)) (omega arith)
opening_at server from (suc number) (panel ∷ panels) other below =
    let at : from + 1 + number ≡ from + suc number = omega arith in
    opening_at server (from + 1) number panels other (omega (arith, below))
    ∙ ap (λ (n : ℕ). Some (Acceptor n server.listen (slice_index_or panels number other).port server.sessions server.idle_ms)) at

module _ {A : Type 0} (shows : A → AcceptorData) (plant : PlantData) where
  -- none is there yet
  pub own_none : (acceptors : List A) → acceptors ≡ [] → AreOwn shows plant acceptors
  own_none acceptors none = λ k acceptor at.
      let Of : List A → Type 0 = λ acceptors. slice_get acceptors k ≡ Some acceptor in
      let never : None ≡ Some acceptor = subst Of none at in
      absurd cc

  -- one more
  pub own_push : (acceptors : List A) (acceptor : A) → AreOwn shows plant acceptors → (shows acceptor).opening ≡ slice_get (acceptor_openings plant.server 0 plant.panels) (length acceptors)
      → AreOwn shows plant (acceptors ++ acceptor ∷ [])
  own_push acceptors acceptor own is = λ k other at.
      let all : List Opening = acceptor_openings plant.server 0 plant.panels in
      elim (at_one_more acceptors acceptor other k at) [
        | (inl before) ↦ own k other before
        | (inr last) ↦ ap (λ (acceptor : A). (shows acceptor).opening) (sym last.1) ∙ is ∙ ap (λ (n : ℕ). slice_get all n) (sym last.0)
      ]

  -- the same by what was asked of the net for it
  pub own_step : (server : Server) (panels : List Panel) (number told : ℕ) (other : Panel) (acceptors : List A) (acceptor : A) → server ≡ plant.server → panels ≡ plant.panels
      → number < length panels → told ≡ number → length acceptors ≡ number
      → (shows acceptor).opening ≡ Some (Acceptor told server.listen (slice_index_or panels number other).port server.sessions server.idle_ms)
      → AreOwn shows plant acceptors → AreOwn shows plant (acceptors ++ acceptor ∷ [])
  own_step server panels number told other acceptors acceptor server_is panels_are below told_is counted is own =
      let all : List Opening = acceptor_openings plant.server 0 plant.panels in
      let at : 0 + number ≡ told = omega (arith, told_is) in
      own_push acceptors acceptor own
      (is
      ∙ ap (λ (server : Server). Some (Acceptor told server.listen (slice_index_or panels number other).port server.sessions server.idle_ms)) server_is
      ∙ ap (λ (panels : List Panel). Some (Acceptor told plant.server.listen (slice_index_or panels number other).port plant.server.sessions plant.server.idle_ms)) panels_are
      ∙ ap (λ (n : ℕ). Some (Acceptor n plant.server.listen (slice_index_or plant.panels number other).port plant.server.sessions plant.server.idle_ms)) (sym at)
      ∙ sym (opening_at plant.server 0 number plant.panels other (subst (λ (panels : List Panel). number < length panels) panels_are below))
      ∙ ap (λ (n : ℕ). slice_get all n) (sym counted))

  -- the last one, and those before it
  pub own_front : (acceptors : List A) (acceptor : A) → AreOwn shows plant (acceptors ++ acceptor ∷ []) → AreOwn shows plant acceptors
  own_front acceptors acceptor own = λ k other at. own k other (at_front acceptors acceptor k other at)

  pub own_last : (acceptors : List A) (acceptor : A) → AreOwn shows plant (acceptors ++ acceptor ∷ []) → (shows acceptor).opening ≡ slice_get (acceptor_openings plant.server 0 plant.panels) (length acceptors)
  own_last acceptors acceptor own = own (length acceptors) acceptor (at_last acceptors acceptor)
