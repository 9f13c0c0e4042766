-- A panel that met no fault and no limit was served whole.
use Rattle.std.proofs.Common.{◌≡◌, ◌≢◌, inl, inr, ℕ, zero, suc, ◌+◌, ◌<◌, Bool, true, false, cond, List, [], ◌∷◌, ◌++◌, length, filter, Option, Some, None, refl, sym, ◌∙◌, ap, subst, arith}
use Rattle.std.specs.Prelude.{All, IfSome, nat_lt, if◌then◌else◌, sum_by, get_or}
use Rattle.std.proofs.lemmas.Bool.{false≢true}
use Rattle.std.proofs.lemmas.List.Elements.{All-nil, All-cons, All-head, All-tail}
use Rattle.std.proofs.lemmas.Option.{none-some, same_Some, slice_get-get_or}
use Rattle.std.proofs.lemmas.List.Sums.{sum_by-cons}
use Rattle.ctl_io.specs.Faults.{count_after}
use Rattle.ctl_io.specs.Sink.{appended, IsUnwritten}
use Rattle.history_lock.specs.Locks.{LockData}
use Rattle.plant_config.specs.Plant.{PlantData}
use Rattle.plant_core.specs.State.{State}
use Rattle.panel_session.specs.declared.serve.SessionEnd.{SessionEnd}
use Rattle.panel_session.specs.declared.serve.SessionEnd.TheVariants.{Ended, ReadFault, WriteFault, TraceFault, IdleOut, Spent, Full}
use Rattle.panel_session.specs.Entry.{PlantEntry}
use Rattle.panel_session.specs.Served.{HasCause, trace_failed_at, was_cut}
use Rattle.panel_server.specs.PanelServed.{LinkServed, is_last_end, is_limit, is_link_fault, that_ended}
use Rattle.panel_server.specs.PlantServed.{PanelRun, first_true}
use Rattle.command_serve.specs.Serve.{AllWell, NetFailed, LimitsMet, telling_of, name_at}
use Rattle.command_serve.specs.Whole.{IsServedWhole, IsPanelWhole}
use Rattle.command_serve.proofs.CameLemmas.{telling_status, uncounted}

-- lists of which none is so

none_more : {X : Type 0} (so : Bool) (x : X) (rest : List X) → length (cond so (x ∷ rest) rest) ≡ 0 → (so ≡ false) × (length rest ≡ 0)
none_more true x rest none = absurd (omega (arith, none))
none_more false x rest none = (refl, none)

pub none_so : {X : Type 0} (is : X → Bool) (xs : List X) → length (filter is xs) ≡ 0 → All (λ x. is x ≡ false) xs
none_so is [] none = All-nil (λ x. is x ≡ false)
none_so is (x ∷ xs) none =
    let more = none_more (is x) x (filter is xs) none in
    All-cons (λ y. is y ≡ false) x xs more.0 (none_so is xs more.1)

one_out : {X : Type 0} (so : Bool) (x : X) (rest : List X) → so ≡ false → rest ≡ [] → cond so (x ∷ rest) rest ≡ []
one_out true x rest is none = absurd (false≢true (sym is))
one_out false x rest is none = none

all_out : {X : Type 0} (is : X → Bool) (xs : List X) → All (λ x. is x ≡ false) xs → filter is xs ≡ []
all_out is [] none = refl
all_out is (x ∷ xs) none = one_out (is x) x (filter is xs) (All-head (λ y. is y ≡ false) x xs none) (all_out is xs (All-tail (λ y. is y ≡ false) x xs none))

is_none : {X : Type 0} (xs : List X) → (xs ≢ [] → ⊥) → length xs ≡ 0
is_none [] never = refl
is_none (x ∷ xs) never = absurd (never (λ same. let h = ap length same in omega (arith, h)))

pub sum_none : {X : Type 0} (f : X → ℕ) (xs : List X) → sum_by f xs ≡ 0 → All (λ x. f x ≡ 0) xs
sum_none f [] none = All-nil (λ x. f x ≡ 0)
sum_none f (x ∷ xs) none =
    let sum : f x + sum_by f xs ≡ 0 = sym (sum_by-cons f x xs) ∙ none in
    All-cons (λ y. f y ≡ 0) x xs (omega (arith, sum)) (sum_none f xs (omega (arith, sum)))

no_session : (left : ℕ) → (left ≢ 0 → ⊥) → left ≡ 0
no_session zero never = refl
no_session (suc left) never = absurd (never (λ same. omega (arith, same)))

-- no failure stands among those of which none is first

pub none_failed : (place : ℕ) (failures : List Bool) → first_true place failures ≡ None → All (λ failed. failed ≡ false) failures
none_failed place [] none = All-nil (λ (failed : Bool). failed ≡ false)
none_failed place (true ∷ later) none = absurd (none-some place (sym none))
none_failed place (false ∷ later) none = All-cons (λ (failed : Bool). failed ≡ false) false later refl (none_failed (place + 1) later none)

first_within : (start place : ℕ) (failures : List Bool) → first_true start failures ≡ Some place → place < start + length failures
first_within start place [] is = absurd (none-some place is)
first_within start place (true ∷ later) is = let same : start ≡ place = same_Some start place is in omega (arith, same)
first_within start place (false ∷ later) is = omega (arith, first_within (start + 1) place later is)

pub none_first : (names : List (List ℕ)) (failed : Option ℕ) (failures : List Bool) → length names ≡ length failures → failed ≡ first_true 0 failures → name_at names failed ≡ None → failed ≡ None
none_first names None failures long is unnamed = refl
none_first names (Some place) failures long is unnamed =
    let within = first_within 0 place failures (sym is) in
    absurd (none-some (get_or names place []) (sym unnamed ∙ slice_get-get_or names place [] (omega (arith, within, long))))

-- a count that is 0 counts no failure
pub unfailed : (failed : Bool) (before now : ℕ) → now ≡ count_after failed before → now ≡ 0 → failed ≡ false
unfailed false before now count none = refl
unfailed true before now count none =
    let positive : 0 < count_after true before = omega arith in
    absurd (omega (arith, positive, count, none))

-- all was well, and so nothing was counted
by_bools : (net_failed limit_met : Bool) → (if net_failed then NetFailed else (if limit_met then LimitsMet else AllWell)) ≡ AllWell → (net_failed ≡ false) × (limit_met ≡ false)
by_bools true limit_met is = absurd (let h = ap telling_status is in omega arith)
by_bools false true is = absurd (let h = ap telling_status is in omega arith)
by_bools false false is = (refl, refl)

pub well_told : (found : Option (List ℕ)) (net_faults limits : ℕ) → telling_of found net_faults limits ≡ AllWell → (found ≡ None) × (net_faults ≡ 0) × (limits ≡ 0)
well_told (Some name) net_faults limits is = absurd (let h = ap telling_status is in omega arith)
well_told None net_faults limits is =
    let both = by_bools (nat_lt 0 net_faults) (nat_lt 0 limits) is in
    (refl, uncounted net_faults both.0, uncounted limits both.1)

-- a session that ended by no fault and no limit ended as its link did

is_ended : (end : SessionEnd) → is_link_fault end ≡ false → is_limit end ≡ false → trace_failed_at end ≡ false → end ≡ Ended
is_ended Ended link limit trace = refl
is_ended ReadFault link limit trace = absurd (false≢true (sym link))
is_ended WriteFault link limit trace = absurd (false≢true (sym link))
is_ended TraceFault link limit trace = absurd (false≢true (sym trace))
is_ended IdleOut link limit trace = absurd (false≢true (sym limit))
is_ended Spent link limit trace = absurd (false≢true (sym limit))
is_ended Full link limit trace = absurd (false≢true (sym limit))

fresh_written : (before now : Option (List ℕ)) (bytes text : List ℕ) → IsUnwritten before → now ≡ appended before bytes → bytes ≡ text → IfSome now (λ all. all ≡ text)
fresh_written None now bytes text unwritten is same = subst (λ (w : Option (List ℕ)). IfSome w (λ all. all ≡ text)) (sym is) tt
fresh_written (Some all) now bytes text unwritten is same =
    subst (λ (w : Option (List ℕ)). IfSome w (λ all. all ≡ text)) (sym is) (ap (λ (a : List ℕ). a ++ bytes) unwritten ∙ same)

link_whole : {plant : PlantData} {panel turns : ℕ} (one : LinkServed plant panel turns) → one.end ≡ Ended → IsServedWhole one
link_whole {plant} {panel} {turns} one ended =
    let uncut : was_cut one.end ≡ false = ap was_cut ended in
    let cause = subst (λ (e : SessionEnd). HasCause e turns plant.server.idle_limit one.served.reads one.link_then.read_half.left) ended one.served.cause in
    record {
      ended = ended;
      at_end = cause.1;
      fits = one.served.fits.0 uncut;
      text = one.served.says.0;
      is_text = one.served.says.1;
      written = fresh_written one.link.written one.link_then.written one.served.bytes one.served.says.0 one.fresh.unwritten one.served.written (one.served.says.3 uncut);
    }

not_last : (end : SessionEnd) → end ≡ Ended → is_last_end end ≡ false
not_last end is = ap is_last_end is

module _ {plant : PlantData} {panel turns : ℕ} where
  abbrev NoFault : LinkServed plant panel turns → Type 0
  NoFault one = is_link_fault one.end ≡ false

  abbrev NoLimit : LinkServed plant panel turns → Type 0
  NoLimit one = is_limit one.end ≡ false

  abbrev NoTear : LinkServed plant panel turns → Type 0
  NoTear one = trace_failed_at one.end ≡ false

  links_whole : (links : List (LinkServed plant panel turns)) → All NoFault links → All NoLimit links → All NoTear links → All IsServedWhole links
  links_whole [] fault limit tear = All-nil IsServedWhole
  links_whole (one ∷ later) fault limit tear =
      All-cons IsServedWhole one later (link_whole one (is_ended one.end (All-head NoFault one later fault) (All-head NoLimit one later limit) (All-head NoTear one later tear)))
      (links_whole later (All-tail NoFault one later fault) (All-tail NoLimit one later limit) (All-tail NoTear one later tear))

  abbrev IsNotLast : LinkServed plant panel turns → Type 0
  IsNotLast one = is_last_end one.end ≡ false

  none_last : (links : List (LinkServed plant panel turns)) → All IsServedWhole links → All IsNotLast links
  none_last [] whole = All-nil IsNotLast
  none_last (one ∷ later) whole =
      All-cons IsNotLast one later (not_last one.end (All-head IsServedWhole one later whole).ended) (none_last later (All-tail IsServedWhole one later whole))

pub panel_whole : {plant : PlantData} {lock : LockData State} {past : List PlantEntry} (run : PanelRun plant lock past) → run.done.link_faults ≡ 0 → run.done.limits ≡ 0 → run.done.refused ≡ false
    → run.done.trace_failed ≡ false → IsPanelWhole run
panel_whole {plant} run link_faults limits refused trace =
    let links = run.served.links in
    let fault = none_so (λ (one : LinkServed plant run.panel plant.server.turns). is_link_fault one.end) links (sym run.served.link_faults ∙ link_faults) in
    let limit = none_so (λ (one : LinkServed plant run.panel plant.server.turns). is_limit one.end) links (sym run.served.limits ∙ limits) in
    let tear = none_so (λ (one : LinkServed plant run.panel plant.server.turns). trace_failed_at one.end) links
    (is_none (that_ended trace_failed_at links) (λ some. false≢true (sym trace ∙ (run.served.torn some).0))) in
    let whole = links_whole links fault limit tear in
    record {
      links = whole;
      none_left = no_session run.acceptor_then.sessions (λ left. elim (run.served.sessions_left left) [
        | inl none ↦ false≢true (sym refused ∙ none)
        | inr last ↦ last (all_out (λ (one : LinkServed plant run.panel plant.server.turns). is_last_end one.end) links (none_last links whole))
      ]);
    }
