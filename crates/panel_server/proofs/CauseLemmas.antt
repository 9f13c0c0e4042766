-- Where a fault of the net is counted, the net's count of objects that came back with faults rose.
use Rattle.std.proofs.Common.{◌≡◌, ℕ, zero, suc, ◌+◌, ◌<◌, ◌≤◌, Bool, true, false, ◌||◌, cond, List, [], ◌∷◌, length, map, filter, sum_by, refl, sym, ap, subst, arith}
use Rattle.std.proofs.lemmas.Bool.{lt-ltb}
use Rattle.std.proofs.lemmas.List.Sums.{sum_by-cons}
use Rattle.ctl_io.specs.Faults.{Rose, count_after, is_faulty}
use Rattle.ctl_net.specs.Net.{AcceptorEnd, ends_faulty}
use Rattle.history_lock.specs.History.{entries_of}
use Rattle.history_lock.specs.Locks.{LockData}
use Rattle.plant_config.specs.Plant.{PlantData}
use Rattle.plant_core.specs.State.{State}
use Rattle.panel_session.specs.Entry.{PlantEntry}
use Rattle.panel_server.specs.declared.displays.DriverEnd.{DriverEnd}
use Rattle.panel_server.specs.declared.displays.DriverEnd.TheVariants.{Finished, TraceFault, Full, NoMemory}
use Rattle.panel_server.specs.Driven.{EndsSo, LampSend, faults_after, was_lost}
use Rattle.panel_server.specs.PanelServed.{LinkServed, faults_back, is_link_fault, that_ended}
use Rattle.panel_server.specs.PlantServed.{DisplayRun, PanelRun, faulty_back, lost_at}
use Rattle.panel_server.specs.ServeInside.{one_if}

count_rose : (before : ℕ) → Rose before (count_after true before)
count_rose before = omega arith

count_kept : (failed : Bool) (before : ℕ) → before ≤ count_after failed before
count_kept true before = omega arith
count_kept false before = omega arith

count_some : (failed : Bool) (before : ℕ) → 0 < before + one_if failed → 0 < count_after failed before
count_some true before some = omega (arith, some)
count_some false before some = omega (arith, some)

rose_more : (before mid now : ℕ) → Rose before mid → mid ≤ now → Rose before now
rose_more before mid now rose later = omega (arith, rose, later)

more_rose : (before mid now : ℕ) → before ≤ mid → Rose mid now → Rose before now
more_rose before mid now earlier rose = omega (arith, earlier, rose)

is_more : (n : ℕ) → 0 < n → is_faulty n ≡ true
is_more n some = lt-ltb 0 n some

or_one : (one other : Bool) → one ≡ true → (one || other) ≡ true
or_one one other is = ap (λ (b : Bool). b || other) is

or_other : (one other : Bool) → other ≡ true → (one || other) ≡ true
or_other true other is = refl
or_other false other is = is

-- an object with one fault of the two kinds is faulty
some_faulty : (next_faults done_faults : ℕ) → 0 < next_faults + done_faults → ends_faulty next_faults done_faults ≡ true
some_faulty zero done_faults some = or_other (is_faulty 0) (is_faulty done_faults) (is_more done_faults (omega (arith, some)))
some_faulty (suc next_faults) done_faults some = or_one (is_faulty (suc next_faults)) (is_faulty done_faults) (is_more (suc next_faults) (omega arith))

faulty_kept : (ends : List AcceptorEnd) (count : ℕ) → count ≤ faulty_back ends count
faulty_kept [] count = omega arith
faulty_kept (one ∷ later) count =
    let first : count ≤ count_after (ends_faulty one.next_faults one.done_faults) count = count_kept (ends_faulty one.next_faults one.done_faults) count in
    let rest : count_after (ends_faulty one.next_faults one.done_faults) count ≤ faulty_back later (count_after (ends_faulty one.next_faults one.done_faults) count) = faulty_kept later (count_after (ends_faulty one.next_faults one.done_faults) count) in
    omega (arith, first, rest)

filter_first : {X : Type 0} (so : Bool) (first : X) (later : List X) → length (cond so (first ∷ later) later) ≡ one_if so + length later
filter_first true first later = omega arith
filter_first false first later = omega arith

links_first : (so : Bool) (count rest : ℕ) → 0 < count + (one_if so + rest) → 0 < count_after so count + rest
links_first true count rest some = omega arith
links_first false count rest some = omega (arith, some)

-- links that ended by a fault raise the count of their acceptor
links_faulty : {plant : PlantData} {panel turns : ℕ} (links : List (LinkServed plant panel turns)) (count : ℕ) → 0 < count + length (that_ended is_link_fault links) → 0 < faults_back links count
links_faulty [] count some = omega (arith, some)
links_faulty (one ∷ later) count some =
    let so = is_link_fault one.end in
    let all : length (that_ended is_link_fault (one ∷ later)) ≡ one_if so + length (that_ended is_link_fault later) = filter_first so one (that_ended is_link_fault later) in
    links_faulty later (count_after so count) (links_first so count (length (that_ended is_link_fault later)) (omega (arith, some, all)))

sends_faulty : (sends : List LampSend) (count : ℕ) → 0 < count + length (filter was_lost sends) → 0 < faults_after sends count
sends_faulty [] count some = omega (arith, some)
sends_faulty (send ∷ later) count some =
    let so = was_lost send in
    let all : length (filter was_lost (send ∷ later)) ≡ one_if so + length (filter was_lost later) = filter_first so send (filter was_lost later) in
    sends_faulty later (count_after so count) (links_first so count (length (filter was_lost later)) (omega (arith, some, all)))

lost_sends : (end : DriverEnd) (plant : PlantData) (new own : List PlantEntry) (sends : List LampSend) → EndsSo end plant new own sends → 0 < lost_at end → 0 < length (filter was_lost sends)
lost_sends (Finished sent failed) plant new own sends ends some = omega (arith, ends.2, some)
lost_sends TraceFault plant new own sends ends some = absurd (omega (arith, some))
lost_sends Full plant new own sends ends some = absurd (omega (arith, some))
lost_sends NoMemory plant new own sends ends some = absurd (omega (arith, some))

one_of_both : (so : Bool) (link_faults next done : ℕ) → 0 < link_faults + one_if so → (0 < one_if so → 0 < next) → (0 < link_faults → 0 < done) → 0 < next + done
one_of_both true link_faults next done some by_next by_done =
    let first : 0 < next = by_next (omega arith) in
    omega (arith, first)
one_of_both false link_faults next done some by_next by_done =
    let second : 0 < done = by_done (omega (arith, some)) in
    omega (arith, second)

-- the first of acceptors, or a later one
first_or_later : (first later : ℕ) (so : Bool) (ends : List AcceptorEnd) (count : ℕ) → 0 < first + later → (0 < first → so ≡ true)
    → (0 < later → Rose (count_after so count) (faulty_back ends (count_after so count))) → Rose count (faulty_back ends (count_after so count))
first_or_later zero later so ends count some by_first by_later =
    more_rose count (count_after so count) (faulty_back ends (count_after so count)) (count_kept so count) (by_later (omega (arith, some)))
first_or_later (suc first) later so ends count some by_first by_later =
    let is : so ≡ true = by_first (omega arith) in
    subst (λ (b : Bool). Rose count (faulty_back ends (count_after b count))) (sym is)
    (rose_more count (count_after true count) (faulty_back ends (count_after true count)) (count_rose count) (faulty_kept ends (count_after true count)))

-- the port, or an acceptor
last_or_former : (last former : ℕ) (so : Bool) (ends : List AcceptorEnd) (count : ℕ) → 0 < former + last → (0 < last → so ≡ true)
    → (0 < former → Rose count (faulty_back ends count)) → Rose count (count_after so (faulty_back ends count))
last_or_former zero former so ends count some by_last by_former =
    rose_more count (faulty_back ends count) (count_after so (faulty_back ends count)) (by_former (omega (arith, some))) (count_kept so (faulty_back ends count))
last_or_former (suc last) former so ends count some by_last by_former =
    let is : so ≡ true = by_last (omega arith) in
    subst (λ (b : Bool). Rose count (count_after b (faulty_back ends count))) (sym is)
    (more_rose count (faulty_back ends count) (count_after true (faulty_back ends count)) (faulty_kept ends count) (count_rose (faulty_back ends count)))

module _ {plant : PlantData} {lock : LockData State} {past : List PlantEntry} where
  -- a panel of which a fault is counted
  run_faulty : (run : PanelRun plant lock past) → 0 < run.done.link_faults + one_if run.done.refused → ends_faulty run.acceptor_then.next_faults run.acceptor_then.done_faults ≡ true
  run_faulty run some =
      let next : run.acceptor_then.next_faults ≡ count_after run.done.refused run.acceptor.next_faults = run.served.next_count in
      let done : run.acceptor_then.done_faults ≡ faults_back run.served.links run.acceptor.done_faults = run.served.done_count in
      let links : run.done.link_faults ≡ length (that_ended is_link_fault run.served.links) = run.served.link_faults in
      some_faulty run.acceptor_then.next_faults run.acceptor_then.done_faults
      (one_of_both run.done.refused run.done.link_faults run.acceptor_then.next_faults run.acceptor_then.done_faults some
      (λ one. let more : 0 < count_after run.done.refused run.acceptor.next_faults = count_some run.done.refused run.acceptor.next_faults (omega (arith, one)) in omega (arith, next, more))
      (λ one. let more : 0 < faults_back run.served.links run.acceptor.done_faults = links_faulty run.served.links run.acceptor.done_faults (omega (arith, one, links)) in omega (arith, done, more)))

  -- the same of one of many
  panels_rose : (panels : List (PanelRun plant lock past)) (count : ℕ)
      → 0 < sum_by (λ run. run.done.link_faults) panels + length (filter (λ run. run.done.refused) panels)
      → Rose count (faulty_back (map (λ run. run.acceptor_then) panels) count)
  panels_rose [] count some = absurd (omega (arith, some))
  panels_rose (run ∷ panels) count some =
      let Run = PanelRun plant lock past in
      let so = ends_faulty run.acceptor_then.next_faults run.acceptor_then.done_faults in
      let ends = map (λ (run : Run). run.acceptor_then) panels in
      let link_faults : sum_by (λ (run : Run). run.done.link_faults) (run ∷ panels) ≡ run.done.link_faults + sum_by (λ (run : Run). run.done.link_faults) panels = sum_by-cons (λ (run : Run). run.done.link_faults) run panels in
      let refused : length (filter (λ (run : Run). run.done.refused) (run ∷ panels)) ≡ one_if run.done.refused + length (filter (λ (run : Run). run.done.refused) panels) = filter_first run.done.refused run (filter (λ (run : Run). run.done.refused) panels) in
      first_or_later (run.done.link_faults + one_if run.done.refused) (sum_by (λ (run : Run). run.done.link_faults) panels + length (filter (λ (run : Run). run.done.refused) panels)) so ends count
      (omega (arith, some, link_faults, refused)) (run_faulty run) (panels_rose panels (count_after so count))

module _ {P : Type 0} {WasSent : P → List (List ℕ) → Type 0} {faults : P → ℕ} {plant : PlantData} {lock : LockData State} {past : List PlantEntry} where
  -- what is counted of all shows in the net's count
  pub cause_of : (panels : List (PanelRun plant lock past)) (displays : DisplayRun WasSent faults plant lock past) (net_faults before : ℕ)
      → net_faults ≡ sum_by (λ run. run.done.link_faults) panels + length (filter (λ run. run.done.refused) panels) + lost_at displays.end → 0 < net_faults
      → Rose before (count_after (is_faulty (faults displays.port_then)) (faulty_back (map (λ run. run.acceptor_then) panels) before))
  cause_of panels displays net_faults before is some =
      let Run = PanelRun plant lock past in
      let ends = map (λ (run : Run). run.acceptor_then) panels in
      let lost : 0 < lost_at displays.end → is_faulty (faults displays.port_then) ≡ true = (λ one.
      let more : 0 < faults_after displays.driven.sends (faults displays.port) = sends_faulty displays.driven.sends (faults displays.port) (omega (arith, lost_sends displays.end plant displays.driven.new (entries_of (length plant.panels) displays.driven.new) displays.driven.sends displays.driven.ends one)) in
      let count : faults displays.port_then ≡ faults_after displays.driven.sends (faults displays.port) = displays.driven.port_count in
      is_more (faults displays.port_then) (omega (arith, count, more))) in
      last_or_former (lost_at displays.end) (sum_by (λ (run : Run). run.done.link_faults) panels + length (filter (λ (run : Run). run.done.refused) panels)) (is_faulty (faults displays.port_then)) ends before
      (omega (arith, is, some)) lost (panels_rose panels before)
