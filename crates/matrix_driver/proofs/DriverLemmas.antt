-- What stays true of a driver, whatever happens to it.
use Rattle.std.proofs.Common.{◌≡◌, ◌≢◌, ◌⊎◌, ℕ, ◌<◌, ◌≤◌, nat_eq, Bool, true, false, not, cond, ◌||◌, is_some, Option, Some, None, find, inl, inr, refl, sym, ap, subst, ◌∙◌, arith}
use Rattle.std.proofs.lemmas.Bool.{cases_eq, cases_lt, false≢true}
use Rattle.std.specs.List.{range_with_len}
use Rattle.std.specs.Ordering.{nat_cmp}
use Rattle.std.specs.Option.{option_map, option_map_or, option_and_then, option_eq}
use Rattle.std.specs.FinMap as finite
use Rattle.number_tables.specs.Table.{Entries}
use Rattle.number_tables.proofs.PutLemmas.{get-put, get-put_same, get-put_other}
use Rattle.swp08_messages.specs.declared.message.Message.{Message}
use Rattle.matrix_driver.specs.declared.crosspoint.Crosspoint.{Crosspoint}
use Rattle.matrix_driver.specs.declared.level.Level.{Level}
use Rattle.matrix_driver.specs.declared.event.DriverEvent.{DriverEvent}
use Rattle.matrix_driver.specs.declared.event.DriverEvent.TheVariants.{Want, Heard, Nak, Timeout}
use Rattle.matrix_driver.specs.Levels.{IsLevel, IsOf}
use Rattle.matrix_driver.specs.Messages.{is_answer}
use Rattle.matrix_driver.specs.Progress.{Progress, blank, crosspoint_of, is_settled, is_due, next, noted, settled_at, opened}
use Rattle.matrix_driver.specs.Driver.{Data, start, sends, wants, made, hears, happens, MayCome}
use Rattle.matrix_driver.specs.DriverInside.{IsProgressOf, IsDriver}
use Rattle.matrix_driver.proofs.ProgressLemmas.{due_of, due_wanted}
use Rattle.matrix_driver.proofs.Searches.{found_passes, none_passes}

-- What is due, where a source is wanted, settled or opened.
pub noted_due_here : (progress : Progress) (crosspoint : Crosspoint) → is_due (noted progress crosspoint) crosspoint.dest ≡ not (is_settled progress crosspoint)
noted_due_here progress crosspoint =
    ap (λ wanted. due_of wanted (finite.get progress.settled crosspoint.dest)) (get-put_same progress.wants crosspoint.dest (Some crosspoint.source))

pub noted_due_there : (progress : Progress) (crosspoint : Crosspoint) (dest : ℕ) → dest ≢ crosspoint.dest → is_due (noted progress crosspoint) dest ≡ is_due progress dest
noted_due_there progress crosspoint dest apart =
    ap (λ wanted. due_of wanted (finite.get progress.settled dest)) (get-put_other progress.wants crosspoint.dest (Some crosspoint.source) dest apart)

pub opened_due_here : (progress : Progress) (dest : ℕ) → is_due progress dest ≡ true → is_due (opened progress dest) dest ≡ true
opened_due_here progress dest due =
    ap (due_of (finite.get progress.wants dest)) (get-put_same progress.settled dest None)
    ∙ due_wanted (finite.get progress.wants dest) (finite.get progress.settled dest) due

pub opened_unsettled : (progress : Progress) (dest : ℕ) → finite.get (opened progress dest).settled dest ≡ None
opened_unsettled progress dest = get-put_same progress.settled dest None

-- What is wanted stays of the level.
pub IsProgress-noted : (level : Level) (progress : Progress) (crosspoint : Crosspoint) → IsProgressOf level progress → IsOf level crosspoint → IsProgressOf level (noted progress crosspoint)
IsProgress-noted level progress crosspoint is of = record {
  room = is.room;
  wanted = λ dest source e. by dest source e (cases_eq dest crosspoint.dest);
}
  where
    by : (dest : ℕ) (source : Option ℕ) → finite.get (noted progress crosspoint).wants dest ≡ Some source → (dest ≡ crosspoint.dest) ⊎ (dest ≢ crosspoint.dest) → IsOf level (crosspoint_of dest source)
    by dest source e (inl same) =
        let put : finite.get (noted progress crosspoint).wants dest ≡ Some crosspoint.source =
        ap (finite.get (noted progress crosspoint).wants) same ∙ get-put_same progress.wants crosspoint.dest (Some crosspoint.source) in
        let equal : crosspoint.source ≡ source = cc in
        subst (λ source. IsOf level (crosspoint_of dest source)) equal
        (subst (λ dest. IsOf level (crosspoint_of dest crosspoint.source)) (sym same) (record { dest = of.dest; source = of.source }))
    by dest source e (inr apart) =
        is.wanted dest source (sym (get-put_other progress.wants crosspoint.dest (Some crosspoint.source) dest apart) ∙ e)

pub IsProgress-settled : (level : Level) (progress : Progress) (crosspoint : Crosspoint) → IsProgressOf level progress → IsProgressOf level (settled_at progress crosspoint)
IsProgress-settled level progress crosspoint is = record { room = is.room; wanted = is.wanted }

pub IsProgress-opened : (level : Level) (progress : Progress) (dest : ℕ) → IsProgressOf level progress → IsProgressOf level (opened progress dest)
IsProgress-opened level progress dest is = record { room = is.room; wanted = is.wanted }

-- A destination that is due is wanted, and isn't settled at its wanted source.
pub record IsNext (progress : Progress) (crosspoint : Crosspoint) : Type 0 where
  pub wanted : finite.get progress.wants crosspoint.dest ≡ Some crosspoint.source
  pub due : is_due progress crosspoint.dest ≡ true

-- which is next, by what was found
next_by : (progress : Progress) (found : Option ℕ) → find (is_due progress) (range_with_len 0 progress.room) ≡ found → (crosspoint : Crosspoint) → option_and_then (λ dest. option_map (crosspoint_of dest) (finite.get progress.wants dest)) found ≡ Some crosspoint → IsNext progress crosspoint
next_by progress None is crosspoint e = cc
next_by progress (Some dest) is crosspoint e = by (finite.get progress.wants dest) refl
  where
    by : (wanted : Option (Option ℕ)) → finite.get progress.wants dest ≡ wanted → IsNext progress crosspoint
    by None none =
        let wrong : None ≡ Some crosspoint = sym (ap (option_map (crosspoint_of dest)) none) ∙ e in
        cc
    by (Some source) some =
        let same : Some (crosspoint_of dest source) ≡ Some crosspoint = sym (ap (option_map (crosspoint_of dest)) some) ∙ e in
        let equal : crosspoint_of dest source ≡ crosspoint = cc in
        subst (IsNext progress) equal (record { wanted = some; due = found_passes (is_due progress) (range_with_len 0 progress.room) dest is })

pub next-IsNext : (progress : Progress) (crosspoint : Crosspoint) → next progress ≡ Some crosspoint → IsNext progress crosspoint
next-IsNext progress crosspoint e = next_by progress (find (is_due progress) (range_with_len 0 progress.room)) refl crosspoint e

pub IsNext-unsettled : (progress : Progress) (crosspoint : Crosspoint) → IsNext progress crosspoint → is_settled progress crosspoint ≡ false
IsNext-unsettled progress crosspoint is =
    by (is_settled progress crosspoint)
    (sym (ap (λ wanted. due_of wanted (finite.get progress.settled crosspoint.dest)) is.wanted) ∙ is.due)
  where
    by : (b : Bool) → not b ≡ true → b ≡ false
    by true e = sym e
    by false e = refl

-- where none is next, nothing is due
none_due_by : (level : Level) (progress : Progress) → IsProgressOf level progress → (found : Option ℕ) → find (is_due progress) (range_with_len 0 progress.room) ≡ found → option_and_then (λ dest. option_map (crosspoint_of dest) (finite.get progress.wants dest)) found ≡ None → (dest : ℕ) → is_due progress dest ≡ false
none_due_by level progress of (Some lowest) is e dest = by (finite.get progress.wants lowest) refl
  where
    by : (wanted : Option (Option ℕ)) → finite.get progress.wants lowest ≡ wanted → is_due progress dest ≡ false
    by None none =
        absurd (false≢true (sym (ap (λ wanted. due_of wanted (finite.get progress.settled lowest)) none)
        ∙ found_passes (is_due progress) (range_with_len 0 progress.room) lowest is))
    by (Some source) some =
        let wrong : Some (crosspoint_of lowest source) ≡ None = sym (ap (option_map (crosspoint_of lowest)) some) ∙ e in
        cc
none_due_by level progress of None is e dest = by (cases_lt dest progress.room) (finite.get progress.wants dest) refl
  where
    by : (dest < progress.room) ⊎ (progress.room ≤ dest) → (wanted : Option (Option ℕ)) → finite.get progress.wants dest ≡ wanted → is_due progress dest ≡ false
    by (inl below) wanted at = none_passes (is_due progress) 0 progress.room is dest (omega arith) (omega (arith, below))
    by (inr above) None at = ap (λ wanted. due_of wanted (finite.get progress.settled dest)) at
    by (inr above) (Some source) at = absurd (omega (arith, above, of.room, (of.wanted dest source at).dest))

pub next_none : (level : Level) (progress : Progress) → IsProgressOf level progress → next progress ≡ None → (dest : ℕ) → is_due progress dest ≡ false
next_none level progress of e dest = none_due_by level progress of (find (is_due progress) (range_with_len 0 progress.room)) refl e dest

-- a new driver
pub IsDriver-start : (level : Level) → IsLevel level → IsDriver (start level)
IsDriver-start level is = record {
  level = is;
  progress = record {
    room = refl;
    wanted = λ dest source e.
        let wrong : None ≡ Some source = sym (finite.get-empty nat_cmp dest) ∙ e in
        cc;
  };
  done = λ _ dest. ap (λ wanted. due_of wanted (finite.get (blank level.destinations).settled dest)) (finite.get-empty nat_cmp dest);
  sent = λ crosspoint e. cc;
  due = λ crosspoint e. cc;
  unsettled = λ crosspoint e. cc;
}

-- a driver that sends nothing, since nothing is due
pub IsDriver-quiet : (level : Level) (progress : Progress) → IsLevel level → IsProgressOf level progress → ((dest : ℕ) → is_due progress dest ≡ false) → IsDriver (record { level = level; progress = progress; outstanding = None })
IsDriver-quiet level progress is of none = record {
  level = is;
  progress = of;
  done = λ _ dest. none dest;
  sent = λ crosspoint e. cc;
  due = λ crosspoint e. cc;
  unsettled = λ crosspoint e. cc;
}

-- a driver that sends a connect
pub IsDriver-sent : (level : Level) (progress : Progress) (crosspoint : Crosspoint) → IsLevel level → IsProgressOf level progress → IsOf level crosspoint → is_due progress crosspoint.dest ≡ true →
    IsDriver (record { level = level; progress = opened progress crosspoint.dest; outstanding = Some crosspoint })
IsDriver-sent level progress crosspoint is of at due = record {
  level = is;
  progress = IsProgress-opened level progress crosspoint.dest of;
  done = λ e. cc;
  sent = λ other e. subst (IsOf level) (same other e) at;
  due = λ other e. subst (λ (one : Crosspoint). is_due (opened progress crosspoint.dest) one.dest ≡ true) (same other e) (opened_due_here progress crosspoint.dest due);
  unsettled = λ other e. subst (λ (one : Crosspoint). finite.get (opened progress crosspoint.dest).settled one.dest ≡ None) (same other e) (opened_unsettled progress crosspoint.dest);
}
  where
    same : (other : Crosspoint) → Some crosspoint ≡ Some other → crosspoint ≡ other
    same other e = cc

-- a driver of which something is wanted, and which doesn't send it now
pub IsDriver-noted : (driver : Data) (crosspoint : Crosspoint) → IsDriver driver → IsOf driver.level crosspoint → (is_some driver.outstanding || is_settled driver.progress crosspoint) ≡ true → IsDriver (record { level = driver.level; progress = noted driver.progress crosspoint; outstanding = driver.outstanding })
IsDriver-noted driver crosspoint is of busy = record {
  level = is.level;
  progress = IsProgress-noted driver.level driver.progress crosspoint is.progress of;
  done = λ none dest. done none dest (cases_eq dest crosspoint.dest);
  sent = is.sent;
  due = λ other e. due other e (cases_eq other.dest crosspoint.dest);
  unsettled = is.unsettled;
}
  where
    done : driver.outstanding ≡ None → (dest : ℕ) → (dest ≡ crosspoint.dest) ⊎ (dest ≢ crosspoint.dest) → is_due (noted driver.progress crosspoint) dest ≡ false
    done none dest (inl same) =
        let settled : is_settled driver.progress crosspoint ≡ true =
        sym (ap (λ outstanding. is_some outstanding || is_settled driver.progress crosspoint) none) ∙ busy in
        ap (is_due (noted driver.progress crosspoint)) same ∙ noted_due_here driver.progress crosspoint ∙ ap not settled
    done none dest (inr apart) = noted_due_there driver.progress crosspoint dest apart ∙ is.done none dest

    due : (other : Crosspoint) → driver.outstanding ≡ Some other → (other.dest ≡ crosspoint.dest) ⊎ (other.dest ≢ crosspoint.dest) → is_due (noted driver.progress crosspoint) other.dest ≡ true
    due other e (inl same) =
        let unsettled : finite.get driver.progress.settled crosspoint.dest ≡ None = ap (finite.get driver.progress.settled) (sym same) ∙ is.unsettled other e in
        ap (is_due (noted driver.progress crosspoint)) same ∙ noted_due_here driver.progress crosspoint
        ∙ ap (λ at. not (option_map_or (λ source. option_eq nat_eq source crosspoint.source) at false)) unsettled
    due other e (inr apart) = noted_due_there driver.progress crosspoint other.dest apart ∙ is.due other e

-- a driver that sends what it is to send next, where there is something
pub IsDriver-sends : (level : Level) (progress : Progress) → IsLevel level → IsProgressOf level progress → (following : Option Crosspoint) → next progress ≡ following → IsDriver (sends level progress following).driver
IsDriver-sends level progress is of None e = IsDriver-quiet level progress is of (next_none level progress of e)
IsDriver-sends level progress is of (Some crosspoint) e =
    let at = next-IsNext progress crosspoint e in
    IsDriver-sent level progress crosspoint is of (record { dest = (of.wanted crosspoint.dest crosspoint.source at.wanted).dest; source = (of.wanted crosspoint.dest crosspoint.source at.wanted).source }) at.due

pub IsDriver-made : (driver : Data) (crosspoint : Crosspoint) → IsDriver driver → IsDriver (made driver crosspoint).driver
IsDriver-made driver crosspoint is =
    IsDriver-sends driver.level (settled_at driver.progress crosspoint) is.level (IsProgress-settled driver.level driver.progress crosspoint is.progress)
    (next (settled_at driver.progress crosspoint)) refl

-- what is wanted and isn't settled is due
pub unsettled_due : (progress : Progress) (crosspoint : Crosspoint) → is_settled progress crosspoint ≡ false → is_due (noted progress crosspoint) crosspoint.dest ≡ true
unsettled_due progress crosspoint e = noted_due_here progress crosspoint ∙ ap not e

pub IsDriver-wants : (driver : Data) (crosspoint : Crosspoint) → IsDriver driver → IsOf driver.level crosspoint → IsDriver (wants driver crosspoint).driver
IsDriver-wants driver crosspoint is of = by (is_some driver.outstanding || is_settled driver.progress crosspoint) refl
  where
    unsettled : (one : Bool) → (one || is_settled driver.progress crosspoint) ≡ false → is_settled driver.progress crosspoint ≡ false
    unsettled true e = cc
    unsettled false e = e

    by : (b : Bool) → (is_some driver.outstanding || is_settled driver.progress crosspoint) ≡ b → IsDriver (wants driver crosspoint).driver
    by true e = rw e (IsDriver-noted driver crosspoint is of e)
    by false e =
        rw e
        (IsDriver-sent driver.level (noted driver.progress crosspoint) crosspoint is.level (IsProgress-noted driver.level driver.progress crosspoint is.progress of) of
        (unsettled_due driver.progress crosspoint (unsettled (is_some driver.outstanding) e)))

IsDriver-hears : (driver : Data) (outstanding : Option Crosspoint) (message : Message) → IsDriver driver → IsDriver (hears driver outstanding message).driver
IsDriver-hears driver None message is = is
IsDriver-hears driver (Some crosspoint) message is = by (is_answer driver.level crosspoint message) refl
  where
    by : (b : Bool) → is_answer driver.level crosspoint message ≡ b → IsDriver (hears driver (Some crosspoint) message).driver
    by true e = rw e (IsDriver-made driver crosspoint is)
    by false e = rw e is

pub IsDriver-happens : (driver : Data) (event : DriverEvent) → IsDriver driver → MayCome driver.level event → IsDriver (happens driver event).driver
IsDriver-happens driver (Want dest source) is may = IsDriver-wants driver (crosspoint_of dest source) is may
IsDriver-happens driver (Heard message) is may = IsDriver-hears driver driver.outstanding message is
IsDriver-happens driver Nak is may = is
IsDriver-happens driver Timeout is may = is

-- a driver drives one level
sends_level : (level : Level) (progress : Progress) (following : Option Crosspoint) → (sends level progress following).driver.level ≡ level
sends_level level progress None = refl
sends_level level progress (Some crosspoint) = refl

wants_level : (driver : Data) (crosspoint : Crosspoint) → (wants driver crosspoint).driver.level ≡ driver.level
wants_level driver crosspoint = by (is_some driver.outstanding || is_settled driver.progress crosspoint) refl
  where
    by : (b : Bool) → (is_some driver.outstanding || is_settled driver.progress crosspoint) ≡ b → (wants driver crosspoint).driver.level ≡ driver.level
    by true e = rw e refl
    by false e = rw e refl

hears_level : (driver : Data) (outstanding : Option Crosspoint) (message : Message) → (hears driver outstanding message).driver.level ≡ driver.level
hears_level driver None message = refl
hears_level driver (Some crosspoint) message = by (is_answer driver.level crosspoint message) refl
  where
    by : (b : Bool) → is_answer driver.level crosspoint message ≡ b → (hears driver (Some crosspoint) message).driver.level ≡ driver.level
    by true e = rw e (sends_level driver.level (settled_at driver.progress crosspoint) (next (settled_at driver.progress crosspoint)))
    by false e = rw e refl

pub happens_level : (driver : Data) (event : DriverEvent) → (happens driver event).driver.level ≡ driver.level
happens_level driver (Want dest source) = wants_level driver (crosspoint_of dest source)
happens_level driver (Heard message) = hears_level driver driver.outstanding message
happens_level driver Nak = refl
happens_level driver Timeout = refl

-- what is wanted of each destination after something happened
sends_wants : (level : Level) (progress : Progress) (following : Option Crosspoint) → (sends level progress following).driver.progress.wants ≡ progress.wants
sends_wants level progress None = refl
sends_wants level progress (Some crosspoint) = refl

wants_wants : (driver : Data) (crosspoint : Crosspoint) → (wants driver crosspoint).driver.progress.wants ≡ (noted driver.progress crosspoint).wants
wants_wants driver crosspoint = by (is_some driver.outstanding || is_settled driver.progress crosspoint) refl
  where
    by : (b : Bool) → (is_some driver.outstanding || is_settled driver.progress crosspoint) ≡ b → (wants driver crosspoint).driver.progress.wants ≡ (noted driver.progress crosspoint).wants
    by true e = rw e refl
    by false e = rw e refl

pub hears_wants : (driver : Data) (outstanding : Option Crosspoint) (message : Message) → (hears driver outstanding message).driver.progress.wants ≡ driver.progress.wants
hears_wants driver None message = refl
hears_wants driver (Some crosspoint) message = by (is_answer driver.level crosspoint message) refl
  where
    by : (b : Bool) → is_answer driver.level crosspoint message ≡ b → (hears driver (Some crosspoint) message).driver.progress.wants ≡ driver.progress.wants
    by true e = rw e (sends_wants driver.level (settled_at driver.progress crosspoint) (next (settled_at driver.progress crosspoint)))
    by false e = rw e refl

pub get-wanted : (driver : Data) (crosspoint : Crosspoint) (dest : ℕ) → finite.get (wants driver crosspoint).driver.progress.wants dest ≡ cond (nat_eq dest crosspoint.dest) (Some crosspoint.source) (finite.get driver.progress.wants dest)
get-wanted driver crosspoint dest =
    ap (λ (wants : Entries (Option ℕ)). finite.get wants dest) (wants_wants driver crosspoint)
    ∙ get-put driver.progress.wants crosspoint.dest (Some crosspoint.source) dest
