-- What is true of each moment of a drive, and that each turn leaves less to do.
use Rattle.std.proofs.Common.{◌≡◌, ℕ, ◌+◌, ◌-◌, ◌*◌, ◌%◌, ◌<◌, ◌≤◌, nat_le, nat_lt, Bool, true, false, ◌||◌, ◌&&◌, is_some, is_none, cond, List, [], ◌∷◌, All, length, zero, suc, Option, Some, None, refl, sym, ap, subst, ◌∙◌, arith, leb-false, lt-ltb}
use Rattle.std.specs.Option.{option_to_list, option_map_or}
use Rattle.std.specs.Ordering.{nat_cmp}
use Rattle.std.specs.FinMap as finite
use Rattle.std.proofs.lemmas.List.Elements.{All-nil}
use Rattle.std.proofs.lemmas.Bool.{and_from}
use Rattle.swp08_messages.specs.declared.message.Message.{Message}
use Rattle.swp08_messages.specs.declared.message.Message.TheVariants.{Connect, ExtConnect}
use Rattle.matrix_driver.specs.declared.crosspoint.Crosspoint.{Crosspoint}
use Rattle.matrix_driver.specs.declared.event.DriverEvent.TheVariants.{Want, Heard, Timeout}
use Rattle.matrix_driver.specs.Messages.{is_short, point, connect}
use Rattle.matrix_driver.specs.Progress.{crosspoint_of, is_settled}
use Rattle.matrix_driver.specs.Driver.{Data, happens, wants, message_of, answer}
use Rattle.matrix_driver.specs.World.{told_by}
use Rattle.command_drive.specs.Drive.{Drive, bench_level, lost_to_frame, put_one, put, start, comes, takes, hears, turned, turn, turns, want, wanted, most_sent, is_over}
use Rattle.command_drive.specs.DriveInside.{IsBench, IsConnect, IsEmptyLine, IsRegular}
use Rattle.command_drive.proofs.PutLemmas.{put_length, one_put, few_sent, few_told, none_else}
use Rattle.command_drive.proofs.OutcomeLemmas.{IsBenchOutcome, outcome_want, outcome_heard, outcome_overdue}

-- the connect of a crosspoint of the bench level
short_bench : (crosspoint : Crosspoint) → IsBench crosspoint → is_short crosspoint ≡ true
short_bench crosspoint is =
    ap (λ source. nat_lt crosspoint.dest 1024 && option_map_or (λ source. nat_lt source 1023) source true) is.is
    ∙ and_from (nat_lt crosspoint.dest 1024) (nat_lt is.source 1023) (lt-ltb crosspoint.dest 1024 (omega (arith, is.dest))) (lt-ltb is.source 1023 (omega (arith, is.few)))

connect_bench : (crosspoint : Crosspoint) (is : IsBench crosspoint) → connect bench_level crosspoint ≡ Connect (point bench_level crosspoint.dest) (Some is.source)
connect_bench crosspoint is =
    ap (λ b. cond b (Connect (point bench_level crosspoint.dest) crosspoint.source) (ExtConnect (point bench_level crosspoint.dest) crosspoint.source)) (short_bench crosspoint is)
    ∙ ap (Connect (point bench_level crosspoint.dest)) is.is

asks_bench : (driver : Data) (crosspoint : Crosspoint) → driver.level ≡ bench_level → IsBench crosspoint → IsConnect (connect driver.level crosspoint)
asks_bench driver crosspoint level is = record {
  dest = crosspoint.dest;
  source = is.source;
  dest_few = is.dest;
  source_few = is.few;
  asks = ap (λ level. connect level crosspoint) level ∙ connect_bench crosspoint is;
}

pub regular_start : IsRegular start
regular_start = record {
  is_driver = record {
    level = refl;
    wants = λ dest source e.
        let wrong : None ≡ Some source = sym (finite.get-empty nat_cmp dest) ∙ e in
        cc;
    outstanding = λ crosspoint e. cc;
  };
  asked = All-nil IsConnect;
  one = omega arith;
  idle = λ e. (refl, refl);
  told = omega arith;
}

-- ---- an event

-- a driver comes to this, and these messages are put on the way to the frame
abbrev comes_with : Drive → Data → List Message → Drive
comes_with drive driver messages = record {
  world = record drive.world {
    driver = driver;
    to_frame = put lost_to_frame drive.sent drive.world.to_frame messages;
  };
  sent = drive.sent + length messages;
  told = drive.told;
}

regular_with : (drive : Drive) (driver : Data) (sent : Option Crosspoint) → IsRegular drive → IsBenchOutcome driver sent → (driver.outstanding ≡ None → IsEmptyLine drive.world)
    → ((crosspoint : Crosspoint) → sent ≡ Some crosspoint → IsEmptyLine drive.world) → IsRegular (comes_with drive driver (option_to_list (message_of drive.world.driver.level sent)))
regular_with drive driver None is out still empty = record {
  is_driver = out.is_driver;
  asked = is.asked;
  one = is.one;
  idle = still;
  told = omega (arith, is.told);
}
regular_with drive driver (Some crosspoint) is out still empty = record {
  is_driver = out.is_driver;
  asked = subst (λ way. All IsConnect (put_one lost_to_frame (suc drive.sent) way message)) (sym forth) (one_put IsConnect lost_to_frame (suc drive.sent) message asks);
  one = omega (arith, longer, ap (λ (xs : List Message). length xs) forth, ap (λ (xs : List Message). length xs) back);
  idle = λ e.
      let wrong : None ≡ Some crosspoint = sym e ∙ out.kept crosspoint refl in
      absurd cc;
  told = omega (arith, is.told, longer, ap (λ (xs : List Message). length xs) forth);
}
  where
    message : Message
    message = connect drive.world.driver.level crosspoint

    forth : drive.world.to_frame ≡ []
    forth = (empty crosspoint refl).0

    back : drive.world.to_driver ≡ []
    back = (empty crosspoint refl).1

    asks : IsConnect message
    asks = asks_bench drive.world.driver crosspoint is.is_driver.level (out.is_driver.outstanding crosspoint (out.kept crosspoint refl))

    longer : length (put lost_to_frame drive.sent drive.world.to_frame (message ∷ [])) ≤ length drive.world.to_frame + length (message ∷ [])
    longer = put_length lost_to_frame drive.sent drive.world.to_frame (message ∷ [])

-- a want of a crosspoint of the bench level
want_still : (drive : Drive) (crosspoint : Crosspoint) → IsRegular drive → (b : Bool) → (is_some drive.world.driver.outstanding || is_settled drive.world.driver.progress crosspoint) ≡ b
    → (wants drive.world.driver crosspoint).driver.outstanding ≡ None → IsEmptyLine drive.world
want_still drive crosspoint is true e h =
    let so : drive.world.driver.outstanding ≡ None = rw e at h in
    is.idle so
want_still drive crosspoint is false e h =
    let wrong : Some crosspoint ≡ None = rw e at h in
    absurd cc

quiet : (outstanding : Option Crosspoint) (settled : Bool) → (is_some outstanding || settled) ≡ false → outstanding ≡ None
quiet None settled e = refl
quiet (Some crosspoint) settled e = cc

pub sent_quiet : (driver : Data) (crosspoint : Crosspoint) (b : Bool) → (is_some driver.outstanding || is_settled driver.progress crosspoint) ≡ b → (other : Crosspoint) → (wants driver crosspoint).sent ≡ Some other → driver.outstanding ≡ None
sent_quiet driver crosspoint true e other h =
    let wrong : None ≡ Some other = rw e at h in
    absurd cc
sent_quiet driver crosspoint false e other h = quiet driver.outstanding (is_settled driver.progress crosspoint) e

pub regular_want : (drive : Drive) (dest : ℕ) (source : Option ℕ) → IsRegular drive → IsBench (crosspoint_of dest source) → IsRegular (comes drive (Want dest source))
regular_want drive dest source is bench =
    regular_with drive (happens drive.world.driver (Want dest source)).driver (happens drive.world.driver (Want dest source)).sent is (outcome_want drive.world.driver dest source is.is_driver bench)
    (want_still drive (crosspoint_of dest source) is (is_some drive.world.driver.outstanding || is_settled drive.world.driver.progress (crosspoint_of dest source)) refl)
    (λ other h. is.idle (sent_quiet drive.world.driver (crosspoint_of dest source) (is_some drive.world.driver.outstanding || is_settled drive.world.driver.progress (crosspoint_of dest source)) refl other h))

-- ---- a turn
abbrev with_rest : Drive → List Message → Drive
with_rest drive rest = record drive { world = record drive.world { to_driver = rest } }

regular_hears : (drive : Drive) (first : Message) (rest : List Message) → drive.world.to_driver ≡ first ∷ rest → IsRegular drive → IsRegular (hears drive first rest)
regular_hears drive first rest way is =
    regular_with (with_rest drive rest) (happens drive.world.driver (Heard first)).driver (happens drive.world.driver (Heard first)).sent less (outcome_heard drive.world.driver first is.is_driver) (λ e. none) (λ crosspoint e. none)
  where
    none : (drive.world.to_frame ≡ []) × (rest ≡ [])
    none = none_else drive.world.to_frame rest (omega (arith, is.one, ap (λ (xs : List Message). length xs) way))

    less : IsRegular (with_rest drive rest)
    less = record {
      is_driver = is.is_driver;
      asked = is.asked;
      one = omega (arith, is.one, ap (λ (xs : List Message). length xs) way);
      idle = λ e. none;
      told = is.told;
    }

regular_takes : (drive : Drive) (first : Message) (rest : List Message) → drive.world.to_frame ≡ first ∷ rest → IsRegular drive → IsRegular (takes drive first rest)
regular_takes drive first rest way is = record {
  is_driver = is.is_driver;
  asked = subst (λ way. All IsConnect way) (sym none.0) (All-nil IsConnect);
  one = omega (arith, is.one, ap (λ (xs : List Message). length xs) way, few_told first, put_length 5 drive.told drive.world.to_driver (told_by first));
  idle = λ e.
      let wrong : [] ≡ first ∷ rest = sym (is.idle e).0 ∙ way in
      absurd cc;
  told = omega (arith, is.told, few_told first, ap (λ (xs : List Message). length xs) way);
}
  where
    none : (rest ≡ []) × (drive.world.to_driver ≡ [])
    none = none_else rest drive.world.to_driver (omega (arith, is.one, ap (λ (xs : List Message). length xs) way))

regular_overdue : (drive : Drive) → drive.world.to_driver ≡ [] → drive.world.to_frame ≡ [] → IsRegular drive → IsRegular (comes drive Timeout)
regular_overdue drive back forth is =
    regular_with drive (happens drive.world.driver Timeout).driver (happens drive.world.driver Timeout).sent is (outcome_overdue drive.world.driver is.is_driver) (λ e. (forth, back)) (λ crosspoint e. (forth, back))

regular_turned : (drive : Drive) (back forth : List Message) → drive.world.to_driver ≡ back → drive.world.to_frame ≡ forth → IsRegular drive → IsRegular (turned drive back forth)
regular_turned drive (first ∷ rest) forth e h is = regular_hears drive first rest e is
regular_turned drive [] (first ∷ rest) e h is = regular_takes drive first rest h is
regular_turned drive [] [] e h is = regular_overdue drive e h is

pub regular_turn : (drive : Drive) → IsRegular drive → IsRegular (turn drive)
regular_turn drive is = regular_turned drive drive.world.to_driver drive.world.to_frame refl refl is

pub regular_turns : (count : ℕ) (drive : Drive) → IsRegular drive → IsRegular (turns count drive)
regular_turns zero drive is = is
regular_turns (suc count) drive is = regular_turns count (turn drive) (regular_turn drive is)

-- ---- the wants
pub bench_want : (number place : ℕ) → IsBench (crosspoint_of (place % 32) (Some ((number + place) % 32)))
bench_want number place = record { dest = omega arith; source = (number + place) % 32; is = refl; few = omega arith }

pub regular_wanted : (number wants : ℕ) → IsRegular (wanted number wants)
regular_wanted number zero = regular_start
regular_wanted number (suc place) = regular_want (wanted number place) (place % 32) (Some ((number + place) % 32)) (regular_wanted number place) (bench_want number place)

-- no more messages than wants are sent
pub few_wanted : (number wants : ℕ) → (wanted number wants).sent ≤ wants
few_wanted number zero = omega arith
few_wanted number (suc place) = omega (arith, few_wanted number place, few_sent (answer (wanted number place).world.driver (want number place)))

-- ---- what is left to do
abbrev pub left_in : Drive → ℕ
left_in drive = 3 * (most_sent - drive.sent) + 2 * length drive.world.to_frame + length drive.world.to_driver

going_sent : (drive : Drive) → is_over drive ≡ false → drive.sent < 4096
going_sent drive going = leb-false 4096 drive.sent (second (is_none drive.world.driver.outstanding) (nat_le most_sent drive.sent) going)
  where
    second : (a b : Bool) → (a || b) ≡ false → b ≡ false
    second true b e = cc
    second false b e = e

going_outstanding : (drive : Drive) → is_over drive ≡ false → (crosspoint : Crosspoint) × (drive.world.driver.outstanding ≡ Some crosspoint)
going_outstanding drive going = by drive.world.driver.outstanding refl
  where
    by : (outstanding : Option Crosspoint) → drive.world.driver.outstanding ≡ outstanding → (crosspoint : Crosspoint) × (drive.world.driver.outstanding ≡ Some crosspoint)
    by None e =
        let wrong : true ≡ false = sym (ap (λ outstanding. is_none outstanding || nat_le most_sent drive.sent) e) ∙ going in
        absurd cc
    by (Some crosspoint) e = (crosspoint, e)

less_hears : (drive : Drive) (first : Message) (rest : List Message) → drive.world.to_driver ≡ first ∷ rest → drive.sent < 4096 → left_in (hears drive first rest) < left_in drive
less_hears drive first rest way few =
    omega (arith, few, ap (λ (xs : List Message). length xs) way, few_sent (answer drive.world.driver (Heard first)), put_length 3 drive.sent drive.world.to_frame (option_to_list (answer drive.world.driver (Heard first))))

less_takes : (drive : Drive) (first : Message) (rest : List Message) → drive.world.to_frame ≡ first ∷ rest → left_in (takes drive first rest) < left_in drive
less_takes drive first rest way =
    omega (arith, ap (λ (xs : List Message). length xs) way, few_told first, put_length 5 drive.told drive.world.to_driver (told_by first))

less_overdue : (drive : Drive) (crosspoint : Crosspoint) → drive.world.driver.outstanding ≡ Some crosspoint → drive.sent < 4096 → left_in (comes drive Timeout) < left_in drive
less_overdue drive crosspoint some few =
    omega (arith, few, one, put_length 3 drive.sent drive.world.to_frame (option_to_list (answer drive.world.driver Timeout)))
  where
    one : length (option_to_list (answer drive.world.driver Timeout)) ≡ 1
    one = ap (λ outstanding. length (option_to_list (message_of drive.world.driver.level outstanding))) some

less_turned : (drive : Drive) (back forth : List Message) → drive.world.to_driver ≡ back → drive.world.to_frame ≡ forth → is_over drive ≡ false → left_in (turned drive back forth) < left_in drive
less_turned drive (first ∷ rest) forth e h going = less_hears drive first rest e (going_sent drive going)
less_turned drive [] (first ∷ rest) e h going = less_takes drive first rest h
less_turned drive [] [] e h going = let some = going_outstanding drive going in less_overdue drive some.0 some.1 (going_sent drive going)

pub less_turn : (drive : Drive) → is_over drive ≡ false → left_in (turn drive) < left_in drive
less_turn drive going = less_turned drive drive.world.to_driver drive.world.to_frame refl refl going
