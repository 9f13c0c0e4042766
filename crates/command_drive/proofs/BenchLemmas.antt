-- How the driver, the line and the frame stand for a drive.
use Rattle.std.proofs.Common.{◌≡◌, ℕ, ◌+◌, ◌<◌, ◌≤◌, true, false, List, [], ◌∷◌, All, length, suc, Option, Some, None, inl, inr, refl, sym, ap, subst, ◌∙◌, arith}
use Rattle.std.specs.Option.{option_to_list}
use Rattle.std.proofs.lemmas.List.Elements.{All-head}
use Rattle.std.proofs.lemmas.Bool.{cases_lt}
use Rattle.swp08_messages.specs.declared.message.Message.{Message}
use Rattle.matrix_driver.specs.declared.event.DriverEvent.{DriverEvent}
use Rattle.matrix_driver.specs.declared.event.DriverEvent.TheVariants.{Heard, Timeout}
use Rattle.matrix_driver.specs.Driver.{Data, happens, answer}
use Rattle.matrix_driver.specs.World.{Carried, made_by, told_by}
use Rattle.command_drive.specs.declared.way.Way.{Way}
use Rattle.command_drive.specs.declared.bench.Bench.{Bench}
use Rattle.command_drive.specs.Drive.{Drive, lost_to_frame, lost_to_driver, put_one, put, comes, takes, hears, turned, turn, turns, is_over}
use Rattle.command_drive.specs.DriveInside.{frames_of, Carries, HasSources, IsConnect, IsRegular, Shows, Stands, some_of, left, left_of, HasTurned, ComesToEnd}
use Rattle.command_drive.proofs.RegularLemmas.{left_in, less_turn, regular_turns}
use Rattle.command_drive.proofs.EndLemmas.{turns_more}
use Rattle.command_drive.proofs.WayLemmas.{none_on}

-- the same ways, with their count and their messages written otherwise
carries_as : (way : Way) (every count other : ℕ) (messages : List Message) → count ≡ other → Carries way every count messages → Carries way every other messages
carries_as way every count other messages same is = subst (λ n. Carries way every n messages) same is

-- ---- an event

-- nothing is sent
pub come_silent : (old new : Bench) (drive : Drive) (event : DriverEvent) → Shows old drive → None ≡ answer old.driver event → new.driver ≡ (happens old.driver event).driver
    → new.frame ≡ old.frame → new.to_frame ≡ old.to_frame → new.to_driver ≡ old.to_driver → Shows new (comes drive event)
come_silent old new drive event is none driver frame forth back = record {
  driver = driver ∙ ap (λ (d : Data). (happens d event).driver) is.driver;
  to_frame = subst (λ (sent : Option Message). Carries new.to_frame lost_to_frame (drive.sent + length (option_to_list sent)) (put lost_to_frame drive.sent drive.world.to_frame (option_to_list sent)))
      (none ∙ ap (λ (d : Data). answer d event) is.driver)
      (carries_as new.to_frame lost_to_frame drive.sent (drive.sent + 0) drive.world.to_frame (omega arith) (subst (λ (way : Way). Carries way lost_to_frame drive.sent drive.world.to_frame) (sym forth) is.to_frame));
  to_driver = subst (λ (way : Way). Carries way lost_to_driver drive.told drive.world.to_driver) (sym back) is.to_driver;
  sources = subst (λ it. HasSources it drive.world.carried) (sym frame) is.sources;
}

-- a message is sent
pub come_sent : (old new : Bench) (drive : Drive) (event : DriverEvent) (message : Message) → Shows old drive → Some message ≡ answer old.driver event → new.driver ≡ (happens old.driver event).driver
    → new.frame ≡ old.frame → new.to_driver ≡ old.to_driver → old.to_frame.bytes.items ≡ []
    → ((every count : ℕ) → Carries old.to_frame every count [] → Carries new.to_frame every (suc count) (put_one every (suc count) [] message)) → Shows new (comes drive event)
come_sent old new drive event message is some driver frame back empty puts = record {
  driver = driver ∙ ap (λ (d : Data). (happens d event).driver) is.driver;
  to_frame = subst (λ (sent : Option Message). Carries new.to_frame lost_to_frame (drive.sent + length (option_to_list sent)) (put lost_to_frame drive.sent drive.world.to_frame (option_to_list sent)))
      (some ∙ ap (λ (d : Data). answer d event) is.driver)
      (carries_as new.to_frame lost_to_frame (suc drive.sent) (drive.sent + 1) (put_one lost_to_frame (suc drive.sent) drive.world.to_frame message) (omega arith)
      (subst (λ (way : List Message). Carries new.to_frame lost_to_frame (suc drive.sent) (put_one lost_to_frame (suc drive.sent) way message)) (sym none)
      (puts lost_to_frame drive.sent (subst (λ (way : List Message). Carries old.to_frame lost_to_frame drive.sent way) none is.to_frame))));
  to_driver = subst (λ (way : Way). Carries way lost_to_driver drive.told drive.world.to_driver) (sym back) is.to_driver;
  sources = subst (λ it. HasSources it drive.world.carried) (sym frame) is.sources;
}
  where
    none : drive.world.to_frame ≡ []
    none = none_on old.to_frame lost_to_frame drive.sent drive.world.to_frame is.to_frame empty

-- ---- what the frame makes
pub made_told : (old new : Bench) (drive : Drive) (message told : Message) → Shows old drive → option_to_list (Some told) ≡ told_by message → new.driver ≡ old.driver
    → ((carried : Carried) → HasSources old.frame carried → HasSources new.frame (made_by carried message)) → new.to_frame ≡ old.to_frame → old.to_driver.bytes.items ≡ []
    → ((every count : ℕ) → Carries old.to_driver every count [] → Carries new.to_driver every (suc count) (put_one every (suc count) [] told)) → Shows new (takes drive message drive.world.to_frame)
made_told old new drive message told is one driver made forth empty puts = record {
  driver = driver ∙ is.driver;
  to_frame = subst (λ (way : Way). Carries way lost_to_frame drive.sent drive.world.to_frame) (sym forth) is.to_frame;
  to_driver = subst (λ (all : List Message). Carries new.to_driver lost_to_driver (drive.told + length all) (put lost_to_driver drive.told drive.world.to_driver all)) one
      (carries_as new.to_driver lost_to_driver (suc drive.told) (drive.told + 1) (put_one lost_to_driver (suc drive.told) drive.world.to_driver told) (omega arith)
      (subst (λ (way : List Message). Carries new.to_driver lost_to_driver (suc drive.told) (put_one lost_to_driver (suc drive.told) way told)) (sym none)
      (puts lost_to_driver drive.told (subst (λ (way : List Message). Carries old.to_driver lost_to_driver drive.told way) none is.to_driver))));
  sources = made drive.world.carried is.sources;
}
  where
    none : drive.world.to_driver ≡ []
    none = none_on old.to_driver lost_to_driver drive.told drive.world.to_driver is.to_driver empty

-- ---- a turn
abbrev back_with : Drive → List Message → Drive
back_with drive way = record drive { world = record drive.world { to_driver = way } }

abbrev ways_with : Drive → List Message → List Message → Drive
ways_with drive forth back = record drive { world = record drive.world { to_frame = forth; to_driver = back } }

-- the driver hears
pub turn_hears : (old mid new : Bench) (drive : Drive) (message : Message) → Shows old drive → ((every count : ℕ) (messages : List Message) → Carries old.to_driver every count messages → option_to_list (Some message) ≡ messages)
    → mid.driver ≡ old.driver → mid.to_frame ≡ old.to_frame → mid.frame ≡ old.frame → ((every count : ℕ) (messages : List Message) → Carries old.to_driver every count messages → Carries mid.to_driver every count [])
    → ((other : Drive) → Shows mid other → Shows new (comes other (Heard message))) → Shows new (turn drive)
turn_hears old mid new drive message is back driver forth frame empty come =
    subst (λ (way : List Message). Shows new (turned drive way drive.world.to_frame)) (back lost_to_driver drive.told drive.world.to_driver is.to_driver) (come (back_with drive []) (record {
      driver = driver ∙ is.driver;
      to_frame = subst (λ (way : Way). Carries way lost_to_frame drive.sent drive.world.to_frame) (sym forth) is.to_frame;
      to_driver = empty lost_to_driver drive.told drive.world.to_driver is.to_driver;
      sources = subst (λ it. HasSources it drive.world.carried) (sym frame) is.sources;
    }))

-- the frame takes
pub turn_takes : (old mid new : Bench) (drive : Drive) (message : Message) → Shows old drive → ((every count : ℕ) (messages : List Message) → Carries old.to_driver every count messages → [] ≡ messages)
    → ((every count : ℕ) (messages : List Message) → Carries old.to_frame every count messages → option_to_list (Some message) ≡ messages) → mid.driver ≡ old.driver → mid.frame ≡ old.frame
    → ((every count : ℕ) (messages : List Message) → Carries old.to_driver every count messages → Carries mid.to_driver every count [])
    → ((every count : ℕ) (messages : List Message) → Carries old.to_frame every count messages → Carries mid.to_frame every count [])
    → ((other : Drive) → Shows mid other → Shows new (takes other message other.world.to_frame)) → Shows new (turn drive)
turn_takes old mid new drive message is back forth driver frame heard taken made =
    subst (λ (way : List Message). Shows new (turned drive drive.world.to_driver way)) (forth lost_to_frame drive.sent drive.world.to_frame is.to_frame)
    (subst (λ (way : List Message). Shows new (turned (back_with drive way) way (message ∷ []))) (back lost_to_driver drive.told drive.world.to_driver is.to_driver)
    (made (ways_with drive [] []) (record {
      driver = driver ∙ is.driver;
      to_frame = taken lost_to_frame drive.sent drive.world.to_frame is.to_frame;
      to_driver = heard lost_to_driver drive.told drive.world.to_driver is.to_driver;
      sources = subst (λ it. HasSources it drive.world.carried) (sym frame) is.sources;
    })))

-- an answer is overdue
pub turn_waits : (old mid new : Bench) (drive : Drive) → Shows old drive → ((every count : ℕ) (messages : List Message) → Carries old.to_driver every count messages → [] ≡ messages)
    → ((every count : ℕ) (messages : List Message) → Carries old.to_frame every count messages → [] ≡ messages) → mid.driver ≡ old.driver → mid.frame ≡ old.frame
    → ((every count : ℕ) (messages : List Message) → Carries old.to_driver every count messages → Carries mid.to_driver every count [])
    → ((every count : ℕ) (messages : List Message) → Carries old.to_frame every count messages → Carries mid.to_frame every count [])
    → ((other : Drive) → Shows mid other → Shows new (comes other Timeout)) → Shows new (turn drive)
turn_waits old mid new drive is back forth driver frame heard taken come =
    subst (λ (way : List Message). Shows new (turned drive drive.world.to_driver way)) none_forth
    (subst (λ (way : List Message). Shows new (turned drive way [])) none_back
    (come drive (record {
      driver = driver ∙ is.driver;
      to_frame = subst (λ (way : List Message). Carries mid.to_frame lost_to_frame drive.sent way) none_forth (taken lost_to_frame drive.sent drive.world.to_frame is.to_frame);
      to_driver = subst (λ (way : List Message). Carries mid.to_driver lost_to_driver drive.told way) none_back (heard lost_to_driver drive.told drive.world.to_driver is.to_driver);
      sources = subst (λ it. HasSources it drive.world.carried) (sym frame) is.sources;
    })))
  where
    none_forth : [] ≡ drive.world.to_frame
    none_forth = forth lost_to_frame drive.sent drive.world.to_frame is.to_frame

    none_back : [] ≡ drive.world.to_driver
    none_back = back lost_to_driver drive.told drive.world.to_driver is.to_driver

-- what the frame takes asks for a crosspoint of the bench level
pub asks_taken : (it : Bench) (message : Message) → Stands it → ((every count : ℕ) (messages : List Message) → Carries it.to_frame every count messages → option_to_list (Some message) ≡ messages) → IsConnect message
asks_taken it message stands forth =
    All-head IsConnect message []
    (subst (λ (way : List Message). All IsConnect way) (sym (forth lost_to_frame stands.drive.sent stands.drive.world.to_frame stands.shows.to_frame)) stands.regular.asked)

-- ---- what is left to do, by the bytes
some_frames : (messages : List Message) → length messages ≤ 1 → some_of (frames_of messages) ≡ length messages
some_frames [] few = refl
some_frames (message ∷ []) few = refl
some_frames (message ∷ other ∷ messages) few = absurd (omega (arith, few))

some_carried : (way : Way) (every count : ℕ) (messages : List Message) → Carries way every count messages → some_of way.bytes.items ≡ length messages
some_carried way every count messages is = ap some_of is.bytes ∙ some_frames messages is.few

pub left_shown : (it : Bench) (drive : Drive) → Shows it drive → left_of it ≡ left_in drive
left_shown it drive is =
    omega (arith, is.to_frame.counts, some_carried it.to_frame lost_to_frame drive.sent drive.world.to_frame is.to_frame, some_carried it.to_driver lost_to_driver drive.told drive.world.to_driver is.to_driver)

pub less_shown : (old new : Bench) (drive : Drive) → Shows old drive → Shows new (turn drive) → is_over drive ≡ false → left_of new < left_of old
less_shown old new drive is then going = omega (arith, left_shown old drive is, left_shown new (turn drive) then, less_turn drive going)

-- ---- turns

pub no_turn : (first : Drive) (it : Bench) → Shows it first → HasTurned first it
no_turn first it is = record { count = 0; shows = is; before = λ fewer less. absurd (omega (arith, less)) }

pub one_turn : (first : Drive) (old new : Bench) → IsRegular first → (turned : HasTurned first old) → is_over (turns turned.count first) ≡ false
    → ((drive : Drive) → Shows old drive → IsRegular drive → Shows new (turn drive)) → HasTurned first new
one_turn first old new regular turned going turns_to = record {
  count = suc turned.count;
  shows = subst (λ drive. Shows new drive) (sym (turns_more turned.count first)) (turns_to (turns turned.count first) turned.shows (regular_turns turned.count first regular));
  before = λ fewer less. elim (cases_lt fewer turned.count) [
    | inl before ↦ turned.before fewer before
    | inr last ↦
        let same : turned.count ≡ fewer = omega (arith, less, last) in
        subst (λ n. is_over (turns n first) ≡ false) same going
  ];
}

pub at_end : (first : Drive) (it : Bench) → (turned : HasTurned first it) → is_over (turns turned.count first) ≡ true → ComesToEnd first it
at_end first it turned over = record { count = turned.count; shows = turned.shows; over = over; before = turned.before }
