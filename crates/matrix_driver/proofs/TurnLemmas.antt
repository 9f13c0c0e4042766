-- That turns settle all: what is left to do falls with each.
use Rattle.std.proofs.Common.{◌≡◌, ◌⊎◌, ℕ, ◌+◌, ◌*◌, ◌<◌, ◌≤◌, nat_eq, Bool, true, false, not, cond, ◌&&◌, List, [], ◌∷◌, ◌++◌, length, zero, suc, Option, Some, None, inl, inr, refl, sym, ap, subst, ◌∙◌, append-nil, arith, eq-eqb, length-append}
use Rattle.std.proofs.lemmas.Bool.{and_from, false≢true}
use Rattle.std.specs.Option.{option_eq, option_to_list}
use Rattle.swp08_messages.specs.declared.message.Message.{Message}
use Rattle.swp08_messages.specs.declared.message.Message.TheVariants.{Connect, Connected, ExtConnect, ExtConnected}
use Rattle.matrix_driver.specs.declared.crosspoint.Crosspoint.{Crosspoint}
use Rattle.matrix_driver.specs.declared.level.Level.{Level}
use Rattle.matrix_driver.specs.declared.event.DriverEvent.TheVariants.{Heard, Timeout}
use Rattle.matrix_driver.specs.Messages.{is_short, point, connect, connected, is_about, is_answer}
use Rattle.matrix_driver.specs.Progress.{has, next, settled_at, opened}
use Rattle.matrix_driver.specs.Driver.{silent, sends, hears, message_of}
use Rattle.matrix_driver.specs.DriverInside.{IsDriver}
use Rattle.matrix_driver.specs.World.{World, Step, Overdue, Taken, Told, takes, hears_of, comes, told_by, new_world, with_back, Runs}
use Rattle.matrix_driver.specs.Turns.{turned, turn, turns, due_count, turns_enough, SettlesAll, IsQuiet, IsTurn}
use Rattle.matrix_driver.proofs.Sources.{source_itself}
use Rattle.matrix_driver.proofs.DriverLemmas.{next-IsNext, IsNext, IsDriver-happens}
use Rattle.matrix_driver.proofs.DueCounts.{due_made, due_opened, some_due, has_wanted}
use Rattle.matrix_driver.proofs.RoundLemmas.{tells}
use Rattle.matrix_driver.proofs.EventLemmas.{after}
use Rattle.matrix_driver.proofs.RunLemmas.{IsKept-start, IsKept-runs}

-- the answer to a connect is one
answers : (level : Level) (crosspoint : Crosspoint) → is_answer level crosspoint (connected level crosspoint) ≡ true
answers level crosspoint = by (is_short crosspoint) refl
  where
    about : is_about level crosspoint (point level crosspoint.dest) crosspoint.source ≡ true
    about =
        and_from (nat_eq level.matrix level.matrix && nat_eq level.number level.number && nat_eq crosspoint.dest crosspoint.dest) (option_eq nat_eq crosspoint.source crosspoint.source)
        (and_from (nat_eq level.matrix level.matrix && nat_eq level.number level.number) (nat_eq crosspoint.dest crosspoint.dest)
        (and_from (nat_eq level.matrix level.matrix) (nat_eq level.number level.number) (eq-eqb level.matrix level.matrix refl) (eq-eqb level.number level.number refl))
        (eq-eqb crosspoint.dest crosspoint.dest refl))
        (source_itself crosspoint.source)

    by : (b : Bool) → is_short crosspoint ≡ b → is_answer level crosspoint (cond b (Connected (point level crosspoint.dest) crosspoint.source) (ExtConnected (point level crosspoint.dest) crosspoint.source)) ≡ true
    by true e = and_from (is_short crosspoint) _ e about
    by false e = and_from (not (is_short crosspoint)) _ (ap not e) about

-- what is left to do while this crosspoint is outstanding
abbrev left_of : ℕ → ℕ → ℕ → Bool → ℕ
left_of forth back due wanted = 2 * forth + back + 3 * due + 3 * cond wanted 0 1

abbrev left : World → Crosspoint → ℕ
left world crosspoint =
    left_of (length world.to_frame) (length world.to_driver) (due_count world.driver.progress) (has world.driver.progress.wants crosspoint)

-- The last message on the way is of this crosspoint.
abbrev IsLast : Level → List Message → List Message → Crosspoint → Type 0
IsLast level forth back crosspoint =
    ((front : List Message) × (forth ≡ front ++ connect level crosspoint ∷ []))
    ⊎ ((forth ≡ []) × ((front : List Message) × (back ≡ front ++ connected level crosspoint ∷ [])))

-- So many turns suffice.
record IsGoing (world : World) (count : ℕ) (crosspoint : Crosspoint) : Type 0 where
  outstanding : world.driver.outstanding ≡ Some crosspoint
  enough : (IsLast world.driver.level world.to_frame world.to_driver crosspoint × (left world crosspoint ≤ count))
      ⊎ (left world crosspoint + 3 ≤ count)

abbrev Ends : World → ℕ → Type 0
Ends world count = (world.driver.outstanding ≡ None) ⊎ ((crosspoint : Crosspoint) × IsGoing world count crosspoint)

-- where nothing is outstanding, nothing is after a turn
quiet_turned : (world : World) (back forth : List Message) → world.driver.outstanding ≡ None → (turned world back forth).driver.outstanding ≡ None
quiet_turned world (first ∷ rest) forth e = ap (λ outstanding. (hears world.driver outstanding first).driver.outstanding) e ∙ e
quiet_turned world [] (first ∷ rest) e = e
quiet_turned world [] [] e = e

IsDriver-turned : (world : World) (back forth : List Message) → IsDriver world.driver → IsDriver (turned world back forth).driver
IsDriver-turned world (first ∷ rest) forth is = IsDriver-happens world.driver (Heard first) is tt
IsDriver-turned world [] (first ∷ rest) is = is
IsDriver-turned world [] [] is = is

-- a message is answered by one at most
told_few : (message : Message) → length (told_by message) ≤ 1
told_few (Connect at source) = omega arith
told_few (ExtConnect at source) = omega arith
told_few message = omega arith

-- lists that end in one element
module _ {M : Type 0} where
  heads : (x y : M) (xs ys : List M) → x ∷ xs ≡ y ∷ ys → x ≡ y
  heads x y xs ys e = cc

  tails : (x y : M) (xs ys : List M) → x ∷ xs ≡ y ∷ ys → xs ≡ ys
  tails x y xs ys e = cc

  none_last : (front : List M) (x : M) → [] ≡ front ++ x ∷ [] → ⊥
  none_last [] x e = cc
  none_last (y ∷ ys) x e = cc

-- The frame takes a message.
took_last : (level : Level) (first : Message) (rest back front : List Message) (crosspoint : Crosspoint) → first ∷ rest ≡ front ++ connect level crosspoint ∷ [] → IsLast level rest (back ++ told_by first) crosspoint
took_last level first rest back [] crosspoint e =
    let one : first ≡ connect level crosspoint = heads first (connect level crosspoint) rest [] e in
    inr (tails first (connect level crosspoint) rest [] e, (back, ap (λ message. back ++ told_by message) one ∙ ap (λ told. back ++ told) (tells level crosspoint)))
took_last level first rest back (y ∷ ys) crosspoint e = inl (ys, tails first y rest (ys ++ connect level crosspoint ∷ []) e)

going_taken : (world : World) (first : Message) (rest : List Message) (count : ℕ) (crosspoint : Crosspoint) → world.to_frame ≡ first ∷ rest → IsGoing world (suc count) crosspoint → IsGoing (takes world first rest) count crosspoint
going_taken world first rest count crosspoint way is = record {
  outstanding = is.outstanding;
  enough = elim is.enough [
    | inl sure ↦ inl (last sure.0, omega (arith, fewer 0 (omega (arith, sure.1))))
    | inr unsure ↦ inr (fewer 3 unsure)
  ];
}
  where
    last : IsLast world.driver.level world.to_frame world.to_driver crosspoint → IsLast world.driver.level rest (world.to_driver ++ told_by first) crosspoint
    last (inl here) = took_last world.driver.level first rest world.to_driver here.0 crosspoint (sym way ∙ here.1)
    last (inr there) =
        let wrong : [] ≡ first ∷ rest = sym there.0 ∙ way in
        cc

    fewer : (more : ℕ) → left world crosspoint + more ≤ suc count → left (takes world first rest) crosspoint + more ≤ count
    fewer more h =
        omega (arith, h, ap (λ (xs : List Message). length xs) way, length-append world.to_driver (told_by first), told_few first)

-- An answer is overdue, where nothing is on the way.
going_overdue : (world : World) (count : ℕ) (crosspoint : Crosspoint) → world.to_frame ≡ [] → world.to_driver ≡ [] → IsGoing world (suc count) crosspoint → IsGoing (comes world Timeout) count crosspoint
going_overdue world count crosspoint forth back is = record {
  outstanding = is.outstanding;
  enough = elim is.enough [
    | inl sure ↦ absurd (never sure.0)
    | inr unsure ↦ inl (inl (world.to_frame, sent), fewer unsure)
  ];
}
  where
    never : IsLast world.driver.level world.to_frame world.to_driver crosspoint → ⊥
    never (inl here) = none_last here.0 (connect world.driver.level crosspoint) (sym forth ∙ here.1)
    never (inr there) = none_last there.1.0 (connected world.driver.level crosspoint) (sym back ∙ there.1.1)

    sent : world.to_frame ++ option_to_list (message_of world.driver.level world.driver.outstanding) ≡ world.to_frame ++ connect world.driver.level crosspoint ∷ []
    sent = ap (λ outstanding. world.to_frame ++ option_to_list (message_of world.driver.level outstanding)) is.outstanding

    fewer : left world crosspoint + 3 ≤ suc count → left (comes world Timeout) crosspoint ≤ count
    fewer h =
        omega (arith, h, ap (λ (xs : List Message). length xs) sent, length-append world.to_frame (connect world.driver.level crosspoint ∷ []))

-- The driver hears a message.
module _ (world : World) (first : Message) (rest : List Message) (count : ℕ) (crosspoint : Crosspoint) (driver : IsDriver world.driver) (way : world.to_driver ≡ first ∷ rest) (is : IsGoing world (suc count) crosspoint) where
  level : Level
  level = world.driver.level

  -- it isn't the one that is waited for
  going_deaf : is_answer world.driver.level crosspoint first ≡ false → IsGoing (after (with_back world rest) (silent world.driver)) count crosspoint
  going_deaf deaf = record {
    outstanding = is.outstanding;
    enough = elim is.enough [
      | inl sure ↦ inl (last sure.0, omega (arith, fewer 0 (omega (arith, sure.1))))
      | inr unsure ↦ inr (fewer 3 unsure)
    ];
  }
    where
      behind : (front : List Message) → first ∷ rest ≡ front ++ connected world.driver.level crosspoint ∷ [] → (others : List Message) × (rest ≡ others ++ connected world.driver.level crosspoint ∷ [])
      behind [] e =
          absurd (false≢true (sym deaf ∙ ap (is_answer world.driver.level crosspoint) (heads first (connected world.driver.level crosspoint) rest [] e) ∙ answers world.driver.level crosspoint))
      behind (y ∷ ys) e = (ys, tails first y rest (ys ++ connected world.driver.level crosspoint ∷ []) e)

      last : IsLast world.driver.level world.to_frame world.to_driver crosspoint → IsLast world.driver.level (world.to_frame ++ []) rest crosspoint
      last (inl here) = inl (here.0, append-nil world.to_frame ∙ here.1)
      last (inr there) = inr (append-nil world.to_frame ∙ there.0, behind there.1.0 (sym way ∙ there.1.1))

      fewer : (more : ℕ) → left world crosspoint + more ≤ suc count → left (after (with_back world rest) (silent world.driver)) crosspoint + more ≤ count
      fewer more h = omega (arith, h, ap (λ (xs : List Message). length xs) way, length-append world.to_frame [])

  within : crosspoint.dest < world.driver.progress.room
  within = omega (arith, (driver.sent crosspoint is.outstanding).dest, driver.progress.room)

  least : left world crosspoint ≤ suc count
  least = elim is.enough [
    | inl sure ↦ sure.1
    | inr unsure ↦ omega (arith, unsure)
  ]

  going_next : (following : Option Crosspoint) → next (settled_at world.driver.progress crosspoint) ≡ following → Ends (after (with_back world rest) (sends world.driver.level (settled_at world.driver.progress crosspoint) following)) count
  going_next None e = inl refl
  going_next (Some z) e = inr (
    z,
    record {
      outstanding = refl;
      enough = inl (inl (world.to_frame, refl), fewer (has world.driver.progress.wants crosspoint) refl);
    },
  )
    where
      following : IsNext (settled_at world.driver.progress crosspoint) z
      following = next-IsNext (settled_at world.driver.progress crosspoint) z e

      fewer : (b : Bool) → has world.driver.progress.wants crosspoint ≡ b → left (after (with_back world rest) (sends world.driver.level (settled_at world.driver.progress crosspoint) (Some z))) z ≤ count
      fewer b h =
          let made = subst (λ b. due_count (settled_at world.driver.progress crosspoint) + cond b 1 0 ≡ due_count world.driver.progress) h (due_made world.driver.progress crosspoint (driver.due crosspoint is.outstanding) within) in
          let old = subst (λ b. left_of (length world.to_frame) (length world.to_driver) (due_count world.driver.progress) b ≤ suc count) h least in
          let wanted : has (settled_at world.driver.progress crosspoint).wants z ≡ true = has_wanted (settled_at world.driver.progress crosspoint) z following.wanted in
          let same = due_opened (settled_at world.driver.progress crosspoint) z following.due in
          let longer = length-append world.to_frame (connect world.driver.level z ∷ []) in
          let back = ap (λ (xs : List Message). length xs) way in
          subst (λ b. left_of (length (world.to_frame ++ connect world.driver.level z ∷ [])) (length rest) (due_count (opened (settled_at world.driver.progress crosspoint) z.dest)) b ≤ count) (sym wanted)
          (elim b as (λ b. due_count (settled_at world.driver.progress crosspoint) + cond b 1 0 ≡ due_count world.driver.progress → left_of (length world.to_frame) (length world.to_driver) (due_count world.driver.progress) b ≤ suc count → left_of (length (world.to_frame ++ connect world.driver.level z ∷ [])) (length rest) (due_count (opened (settled_at world.driver.progress crosspoint) z.dest)) true ≤ count) [
            | true ↦ (λ made old. omega (arith, made, old, same, longer, back))
            | false ↦ (λ made old. omega (arith, made, old, same, longer, back))
          ] made old)

  going_told : Ends (after (with_back world rest) (hears world.driver world.driver.outstanding first)) count
  going_told =
      subst (λ outstanding. Ends (after (with_back world rest) (hears world.driver outstanding first)) count) (sym is.outstanding)
      (by (is_answer world.driver.level crosspoint first) refl)
    where
      by : (b : Bool) → is_answer world.driver.level crosspoint first ≡ b → Ends (after (with_back world rest) (hears world.driver (Some crosspoint) first)) count
      by true e = rw e (going_next (next (settled_at world.driver.progress crosspoint)) refl)
      by false e = rw e (inr (crosspoint, going_deaf e))

-- one turn
ends_turned : (world : World) (back forth : List Message) (count : ℕ) → world.to_driver ≡ back → world.to_frame ≡ forth → IsDriver world.driver → Ends world (suc count) → Ends (turned world back forth) count
ends_turned world back forth count e h is (inl none) = inl (quiet_turned world back forth none)
ends_turned world (first ∷ rest) forth count e h is (inr going) = going_told world first rest count going.0 is e going.1
ends_turned world [] (first ∷ rest) count e h is (inr going) = inr (going.0, going_taken world first rest count going.0 h going.1)
ends_turned world [] [] count e h is (inr going) = inr (going.0, going_overdue world count going.0 h e going.1)

-- where something is outstanding, something is left to do
still_left : (world : World) (crosspoint : Crosspoint) → IsDriver world.driver → IsGoing world 0 crosspoint → ⊥
still_left world crosspoint is going =
    let some = some_due world.driver.progress crosspoint (is.due crosspoint going.outstanding) (omega (arith, (is.sent crosspoint going.outstanding).dest, is.progress.room)) in
    elim going.enough [
      | inl sure ↦ omega (arith, sure.1, some)
      | inr unsure ↦ omega (arith, unsure, some)
    ]

ends_turns : (count : ℕ) (world : World) → IsDriver world.driver → Ends world count → (turns count world).driver.outstanding ≡ None
ends_turns zero world is (inl none) = none
ends_turns zero world is (inr going) = absurd (still_left world going.0 is going.1)
ends_turns (suc count) world is ends =
    ends_turns count (turn world) (IsDriver-turned world world.to_driver world.to_frame is)
    (ends_turned world world.to_driver world.to_frame count refl refl is ends)

begins : (world : World) (outstanding : Option Crosspoint) → world.driver.outstanding ≡ outstanding → Ends world (turns_enough world)
begins world None e = inl e
begins world (Some crosspoint) e = inr (crosspoint, record { outstanding = e; enough = inr (most (has world.driver.progress.wants crosspoint)) })
  where
    most : (b : Bool) → left_of (length world.to_frame) (length world.to_driver) (due_count world.driver.progress) b + 3 ≤ turns_enough world
    most true = omega arith
    most false = omega arith

pub settles_all : (level : Level) → SettlesAll level
settles_all level is carried steps world runs =
    ends_turns (turns_enough world) world (IsKept-runs (new_world level carried) steps world (IsKept-start level carried is) runs).is_driver
    (begins world world.driver.outstanding refl)

-- a turn is a step
turn_by : (world : World) (back forth : List Message) → world.to_driver ≡ back → world.to_frame ≡ forth → (step : Step) × IsQuiet step × Runs world (step ∷ []) (turned world back forth)
turn_by world (first ∷ rest) forth e h = (Told, tt, (hears_of world first rest, record { first = first; rest = rest; way = e; is = refl }, refl))
turn_by world [] (first ∷ rest) e h = (Taken, tt, (takes world first rest, record { first = first; rest = rest; way = h; is = refl }, refl))
turn_by world [] [] e h = (Overdue, tt, (comes world Timeout, record { may = tt; is = refl }, refl))

pub turns_are_steps : (world : World) → IsTurn world
turns_are_steps world =
    let one = turn_by world world.to_driver world.to_frame refl refl in
    record { step = one.0; quiet = one.1; run = one.2 }
