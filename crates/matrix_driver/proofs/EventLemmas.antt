-- What is kept of the rounds, where something happens to the driver.
use Rattle.std.proofs.Common.{◌≡◌, ℕ, nat_eq, Bool, true, false, ◌||◌, is_some, List, [], ◌∷◌, ◌++◌, map, Option, Some, None, inl, inr, refl, sym, ap, subst, ◌∙◌, append_assoc, append-nil}
use Rattle.std.proofs.lemmas.Bool.{cases_eq, false≢true}
use Rattle.std.specs.Option.{option_map_or, option_eq, option_to_list}
use Rattle.std.specs.FinMap as finite
use Rattle.number_tables.proofs.PutLemmas.{get-put_same, get-put_other}
use Rattle.swp08_messages.specs.declared.message.Message.{Message}
use Rattle.matrix_driver.specs.declared.crosspoint.Crosspoint.{Crosspoint}
use Rattle.matrix_driver.specs.Levels.{IsOf}
use Rattle.matrix_driver.specs.Messages.{connect, connected}
use Rattle.matrix_driver.specs.Progress.{Progress, is_settled, next, noted, settled_at, opened}
use Rattle.matrix_driver.specs.Driver.{Outcome, message_of, silent, sends, wants, repeats}
use Rattle.matrix_driver.specs.DriverInside.{IsDriver}
use Rattle.matrix_driver.specs.World.{World, with_back}
use Rattle.std.specs.List.{AllByRecursion}
use Rattle.matrix_driver.specs.Rounds.{IsOld, InRounds, Agrees, IsOver, IsKept}
use Rattle.matrix_driver.proofs.Sources.{source_itself}
use Rattle.matrix_driver.proofs.DriverLemmas.{IsDriver-noted, IsDriver-sent, IsDriver-sends, IsProgress-noted, IsProgress-settled, next-IsNext, IsNext-unsettled, unsettled_due}
use Rattle.matrix_driver.proofs.Copies.{each_map, each_left, each_join, rounds_present, rounds_more, rounds_begin, joined}
use Rattle.matrix_driver.proofs.RoundLemmas.{still_settled, settled_here}

-- the world after something happened to its driver
abbrev pub after : World → Outcome → World
after world outcome = record {
  driver = outcome.driver;
  to_frame = world.to_frame ++ option_to_list (message_of world.driver.level outcome.sent);
  to_driver = world.to_driver;
  carried = world.carried;
}

-- nothing happened
pub IsKept-silent : (world : World) → IsKept world → IsKept (after world (silent world.driver))
IsKept-silent world is = record {
  is_driver = is.is_driver;
  before = is.before;
  present = is.present;
  forth = is.forth;
  back = is.back;
  to_frame = append-nil world.to_frame ∙ is.to_frame;
  to_driver = is.to_driver;
  rounds = is.rounds;
  sent = is.sent;
  over = is.over;
  agree = is.agree;
  answered = is.answered;
  had = is.had;
}

-- a wanted source was recorded, and nothing else
pub IsKept-noted : (world : World) (crosspoint : Crosspoint) → IsKept world → IsDriver (record { level = world.driver.level; progress = noted world.driver.progress crosspoint; outstanding = world.driver.outstanding }) → IsKept (after world (silent (record { level = world.driver.level; progress = noted world.driver.progress crosspoint; outstanding = world.driver.outstanding })))
IsKept-noted world crosspoint is driver = record {
  is_driver = driver;
  before = is.before;
  present = is.present;
  forth = is.forth;
  back = is.back;
  to_frame = append-nil world.to_frame ∙ is.to_frame;
  to_driver = is.to_driver;
  rounds = is.rounds;
  sent = is.sent;
  over = is.over;
  agree = is.agree;
  answered = is.answered;
  had = is.had;
}

-- the outstanding connect was sent again
pub IsKept-again : (world : World) (crosspoint : Crosspoint) → IsKept world → world.driver.outstanding ≡ Some crosspoint → IsKept (after world (record { driver = world.driver; sent = Some crosspoint }))
IsKept-again world crosspoint is e = record {
  is_driver = is.is_driver;
  before = is.before;
  present = is.present;
  forth = is.forth ++ crosspoint ∷ [];
  back = is.back;
  to_frame = joined (connect world.driver.level) is.forth (crosspoint ∷ []) world.to_frame (connect world.driver.level crosspoint ∷ []) is.to_frame refl;
  to_driver = is.to_driver;
  rounds = subst (InRounds is.before is.present) (append_assoc is.back is.forth (crosspoint ∷ []))
      (subst (λ one. InRounds is.before is.present ((is.back ++ is.forth) ++ one ∷ [])) (sym (is.sent crosspoint e)) (rounds_more is.before is.present (is.back ++ is.forth) is.rounds));
  sent = is.sent;
  over = λ none.
      let wrong : None ≡ Some crosspoint = sym none ∙ e in
      cc;
  agree = subst (AllByRecursion (Agrees world.driver.progress.settled)) (append_assoc is.back is.forth (crosspoint ∷ []))
      (each_join (Agrees world.driver.progress.settled) (is.back ++ is.forth) (crosspoint ∷ []) is.agree (agrees, tt));
  answered = is.answered;
  had = is.had;
}
  where
    agrees : Agrees world.driver.progress.settled crosspoint
    agrees source at =
        let wrong : None ≡ Some source = sym (is.is_driver.unsettled crosspoint e) ∙ at in
        cc

-- A new round begins, when the one before is over.
module _ (world : World) (progress : Progress) (past crosspoint : Crosspoint) (forth back : List Crosspoint)
    (to_frame : world.to_frame ≡ map (connect world.driver.level) forth)
    (to_driver : world.to_driver ≡ map (connected world.driver.level) back)
    (over : AllByRecursion (IsOver progress.settled past) (back ++ forth))
    (had : (dest : ℕ) (source : Option ℕ) → finite.get progress.settled dest ≡ Some source → world.carried dest ≡ source)
    (unsettled : is_settled progress crosspoint ≡ false)
    (driver : IsDriver (record { level = world.driver.level; progress = opened progress crosspoint.dest; outstanding = Some crosspoint })) where
  is_old : (copy : Crosspoint) → IsOver progress.settled past copy → IsOld past crosspoint copy
  is_old copy is = record {
    is = is.is;
    other = λ same.
        let at : finite.get progress.settled crosspoint.dest ≡ Some crosspoint.source =
        subst (λ (one : Crosspoint). finite.get progress.settled one.dest ≡ Some one.source) same is.at in
        false≢true (sym unsettled ∙ ap (λ found. option_map_or (λ source. option_eq nat_eq source crosspoint.source) found false) at ∙ source_itself crosspoint.source);
  }

  old : AllByRecursion (IsOld past crosspoint) (back ++ forth)
  old = each_map (IsOver progress.settled past) (IsOld past crosspoint) is_old (back ++ forth) over

  agrees_old : (copy : Crosspoint) → IsOver progress.settled past copy → Agrees (opened progress crosspoint.dest).settled copy
  agrees_old copy is source e =
      let both : Some copy.source ≡ Some source = sym is.at ∙ still_settled progress crosspoint.dest copy.dest source e in
      sym (some_same copy.source source both)
    where
      some_same : (x y : Option ℕ) → Some x ≡ Some y → x ≡ y
      some_same x y both = cc

  agrees_new : Agrees (opened progress crosspoint.dest).settled crosspoint
  agrees_new source e =
      let wrong : None ≡ Some source = sym (get-put_same progress.settled crosspoint.dest None) ∙ e in
      cc

  pub kept_begun : IsKept (after world (record { driver = record { level = world.driver.level; progress = opened progress crosspoint.dest; outstanding = Some crosspoint }; sent = Some crosspoint }))
  kept_begun = record {
    is_driver = driver;
    before = past;
    present = crosspoint;
    forth = forth ++ crosspoint ∷ [];
    back = back;
    to_frame = joined (connect world.driver.level) forth (crosspoint ∷ []) world.to_frame (connect world.driver.level crosspoint ∷ []) to_frame refl;
    to_driver = to_driver;
    rounds = subst (InRounds past crosspoint) (append_assoc back forth (crosspoint ∷ [])) (rounds_begin past crosspoint (back ++ forth) old);
    sent = λ copy e. sym (sent copy e);
    over = λ none. cc;
    agree = subst (AllByRecursion (Agrees (opened progress crosspoint.dest).settled)) (append_assoc back forth (crosspoint ∷ []))
        (each_join (Agrees (opened progress crosspoint.dest).settled) (back ++ forth) (crosspoint ∷ [])
        (each_map (IsOver progress.settled past) (Agrees (opened progress crosspoint.dest).settled) agrees_old (back ++ forth) over) (agrees_new, tt));
    answered = each_map (IsOld past crosspoint) (λ copy. copy ≡ crosspoint → world.carried copy.dest ≡ copy.source) (λ copy is same. absurd (is.other same)) back (each_left (IsOld past crosspoint) back forth old);
    had = λ dest source e. had dest source (still_settled progress crosspoint.dest dest source e);
  }
    where
      sent : (copy : Crosspoint) → Some crosspoint ≡ Some copy → crosspoint ≡ copy
      sent copy e = cc

-- A source is wanted.
pub IsKept-wants : (world : World) (crosspoint : Crosspoint) → IsKept world → IsOf world.driver.level crosspoint → IsKept (after world (wants world.driver crosspoint))
IsKept-wants world crosspoint is of = by (is_some world.driver.outstanding || is_settled world.driver.progress crosspoint) refl
  where
    idle : (outstanding : Option Crosspoint) → (is_some outstanding || is_settled world.driver.progress crosspoint) ≡ false → (outstanding ≡ None) × (is_settled world.driver.progress crosspoint ≡ false)
    idle (Some other) e = cc
    idle None e = (refl, e)

    by : (b : Bool) → (is_some world.driver.outstanding || is_settled world.driver.progress crosspoint) ≡ b → IsKept (after world (wants world.driver crosspoint))
    by true e = rw e (IsKept-noted world crosspoint is (IsDriver-noted world.driver crosspoint is.is_driver of e))
    by false e =
        let parts = idle world.driver.outstanding e in
        rw e
        (kept_begun world (noted world.driver.progress crosspoint) is.present crosspoint is.forth is.back is.to_frame is.to_driver (is.over parts.0) is.had parts.1
        (IsDriver-sent world.driver.level (noted world.driver.progress crosspoint) crosspoint is.is_driver.level (IsProgress-noted world.driver.level world.driver.progress crosspoint is.is_driver.progress of) of
        (unsettled_due world.driver.progress crosspoint parts.1)))

-- The outstanding connect is sent again.
pub IsKept-repeats : (world : World) → IsKept world → IsKept (after world (repeats world.driver))
IsKept-repeats world is = by world.driver.outstanding refl
  where
    by : (outstanding : Option Crosspoint) → world.driver.outstanding ≡ outstanding → IsKept (after world (repeats world.driver))
    by None e = subst (λ sent. IsKept (after world (record { driver = world.driver; sent = sent }))) (sym e) (IsKept-silent world is)
    by (Some crosspoint) e = subst (λ sent. IsKept (after world (record { driver = world.driver; sent = sent }))) (sym e) (IsKept-again world crosspoint is e)

-- The outstanding crosspoint is heard of: this world has its answer at the beginning of the way back.
module _ (world : World) (is : IsKept world) (copy : Crosspoint) (rest : List Crosspoint) (parts : is.back ≡ copy ∷ rest) (present : copy ≡ is.present) (to_driver : List Message) (way : to_driver ≡ map (connected world.driver.level) rest) where
  left : World
  left = with_back world to_driver

  progress_now : Progress
  progress_now = settled_at world.driver.progress copy

  all : AllByRecursion (λ one. one ≡ is.present) (rest ++ is.forth)
  all =
      elim (subst (λ back. InRounds is.before is.present (back ++ is.forth)) parts is.rounds) [
        | inl old ↦ absurd (old.0.other present)
        | inr h ↦ h.1
      ]

  now : world.carried copy.dest ≡ copy.source
  now = (subst (AllByRecursion (λ one. one ≡ is.present → world.carried one.dest ≡ one.source)) parts is.answered).0 present

  over_now : AllByRecursion (IsOver (settled_at world.driver.progress copy).settled is.present) (rest ++ is.forth)
  over_now = each_map (λ one. one ≡ is.present) (IsOver (settled_at world.driver.progress copy).settled is.present) f (rest ++ is.forth) all
    where
      f : (one : Crosspoint) → one ≡ is.present → IsOver (settled_at world.driver.progress copy).settled is.present one
      f one same = record {
        is = same;
        at = subst (λ (x : Crosspoint). finite.get (settled_at world.driver.progress copy).settled x.dest ≡ Some x.source) (present ∙ sym same) (settled_here world.driver.progress copy);
      }

  had_now : (dest : ℕ) (source : Option ℕ) → finite.get (settled_at world.driver.progress copy).settled dest ≡ Some source → world.carried dest ≡ source
  had_now dest source e =
      elim (cases_eq dest copy.dest) [
        | inl same ↦
            let both : Some copy.source ≡ Some source = sym (ap (finite.get (settled_at world.driver.progress copy).settled) same ∙ settled_here world.driver.progress copy) ∙ e in
            ap world.carried same ∙ now ∙ some_same copy.source source both
        | inr apart ↦ is.had dest source (sym (get-put_other world.driver.progress.settled copy.dest (Some copy.source) dest apart) ∙ e)
      ]
    where
      some_same : (x y : Option ℕ) → Some x ≡ Some y → x ≡ y
      some_same x y both = cc

  agrees_now : (one : Crosspoint) → IsOver (settled_at world.driver.progress copy).settled is.present one → Agrees (settled_at world.driver.progress copy).settled one
  agrees_now one over source e =
      let both : Some one.source ≡ Some source = sym over.at ∙ e in
      some_same one.source source both
    where
      some_same : (x y : Option ℕ) → Some x ≡ Some y → y ≡ x
      some_same x y both = cc

  answered_now : (one : Crosspoint) → one ≡ is.present → one ≡ is.present → world.carried one.dest ≡ one.source
  answered_now one _ same = subst (λ (x : Crosspoint). world.carried x.dest ≡ x.source) (present ∙ sym same) now

  pub kept_made : (following : Option Crosspoint) → next (settled_at world.driver.progress copy) ≡ following → IsKept (after (with_back world to_driver) (sends world.driver.level (settled_at world.driver.progress copy) following))
  kept_made None e = record {
    is_driver = IsDriver-sends world.driver.level (settled_at world.driver.progress copy) is.is_driver.level (IsProgress-settled world.driver.level world.driver.progress copy is.is_driver.progress) None e;
    before = is.before;
    present = is.present;
    forth = is.forth;
    back = rest;
    to_frame = append-nil world.to_frame ∙ is.to_frame;
    to_driver = way;
    rounds = rounds_present is.before is.present (rest ++ is.forth) all;
    sent = λ one e. cc;
    over = λ _. over_now;
    agree = each_map (IsOver (settled_at world.driver.progress copy).settled is.present) (Agrees (settled_at world.driver.progress copy).settled) agrees_now (rest ++ is.forth) over_now;
    answered = each_map (λ one. one ≡ is.present) (λ one. one ≡ is.present → world.carried one.dest ≡ one.source) answered_now rest (each_left (λ one. one ≡ is.present) rest is.forth all);
    had = had_now;
  }
  kept_made (Some crosspoint) e =
      kept_begun (with_back world to_driver) (settled_at world.driver.progress copy) is.present crosspoint is.forth rest is.to_frame way over_now had_now
      (IsNext-unsettled (settled_at world.driver.progress copy) crosspoint (next-IsNext (settled_at world.driver.progress copy) crosspoint e))
      (IsDriver-sends world.driver.level (settled_at world.driver.progress copy) is.is_driver.level (IsProgress-settled world.driver.level world.driver.progress copy is.is_driver.progress) (Some crosspoint) e)
