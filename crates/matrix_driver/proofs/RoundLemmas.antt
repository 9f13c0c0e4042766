-- What is kept of the rounds, at each step of a world.
use Rattle.std.proofs.Common.{◌≡◌, ◌≢◌, ℕ, nat_eq, Bool, true, false, not, cond, ◌&&◌, List, [], ◌∷◌, ◌++◌, map, Option, Some, None, inl, inr, refl, sym, ap, subst, ◌∙◌, append_assoc, eq-eqb, eqb-true}
use Rattle.std.proofs.lemmas.Bool.{cases_eq, ne_eqb, and_parts}
use Rattle.std.specs.Option.{option_eq}
use Rattle.std.specs.FinMap as finite
use Rattle.number_tables.proofs.PutLemmas.{get-put_same, get-put_other}
use Rattle.swp08_messages.specs.declared.message.Message.{Message}
use Rattle.swp08_messages.specs.declared.message.Message.TheVariants.{Connect, Connected, ExtConnect, ExtConnected}
use Rattle.matrix_driver.specs.declared.crosspoint.Crosspoint.{Crosspoint}
use Rattle.matrix_driver.specs.declared.level.Level.{Level}
use Rattle.matrix_driver.specs.Messages.{is_short, point, connect, connected, is_about, is_answer}
use Rattle.matrix_driver.specs.Progress.{Progress, crosspoint_of, settled_at, opened}
use Rattle.matrix_driver.specs.World.{World, Carried, carries, made_by, told_by, with_forth, with_back, takes}
use Rattle.std.specs.List.{AllByRecursion}
use Rattle.matrix_driver.specs.Rounds.{InRounds, Agrees, IsOver, IsKept}
use Rattle.matrix_driver.proofs.Sources.{same_source}
use Rattle.matrix_driver.proofs.Copies.{each_map, each_right, each_join, each_lose, rounds_lose, rounds_at, cut, IsCut, joined}

-- two crosspoints with the same destination and the same source are one
pub same_crosspoint : (x y : Crosspoint) → x.dest ≡ y.dest → x.source ≡ y.source → x ≡ y
same_crosspoint x y dest source = ap (λ dest. crosspoint_of dest x.source) dest ∙ ap (crosspoint_of y.dest) source

-- the answer to a connect tells its crosspoint alone
about_same : (level : Level) (x y : Crosspoint) → is_about level x (point level y.dest) y.source ≡ true → y ≡ x
about_same level x y e =
    let one = and_parts (nat_eq level.matrix level.matrix && nat_eq level.number level.number && nat_eq y.dest x.dest) (option_eq nat_eq y.source x.source) e in
    let two = and_parts (nat_eq level.matrix level.matrix && nat_eq level.number level.number) (nat_eq y.dest x.dest) one.0 in
    same_crosspoint y x (eqb-true y.dest x.dest two.1) (same_source y.source x.source one.1)

pub answers_same : (level : Level) (x y : Crosspoint) → is_answer level x (connected level y) ≡ true → y ≡ x
answers_same level x y = by (is_short y)
  where
    by : (short : Bool) → is_answer level x (cond short (Connected (point level y.dest) y.source) (ExtConnected (point level y.dest) y.source)) ≡ true → y ≡ x
    by true e = about_same level x y (and_parts (is_short x) (is_about level x (point level y.dest) y.source) e).1
    by false e = about_same level x y (and_parts (not (is_short x)) (is_about level x (point level y.dest) y.source) e).1

-- the frame makes a connect, and tells so
makes : (level : Level) (carried : Carried) (copy : Crosspoint) → made_by carried (connect level copy) ≡ carries carried copy.dest copy.source
makes level carried copy =
    elim (is_short copy) as (λ short. made_by carried (cond short (Connect (point level copy.dest) copy.source) (ExtConnect (point level copy.dest) copy.source)) ≡ carries carried copy.dest copy.source) [
      | true ↦ refl
      | false ↦ refl
    ]

pub tells : (level : Level) (copy : Crosspoint) → told_by (connect level copy) ≡ connected level copy ∷ []
tells level copy =
    elim (is_short copy) as (λ short. told_by (cond short (Connect (point level copy.dest) copy.source) (ExtConnect (point level copy.dest) copy.source)) ≡ cond short (Connected (point level copy.dest) copy.source) (ExtConnected (point level copy.dest) copy.source) ∷ []) [
      | true ↦ refl
      | false ↦ refl
    ]

carries_here : (carried : Carried) (dest : ℕ) (source : Option ℕ) (other : ℕ) → other ≡ dest → carries carried dest source other ≡ source
carries_here carried dest source other same = ap (λ b. cond b source (carried other)) (eq-eqb other dest same)

carries_there : (carried : Carried) (dest : ℕ) (source : Option ℕ) (other : ℕ) → other ≢ dest → carries carried dest source other ≡ carried other
carries_there carried dest source other apart = ap (λ b. cond b source (carried other)) (ne_eqb other dest apart)

-- what is left settled when a destination isn't any more, and what is new when one is
pub still_settled : (progress : Progress) (at dest : ℕ) (source : Option ℕ) → finite.get (opened progress at).settled dest ≡ Some source → finite.get progress.settled dest ≡ Some source
still_settled progress at dest source e =
    elim (cases_eq dest at) [
      | inl same ↦
          let wrong : None ≡ Some source = sym (ap (finite.get (opened progress at).settled) same ∙ get-put_same progress.settled at None) ∙ e in
          cc
      | inr apart ↦ sym (get-put_other progress.settled at None dest apart) ∙ e
    ]

pub settled_here : (progress : Progress) (crosspoint : Crosspoint) → finite.get (settled_at progress crosspoint).settled crosspoint.dest ≡ Some crosspoint.source
settled_here progress crosspoint = get-put_same progress.settled crosspoint.dest (Some crosspoint.source)

-- A message is lost, on the way to the frame.
pub IsKept-forth : (world : World) (before : List Message) (lost : Message) (behind : List Message) → IsKept world → world.to_frame ≡ before ++ lost ∷ behind → IsKept (with_forth world (before ++ behind))
IsKept-forth world before lost behind is way = by (cut (connect world.driver.level) is.forth before lost behind (sym way ∙ is.to_frame))
  where
    by : IsCut (connect world.driver.level) is.forth before lost behind → IsKept (with_forth world (before ++ behind))
    by at = record {
      is_driver = is.is_driver;
      before = is.before;
      present = is.present;
      forth = at.front ++ at.rest;
      back = is.back;
      to_frame = joined (connect world.driver.level) at.front at.rest before behind at.before_is at.behind_is;
      to_driver = is.to_driver;
      rounds = subst (InRounds is.before is.present) after (rounds_lose is.before is.present (is.back ++ at.front) at.copy at.rest (subst (InRounds is.before is.present) was is.rounds));
      sent = is.sent;
      over = λ none. each (IsOver world.driver.progress.settled is.present) (is.over none);
      agree = each (Agrees world.driver.progress.settled) is.agree;
      answered = is.answered;
      had = is.had;
    }
      where
        was : is.back ++ is.forth ≡ (is.back ++ at.front) ++ at.copy ∷ at.rest
        was = ap (λ forth. is.back ++ forth) at.parts ∙ sym (append_assoc is.back at.front (at.copy ∷ at.rest))

        after : (is.back ++ at.front) ++ at.rest ≡ is.back ++ (at.front ++ at.rest)
        after = append_assoc is.back at.front at.rest

        each : (P : Crosspoint → Type 0) → AllByRecursion P (is.back ++ is.forth) → AllByRecursion P (is.back ++ (at.front ++ at.rest))
        each P h = subst (AllByRecursion P) after (each_lose P (is.back ++ at.front) at.copy at.rest (subst (AllByRecursion P) was h))

-- A message is lost, on the way back.
pub IsKept-back : (world : World) (before : List Message) (lost : Message) (behind : List Message) → IsKept world → world.to_driver ≡ before ++ lost ∷ behind → IsKept (with_back world (before ++ behind))
IsKept-back world before lost behind is way = by (cut (connected world.driver.level) is.back before lost behind (sym way ∙ is.to_driver))
  where
    by : IsCut (connected world.driver.level) is.back before lost behind → IsKept (with_back world (before ++ behind))
    by at = record {
      is_driver = is.is_driver;
      before = is.before;
      present = is.present;
      forth = is.forth;
      back = at.front ++ at.rest;
      to_frame = is.to_frame;
      to_driver = joined (connected world.driver.level) at.front at.rest before behind at.before_is at.behind_is;
      rounds = subst (InRounds is.before is.present) after (rounds_lose is.before is.present at.front at.copy (at.rest ++ is.forth) (subst (InRounds is.before is.present) was is.rounds));
      sent = is.sent;
      over = λ none. each (IsOver world.driver.progress.settled is.present) (is.over none);
      agree = each (Agrees world.driver.progress.settled) is.agree;
      answered = each_lose (λ copy. copy ≡ is.present → world.carried copy.dest ≡ copy.source) at.front at.copy at.rest
          (subst (AllByRecursion (λ copy. copy ≡ is.present → world.carried copy.dest ≡ copy.source)) at.parts is.answered);
      had = is.had;
    }
      where
        was : is.back ++ is.forth ≡ at.front ++ at.copy ∷ (at.rest ++ is.forth)
        was = ap (λ back. back ++ is.forth) at.parts ∙ append_assoc at.front (at.copy ∷ at.rest) is.forth

        after : at.front ++ (at.rest ++ is.forth) ≡ (at.front ++ at.rest) ++ is.forth
        after = sym (append_assoc at.front at.rest is.forth)

        each : (P : Crosspoint → Type 0) → AllByRecursion P (is.back ++ is.forth) → AllByRecursion P ((at.front ++ at.rest) ++ is.forth)
        each P h = subst (AllByRecursion P) after (each_lose P at.front at.copy (at.rest ++ is.forth) (subst (AllByRecursion P) was h))

-- The frame takes a message: the list of the copies stays as it is.
module _ (world : World) (is : IsKept world) (copy : Crosspoint) (rest : List Crosspoint) (parts : is.forth ≡ copy ∷ rest) where
  moved : is.back ++ is.forth ≡ (is.back ++ copy ∷ []) ++ rest
  moved = ap (λ forth. is.back ++ forth) parts ∙ sym (append_assoc is.back (copy ∷ []) rest)

  carried_now : Carried
  carried_now = carries world.carried copy.dest copy.source

  agrees : Agrees world.driver.progress.settled copy
  agrees = (each_right (Agrees world.driver.progress.settled) is.back (copy ∷ rest) (subst (λ forth. AllByRecursion (Agrees world.driver.progress.settled) (is.back ++ forth)) parts is.agree)).0

  had_now : (dest : ℕ) (source : Option ℕ) → finite.get world.driver.progress.settled dest ≡ Some source → carries world.carried copy.dest copy.source dest ≡ source
  had_now dest source e =
      elim (cases_eq dest copy.dest) [
        | inl same ↦
            carries_here world.carried copy.dest copy.source dest same
            ∙ sym (agrees source (ap (finite.get world.driver.progress.settled) (sym same) ∙ e))
        | inr apart ↦ carries_there world.carried copy.dest copy.source dest apart ∙ is.had dest source e
      ]

  answered_now : AllByRecursion (λ one. one ≡ is.present → carries world.carried copy.dest copy.source one.dest ≡ one.source) (is.back ++ copy ∷ [])
  answered_now =
      elim (rounds_at is.before is.present is.back copy rest (subst (λ forth. InRounds is.before is.present (is.back ++ forth)) parts is.rounds)) [
        | inl present ↦ each_join Q is.back (copy ∷ []) (each_map (λ one. one ≡ is.present → world.carried one.dest ≡ one.source) Q (λ one _. now present one) is.back is.answered) (now present copy, tt)
        | inr old ↦ each_join Q is.back (copy ∷ []) (each_map (λ one. one ≢ is.present) Q (λ one other same. absurd (other same)) is.back old.1) ((λ same. absurd (old.0 same)), tt)
      ]
    where
      Q : Crosspoint → Type 0
      Q one = one ≡ is.present → carries world.carried copy.dest copy.source one.dest ≡ one.source

      now : copy ≡ is.present → (one : Crosspoint) → one ≡ is.present → carries world.carried copy.dest copy.source one.dest ≡ one.source
      now present one same =
          let equal : one ≡ copy = same ∙ sym present in
          carries_here world.carried copy.dest copy.source one.dest (ap (λ (x : Crosspoint). x.dest) equal) ∙ sym (ap (λ (x : Crosspoint). x.source) equal)

  pub kept_taken : (to_frame : List Message) → to_frame ≡ map (connect world.driver.level) rest → IsKept (record {
    driver = world.driver;
    to_frame = to_frame;
    to_driver = world.to_driver ++ connected world.driver.level copy ∷ [];
    carried = carries world.carried copy.dest copy.source;
  })
  kept_taken to_frame way = record {
    is_driver = is.is_driver;
    before = is.before;
    present = is.present;
    forth = rest;
    back = is.back ++ copy ∷ [];
    to_frame = way;
    to_driver = joined (connected world.driver.level) is.back (copy ∷ []) world.to_driver (connected world.driver.level copy ∷ []) is.to_driver refl;
    rounds = subst (InRounds is.before is.present) moved is.rounds;
    sent = is.sent;
    over = λ none. subst (AllByRecursion (IsOver world.driver.progress.settled is.present)) moved (is.over none);
    agree = subst (AllByRecursion (Agrees world.driver.progress.settled)) moved is.agree;
    answered = answered_now;
    had = had_now;
  }

pub IsKept-taken : (world : World) (first : Message) (rest : List Message) → IsKept world → world.to_frame ≡ first ∷ rest → IsKept (takes world first rest)
IsKept-taken world first rest is way = by (cut (connect world.driver.level) is.forth [] first rest (sym way ∙ is.to_frame))
  where
    by : IsCut (connect world.driver.level) is.forth [] first rest → IsKept (takes world first rest)
    by at = go at.front at.parts at.before_is
      where
        go : (front : List Crosspoint) → is.forth ≡ front ++ at.copy ∷ at.rest → [] ≡ map (connect world.driver.level) front → IsKept (takes world first rest)
        go (x ∷ xs) parts e = cc
        go [] parts e =
            subst (λ message. IsKept (takes world message rest)) (sym at.message_is)
            (rw (makes world.driver.level world.carried at.copy, tells world.driver.level at.copy) (kept_taken world is at.copy at.rest parts rest at.behind_is))
