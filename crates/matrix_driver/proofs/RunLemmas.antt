-- What is kept of the rounds over a whole run.
use Rattle.std.proofs.Common.{◌≡◌, Bool, true, false, List, [], ◌∷◌, ◌++◌, map, Option, Some, None, refl, sym, ap, subst, ◌∙◌}
use Rattle.std.specs.Ordering.{nat_cmp}
use Rattle.std.specs.FinMap as finite
use Rattle.swp08_messages.specs.declared.message.Message.{Message}
use Rattle.matrix_driver.specs.declared.crosspoint.Crosspoint.{Crosspoint}
use Rattle.matrix_driver.specs.declared.level.Level.{Level}
use Rattle.matrix_driver.specs.Levels.{IsLevel}
use Rattle.matrix_driver.specs.Messages.{connected, is_answer}
use Rattle.matrix_driver.specs.Progress.{crosspoint_of, next, settled_at}
use Rattle.matrix_driver.specs.Driver.{made, hears}
use Rattle.matrix_driver.specs.World.{World, Carried, Step, Wanted, Refused, Overdue, LostForth, LostBack, Taken, Told, new_world, with_back, with_forth, Leads, Runs}
use Rattle.matrix_driver.specs.Rounds.{IsKept}
use Rattle.matrix_driver.specs.Laws.{AlwaysHad}
use Rattle.matrix_driver.proofs.DriverLemmas.{IsDriver-start}
use Rattle.matrix_driver.proofs.Copies.{cut, IsCut}
use Rattle.matrix_driver.proofs.RoundLemmas.{answers_same, IsKept-forth, IsKept-back, IsKept-taken}
use Rattle.matrix_driver.proofs.EventLemmas.{after, IsKept-silent, IsKept-wants, IsKept-repeats, kept_made}

-- at the start nothing is on the way
pub IsKept-start : (level : Level) (carried : Carried) → IsLevel level → IsKept (new_world level carried)
IsKept-start level carried is = record {
  is_driver = IsDriver-start level is;
  before = crosspoint_of 0 None;
  present = crosspoint_of 0 None;
  forth = [];
  back = [];
  to_frame = refl;
  to_driver = refl;
  rounds = tt;
  sent = λ copy e. cc;
  over = λ _. tt;
  agree = tt;
  answered = tt;
  had = λ dest source e.
      let wrong : None ≡ Some source = sym (finite.get-empty nat_cmp dest) ∙ e in
      cc;
}

-- The driver hears a message.
module _ (world : World) (first : Message) (rest : List Message) (is : IsKept world) (way : world.to_driver ≡ first ∷ rest) where
  left : IsKept (with_back world rest)
  left = IsKept-back world [] first rest is way

  pub IsKept-told : IsKept (after (with_back world rest) (hears world.driver world.driver.outstanding first))
  IsKept-told = by world.driver.outstanding refl
    where
      fits : (outstanding : Crosspoint) → world.driver.outstanding ≡ Some outstanding → is_answer world.driver.level outstanding first ≡ true → IsKept (after (with_back world rest) (made world.driver outstanding))
      fits outstanding e answers = go (cut (connected world.driver.level) is.back [] first rest (sym way ∙ is.to_driver))
        where
          go : IsCut (connected world.driver.level) is.back [] first rest → IsKept (after (with_back world rest) (made world.driver outstanding))
          go at = to at.front at.parts at.before_is
            where
              same : at.copy ≡ outstanding
              same = answers_same world.driver.level outstanding at.copy (subst (λ message. is_answer world.driver.level outstanding message ≡ true) at.message_is answers)

              to : (front : List Crosspoint) → is.back ≡ front ++ at.copy ∷ at.rest → [] ≡ map (connected world.driver.level) front → IsKept (after (with_back world rest) (made world.driver outstanding))
              to (x ∷ xs) parts none = cc
              to [] parts none =
                  subst (λ copy. IsKept (after (with_back world rest) (made world.driver copy))) same
                  (kept_made world is at.copy at.rest parts (same ∙ is.sent outstanding e) rest at.behind_is (next (settled_at world.driver.progress at.copy)) refl)

      hearing : (outstanding : Crosspoint) → world.driver.outstanding ≡ Some outstanding → (b : Bool) → is_answer world.driver.level outstanding first ≡ b → IsKept (after (with_back world rest) (hears world.driver (Some outstanding) first))
      hearing outstanding e true answers = rw answers (fits outstanding e answers)
      hearing outstanding e false answers = rw answers (IsKept-silent (with_back world rest) left)

      by : (outstanding : Option Crosspoint) → world.driver.outstanding ≡ outstanding → IsKept (after (with_back world rest) (hears world.driver world.driver.outstanding first))
      by None e =
          subst (λ outstanding. IsKept (after (with_back world rest) (hears world.driver outstanding first))) (sym e) (IsKept-silent (with_back world rest) left)
      by (Some outstanding) e =
          subst (λ outstanding. IsKept (after (with_back world rest) (hears world.driver outstanding first))) (sym e)
          (hearing outstanding e (is_answer world.driver.level outstanding first) refl)

-- every step keeps it
pub IsKept-leads : (old new : World) (step : Step) → IsKept old → Leads old step new → IsKept new
IsKept-leads old new (Wanted dest source) is h = subst IsKept (sym h.is) (IsKept-wants old (crosspoint_of dest source) is h.may)
IsKept-leads old new Refused is h = subst IsKept (sym h.is) (IsKept-repeats old is)
IsKept-leads old new Overdue is h = subst IsKept (sym h.is) (IsKept-repeats old is)
IsKept-leads old new LostForth is h =
    subst IsKept (sym (h.others ∙ ap (with_forth old) h.one.is)) (IsKept-forth old h.one.before h.one.lost h.one.behind is h.one.was)
IsKept-leads old new LostBack is h =
    subst IsKept (sym (h.others ∙ ap (with_back old) h.one.is)) (IsKept-back old h.one.before h.one.lost h.one.behind is h.one.was)
IsKept-leads old new Taken is h = subst IsKept (sym h.is) (IsKept-taken old h.first h.rest is h.way)
IsKept-leads old new Told is h = subst IsKept (sym h.is) (IsKept-told old h.first h.rest is h.way)

pub IsKept-runs : (old : World) (steps : List Step) (new : World) → IsKept old → Runs old steps new → IsKept new
IsKept-runs old [] new is h = subst IsKept h is
IsKept-runs old (step ∷ steps) new is h = IsKept-runs h.0 steps new (IsKept-leads old h.0 step is h.1) h.2

pub always_had : (level : Level) → AlwaysHad level
always_had level is carried steps world runs = (IsKept-runs (new_world level carried) steps world (IsKept-start level carried is) runs).had
