-- What events make of a driver of the bench level.
use Rattle.std.proofs.Common.{◌≡◌, ℕ, nat_eq, Bool, true, false, ◌||◌, is_some, cond, Option, Some, None, refl, sym, ap, subst, ◌∙◌, arith, eqb-true}
use Rattle.std.specs.FinMap as finite
use Rattle.swp08_messages.specs.declared.message.Message.{Message}
use Rattle.matrix_driver.specs.declared.crosspoint.Crosspoint.{Crosspoint}
use Rattle.matrix_driver.specs.declared.level.Level.{Level}
use Rattle.matrix_driver.specs.declared.event.DriverEvent.TheVariants.{Want, Heard, Timeout}
use Rattle.matrix_driver.specs.Messages.{is_answer}
use Rattle.matrix_driver.specs.Progress.{Progress, crosspoint_of, is_settled, next, settled_at}
use Rattle.matrix_driver.specs.Driver.{Data, happens, wants, hears, sends}
use Rattle.matrix_driver.proofs.DriverLemmas.{happens_level, hears_wants, get-wanted, next-IsNext}
use Rattle.command_drive.specs.DriveInside.{IsBench, IsBenchDriver}

-- the driver drives the bench level still, and what is sent is outstanding
pub record IsBenchOutcome (driver : Data) (sent : Option Crosspoint) : Type 0 where
  pub is_driver : IsBenchDriver driver
  pub kept : (crosspoint : Crosspoint) → sent ≡ Some crosspoint → driver.outstanding ≡ Some crosspoint

is_same : (one other : Crosspoint) → Some one ≡ Some other → IsBench one → IsBench other
is_same one other e is = subst IsBench same is
  where
    same : one ≡ other
    same = cc

-- a crosspoint by its parts
by_parts : (crosspoint : Crosspoint) → IsBench (crosspoint_of crosspoint.dest crosspoint.source) → IsBench crosspoint
by_parts crosspoint is = record { dest = is.dest; source = is.source; is = is.is; few = is.few }

-- ---- a want
module _ (driver : Data) (crosspoint : Crosspoint) (is : IsBenchDriver driver) (bench : IsBench crosspoint) where
  busy : Bool
  busy = is_some driver.outstanding || is_settled driver.progress crosspoint

  want_outstanding : (b : Bool) → (is_some driver.outstanding || is_settled driver.progress crosspoint) ≡ b → (other : Crosspoint) → (wants driver crosspoint).driver.outstanding ≡ Some other → IsBench other
  want_outstanding true e other h =
      let so : driver.outstanding ≡ Some other = rw e at h in
      is.outstanding other so
  want_outstanding false e other h =
      let so : Some crosspoint ≡ Some other = rw e at h in
      is_same crosspoint other so bench

  want_kept : (b : Bool) → (is_some driver.outstanding || is_settled driver.progress crosspoint) ≡ b → (other : Crosspoint) → (wants driver crosspoint).sent ≡ Some other → (wants driver crosspoint).driver.outstanding ≡ Some other
  want_kept true e other h =
      let wrong : None ≡ Some other = rw e at h in
      absurd cc
  want_kept false e other h =
      let so : Some crosspoint ≡ Some other = rw e at h in
      rw e so

  want_wants : (dest : ℕ) (source : Option ℕ) → finite.get (wants driver crosspoint).driver.progress.wants dest ≡ Some source → IsBench (crosspoint_of dest source)
  want_wants dest source h = by (nat_eq dest crosspoint.dest) refl
    where
      known : cond (nat_eq dest crosspoint.dest) (Some crosspoint.source) (finite.get driver.progress.wants dest) ≡ Some source
      known = sym (get-wanted driver crosspoint dest) ∙ h

      by : (b : Bool) → nat_eq dest crosspoint.dest ≡ b → IsBench (crosspoint_of dest source)
      by true e =
          let same : dest ≡ crosspoint.dest = eqb-true dest crosspoint.dest e in
          let chosen : Some crosspoint.source ≡ Some source = sym (ap (λ b. cond b (Some crosspoint.source) (finite.get driver.progress.wants dest)) e) ∙ known in
          let also : crosspoint.source ≡ source = cc in
          record {
            dest = omega (arith, same, bench.dest);
            source = bench.source;
            is = sym also ∙ bench.is;
            few = bench.few;
          }
      by false e =
          is.wants dest source (sym (ap (λ b. cond b (Some crosspoint.source) (finite.get driver.progress.wants dest)) e) ∙ known)

pub outcome_want : (driver : Data) (dest : ℕ) (source : Option ℕ) → IsBenchDriver driver → IsBench (crosspoint_of dest source) → IsBenchOutcome (happens driver (Want dest source)).driver (happens driver (Want dest source)).sent
outcome_want driver dest source is bench = record {
  is_driver = record {
    level = happens_level driver (Want dest source) ∙ is.level;
    wants = want_wants driver (crosspoint_of dest source) is bench;
    outstanding = want_outstanding driver (crosspoint_of dest source) is bench (is_some driver.outstanding || is_settled driver.progress (crosspoint_of dest source)) refl;
  };
  kept = want_kept driver (crosspoint_of dest source) is bench (is_some driver.outstanding || is_settled driver.progress (crosspoint_of dest source)) refl;
}

-- ---- a message that is heard
sends_outstanding : (level : Level) (progress : Progress) (following : Option Crosspoint) → next progress ≡ following → ((dest : ℕ) (source : Option ℕ) → finite.get progress.wants dest ≡ Some source → IsBench (crosspoint_of dest source))
    → (other : Crosspoint) → (sends level progress following).driver.outstanding ≡ Some other → IsBench other
sends_outstanding level progress None e wants other h = cc
sends_outstanding level progress (Some crosspoint) e wants other h =
    is_same crosspoint other h (by_parts crosspoint (wants crosspoint.dest crosspoint.source (next-IsNext progress crosspoint e).wanted))

sends_kept : (level : Level) (progress : Progress) (following : Option Crosspoint) (other : Crosspoint) → (sends level progress following).sent ≡ Some other → (sends level progress following).driver.outstanding ≡ Some other
sends_kept level progress None other h = cc
sends_kept level progress (Some crosspoint) other h = h

module _ (driver : Data) (message : Message) (is : IsBenchDriver driver) where
  hears_outstanding : (outstanding : Option Crosspoint) → driver.outstanding ≡ outstanding → (other : Crosspoint) → (hears driver outstanding message).driver.outstanding ≡ Some other → IsBench other
  hears_outstanding None e other h = is.outstanding other h
  hears_outstanding (Some crosspoint) e other h = by (is_answer driver.level crosspoint message) refl
    where
      by : (b : Bool) → is_answer driver.level crosspoint message ≡ b → IsBench other
      by true answers =
          let so : (sends driver.level (settled_at driver.progress crosspoint) (next (settled_at driver.progress crosspoint))).driver.outstanding ≡ Some other = rw answers at h in
          sends_outstanding driver.level (settled_at driver.progress crosspoint) (next (settled_at driver.progress crosspoint)) refl is.wants other so
      by false answers =
          let so : driver.outstanding ≡ Some other = rw answers at h in
          is.outstanding other so

  hears_kept : (outstanding : Option Crosspoint) (other : Crosspoint) → (hears driver outstanding message).sent ≡ Some other → (hears driver outstanding message).driver.outstanding ≡ Some other
  hears_kept None other h = cc
  hears_kept (Some crosspoint) other h = by (is_answer driver.level crosspoint message) refl
    where
      by : (b : Bool) → is_answer driver.level crosspoint message ≡ b → (hears driver (Some crosspoint) message).driver.outstanding ≡ Some other
      by true answers =
          let so : (sends driver.level (settled_at driver.progress crosspoint) (next (settled_at driver.progress crosspoint))).sent ≡ Some other = rw answers at h in
          rw answers (sends_kept driver.level (settled_at driver.progress crosspoint) (next (settled_at driver.progress crosspoint)) other so)
      by false answers =
          let wrong : None ≡ Some other = rw answers at h in
          absurd cc

pub outcome_heard : (driver : Data) (message : Message) → IsBenchDriver driver → IsBenchOutcome (happens driver (Heard message)).driver (happens driver (Heard message)).sent
outcome_heard driver message is = record {
  is_driver = record {
    level = happens_level driver (Heard message) ∙ is.level;
    wants = λ dest source h.
        is.wants dest source (sym (ap (λ wanted. finite.get wanted dest) (hears_wants driver driver.outstanding message)) ∙ h);
    outstanding = hears_outstanding driver message is driver.outstanding refl;
  };
  kept = hears_kept driver message is driver.outstanding;
}

-- ---- an answer that is overdue
pub outcome_overdue : (driver : Data) → IsBenchDriver driver → IsBenchOutcome (happens driver Timeout).driver (happens driver Timeout).sent
outcome_overdue driver is = record { is_driver = is; kept = λ crosspoint h. h }
