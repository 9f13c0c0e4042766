-- What the laws say of rows that leave the files alone.
use Rattle.std.proofs.Common.{◌≡◌, ◌⊎◌, inl, inr, ℕ, ◌<◌, Bool, true, false, List, [], ◌∷◌, Ok, refl, sym, ◌∙◌, ap, subst, arith}
use Rattle.std.proofs.lemmas.Bool.{false≢true}
use Rattle.ctl_io.specs.Faults.{count_after}
use Rattle.command_words.specs.Parts.{Part, Last, AllSaid}
use Rattle.command_rows.specs.Moment.{Snapshot, Output, Moment}
use Rattle.command_rows.specs.End.{End, done, ended, out_of_memory, unwritten_status, IsWritten}
use Rattle.command_rows.specs.Opener.{AllGiven}
use Rattle.command_rows.specs.Row.{Alone, RowRuns}
use Rattle.command_rows.specs.Shown.{AllShow}
use Rattle.command_rows.specs.Sound.{IsOneOf, IsSound, Nothing}
use Rattle.command_rows.specs.RowLaws.{WasKept}
use Rattle.command_rows.proofs.RowLawsLemmas.{written_or}
use Rattle.command_rows.proofs.AlwaysLemmas.{worked}

-- An end of a row that leaves the files alone.
pub record IsAloneEnd (statuses : List ℕ) (end : End) : Type 0 where
  pub known : IsOneOf statuses end.status
  pub few : end.status < unwritten_status
  pub memory : end.status ≡ 1 → end ≡ out_of_memory
  pub no_fault : end.is_file_fault ≡ false

-- memory ran out, all was done, or something was refused
pub memory_end : (more : List ℕ) (end : End) → end ≡ out_of_memory → IsAloneEnd (0 ∷ 1 ∷ more) end
memory_end more end is =
    subst (IsAloneEnd (0 ∷ 1 ∷ more)) (sym is) (record { known = inr (inl refl); few = omega arith; memory = λ one. refl; no_fault = refl })

pub done_end : (more : List ℕ) (text : List ℕ) (end : End) → end ≡ done text → IsAloneEnd (0 ∷ 1 ∷ more) end
done_end more text end is =
    subst (IsAloneEnd (0 ∷ 1 ∷ more)) (sym is) (record { known = inl refl; few = omega arith; memory = λ one. absurd (omega (arith, one)); no_fault = refl })

pub refused_end : (more : List ℕ) (text : List ℕ) (end : End) → end ≡ ended 5 text → IsAloneEnd (0 ∷ 1 ∷ 5 ∷ more) end
refused_end more text end is =
    subst (IsAloneEnd (0 ∷ 1 ∷ 5 ∷ more)) (sym is) (record { known = inr (inr (inl refl)); few = omega arith; memory = λ one. absurd (omega (arith, one)); no_fault = refl })

-- a promise of such ends is sound
module _ (parts : List Part) (last : Last) (Ends : AllGiven parts last → End → Type 0) where
  pub alone_sound : (statuses : List ℕ) → ((given : AllGiven parts last) (end : End) → Ends given end → IsAloneEnd statuses end) → IsSound parts last (Alone parts last Ends) statuses
  alone_sound statuses so = record {
    own = λ given before now end status ends.
        let its = so given end ends.0 in
        record { known = its.known; few = its.few; memory = λ one. record { front = []; tells = its.memory one }; fault = λ is. absurd (false≢true (sym its.no_fault ∙ is)) };
    leaves = λ given before now end status ends.
        let its = so given end ends.0 in
        record {
          sources = ap (λ (s : Snapshot). s.custody.sources.out) ends.1;
          disks = ap (λ (s : Snapshot). s.custody.disks.out) ends.1;
          sinks = ap (λ (s : Snapshot). s.custody.sinks.out) ends.1;
          unmade = λ none. ap (λ (s : Snapshot). s.custody.sinks) ends.1;
          others = λ name other opening. ap (λ (s : Snapshot). s.held name opening) ends.1;
          faults = ap (λ (s : Snapshot). s.faults) ends.1 ∙ sym (ap (λ (b : Bool). count_after b before.files.faults) its.no_fault);
        };
  }

  -- what is given leads to this status, unless memory runs out
  pub alone_with : (said : AllSaid parts last) (given : AllGiven parts last) (wanted : ℕ) (before now : Moment) (status : ℕ) → ((end : End) → Ends given end → (end.status ≡ wanted) ⊎ (end.status ≡ 1))
      → AllShow parts last said before.files.held (Ok given) → RowRuns parts last (Alone parts last Ends) said before now status → (status ≡ wanted) ⊎ WasKept before now status
  alone_with said given wanted before now status so shows runs = elim (worked parts last (Alone parts last Ends) said given before now status shows runs) [
    | inl works ↦ elim (written_or works.ends.end status before now works.ends.comes) [
      | inl written ↦ elim (so works.ends.end works.ends.ends.0) [
        | inl is ↦ inl (written.status_is ∙ is)
        | inr is ↦ inr (inl (written.status_is ∙ is))
      ]
      | inr not ↦ inr (inr (inr not))
    ]
    | inr kept ↦ inr kept
  ]

-- an end that was written as another
pub written_as : (end its : End) (status : ℕ) (before now : Output) → end ≡ its → IsWritten end status before now → IsWritten its status before now
written_as end its status before now is written = subst (λ (e : End). IsWritten e status before now) is written

-- a promise that no end keeps is sound
pub nothing_sound : {parts : List Part} {last : Last} {statuses : List ℕ} → IsSound parts last (Nothing parts last) statuses
nothing_sound = record { own = λ given before now end status ends. absurd ends; leaves = λ given before now end status ends. absurd ends }
