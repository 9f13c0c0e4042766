-- What the status of a format tells.
use Rattle.std.proofs.Common.{◌≡◌, ◌≢◌, ◌⊎◌, inl, inr, ℕ, ◌+◌, ◌-◌, Bool, true, List, [], ◌∷◌, Option, Some, None, Ok, refl, sym, ◌∙◌, ap, subst, arith}
use Rattle.std.specs.Prelude.{Contains}
use Rattle.std.proofs.lemmas.Bool.{false≢true}
use Rattle.std.proofs.lemmas.List.Elements.{Contains-push}
use Rattle.ctl_io.specs.Custody.{FilesCustody, DiskEnd}
use Rattle.ctl_io.specs.Faults.{count_after, is_faulty}
use Rattle.ctl_io.specs.Held.{Held, IsNamed, Stays}
use Rattle.ctl_io.specs.Sink.{appended}
use Rattle.plant_config.specs.Plant.{PlantData}
use Rattle.plant_snapshot.specs.StandsFor.{store_size}
use Rattle.command_words.specs.Parts.{NoMore, AllSaid}
use Rattle.command_rows.specs.Moment.{Snapshot, Moment}
use Rattle.command_rows.specs.LentDisk.{FailsToLend, GivesDisk}
use Rattle.command_rows.specs.End.{End, done, file_failed}
use Rattle.command_rows.specs.RowLaws.{WasWorked}
use Rattle.command_rows.specs.Sound.{IsSoundEnd, LeavesSound, IsSound, IsSilent}
use Rattle.command_rows.proofs.OpenerLemmas.{counts}
use Rattle.command_rows.proofs.RowLawsLemmas.{have_cause, written_or}
use Rattle.command_rows.proofs.AlwaysLemmas.{worked}
use Rattle.command_rows.proofs.SoundLemmas.{worked_cause}
use Rattle.command_format.specs.Format.{parts, formatted, FormatEnds, FormatRow, HasFailed, IsFormatted}
use Rattle.command_format.specs.Laws.{ZeroHasFormatted, ThreeHasFault, PlantEndsWithZero}

-- the statuses
own_end : (plant : PlantData) (name : List ℕ) (before now : Moment) (end : End) (status : ℕ) → FormatEnds plant name before now end status → IsSoundEnd (0 ∷ 3 ∷ []) end
own_end plant name before now end status (inl (is, gives)) =
    subst (IsSoundEnd (0 ∷ 3 ∷ [])) (sym is) (record { known = inl refl; few = omega arith; memory = λ one. absurd (omega (arith, one)); fault = λ so. absurd (false≢true so) })
own_end plant name before now end status (inr (is, failed)) =
    subst (IsSoundEnd (0 ∷ 3 ∷ [])) (sym is) (record { known = inr (inl refl); few = omega arith; memory = λ one. absurd (omega (arith, one)); fault = λ so. refl })

-- what is left of the files
not_shown : (own name : List ℕ) (shown : Option (List ℕ)) → IsNamed own shown → name ≢ own → shown ≢ Some name
not_shown own name None named other is = cc
not_shown own name (Some its) named other is =
    let same : its ≡ name = cc in
    other (sym same ∙ named)

stays_over : (before between now : ℕ → Held) → Stays before between → Stays between now → Stays before now
stays_over before between now first second opening = second opening ∙ first opening

only_own : (own name : List ℕ) → (Contains (own ∷ []) name → ⊥) → name ≢ own
only_own own name other same = other (subst (Contains (own ∷ [])) (sym same) (Contains-push [] own))

gives_sound : (own : List ℕ) (Shows : DiskEnd → Type 0) (end : End) (before now : Snapshot) (gives : GivesDisk own Shows before now) → is_faulty gives.shown.faults ≡ end.is_file_fault → LeavesSound [] (own ∷ []) end before now
gives_sound own Shows end before now gives faulty =
    let lent : gives.with.custody.disks.out ≡ before.custody.disks.out + 1 = ap (λ (c : FilesCustody). c.disks.out) gives.lends.custody in
    let back : now.custody.disks.out ≡ gives.with.custody.disks.out - 1 = ap (λ (c : FilesCustody). c.disks.out) gives.takes.custody in
    record {
      sources = ap (λ (c : FilesCustody). c.sources.out) gives.takes.custody ∙ ap (λ (c : FilesCustody). c.sources.out) gives.lends.custody;
      sinks = ap (λ (c : FilesCustody). c.sinks.out) gives.takes.custody ∙ ap (λ (c : FilesCustody). c.sinks.out) gives.lends.custody;
      disks = omega (arith, lent, back);
      unmade = λ none. ap (λ (c : FilesCustody). c.sinks) gives.takes.custody ∙ ap (λ (c : FilesCustody). c.sinks) gives.lends.custody;
      others = λ name other.
          stays_over (before.held name) (gives.with.held name) (now.held name) (gives.lends.others.held name (only_own own name other))
          (gives.takes.held name (not_shown own name gives.shown.name gives.named (only_own own name other)));
      faults = gives.takes.faults ∙ ap (λ (b : Bool). count_after b gives.with.faults) faulty ∙ ap (count_after end.is_file_fault) gives.lends.faults;
    }

fails_sound : (own : List ℕ) (before now : Snapshot) → FailsToLend own before now → LeavesSound [] (own ∷ []) (file_failed own) before now
fails_sound own before now fails = record {
  sources = ap (λ (c : FilesCustody). c.sources.out) fails.custody;
  sinks = ap (λ (c : FilesCustody). c.sinks.out) fails.custody;
  disks = ap (λ (c : FilesCustody). c.disks.out) fails.custody;
  unmade = λ none. ap (λ (c : FilesCustody). c.sinks) fails.custody;
  others = λ name other. fails.others.held name (only_own own name other);
  faults = fails.faults;
}

own_leaves : (plant : PlantData) (name : List ℕ) (before now : Moment) (end : End) (status : ℕ) → FormatEnds plant name before now end status → LeavesSound [] (name ∷ []) end before.files now.files
own_leaves plant name before now end status (inl (is, gives)) =
    subst (λ (e : End). LeavesSound [] (name ∷ []) e before.files now.files) (sym is)
    (gives_sound name (IsFormatted plant) (done (formatted (store_size plant))) before.files now.files gives (ap is_faulty gives.shows.no_faults))
own_leaves plant name before now end status (inr (is, inl fails)) =
    subst (λ (e : End). LeavesSound [] (name ∷ []) e before.files now.files) (sym is) (fails_sound name before.files now.files fails)
own_leaves plant name before now end status (inr (is, inr gives)) =
    subst (λ (e : End). LeavesSound [] (name ∷ []) e before.files now.files) (sym is)
    (gives_sound name HasFailed (file_failed name) before.files now.files gives gives.shows)

pub sound : IsSound parts NoMore FormatRow (0 ∷ 3 ∷ [])
sound = record {
  own = λ given before now end status ends. own_end given.0 given.1.0 before now end status ends;
  leaves = λ given before now end status ends. own_leaves given.0 given.1.0 before now end status ends;
}

-- what each status tells
status_as : (end its : End) (status : ℕ) → status ≡ end.status → end ≡ its → status ≡ its.status
status_as end its status at is = at ∙ ap (λ (e : End). e.status) is

pub silent : IsSilent parts NoMore FormatRow
silent given before now end status (inl (is, gives)) one = absurd (let h = status_as end (done (formatted (store_size given.0))) 1 (sym one) is in omega (arith, h))
silent given before now end status (inr (is, failed)) one = absurd (let h = status_as end (file_failed given.1.0) 1 (sym one) is in omega (arith, h))

pub zero : ZeroHasFormatted
zero said before now runs =
    let so = (worked_cause parts NoMore FormatRow (0 ∷ 3 ∷ []) sound said before now 0 (inl refl) runs).1 in
    elim so.ends [
      | inl (is, gives) ↦ record {
        plant = so.given.0;
        name = so.given.1.0;
        opened = so.opened;
        lead = so.lead;
        gives = gives;
        appends = so.written.appends ∙ ap (λ (e : End). appended before.output.written e.text) is;
      }
      | inr (is, failed) ↦ absurd (let h = status_as so.end (file_failed so.given.1.0) 0 so.written.status_is is in omega (arith, h))
    ]

-- the files' count where the row was worked
count_so : (said : AllSaid parts NoMore) (before now : Moment) (status : ℕ) (so : WasWorked parts NoMore FormatRow said before now status) → now.files.faults ≡ count_after so.end.is_file_fault before.files.faults
count_so said before now status so =
    (sound.leaves so.given (record before { files = so.opened }) now so.end status so.ends).faults ∙ ap (count_after so.end.is_file_fault) (counts parts NoMore said before.files so.opened (Ok so.given) so.lead)

pub three : ThreeHasFault
three said before now runs = elim (have_cause parts NoMore FormatRow said before now 3 runs) [
  | inl stop ↦ inl stop
  | inr (inl so) ↦ elim so.ends [
    | inl (is, gives) ↦ absurd (let h = status_as so.end (done (formatted (store_size so.given.0))) 3 so.written.status_is is in omega (arith, h))
    | inr (is, failed) ↦ inr (record {
      plant = so.given.0;
      name = so.given.1.0;
      opened = so.opened;
      lead = so.lead;
      failed = failed;
      fault = count_so said before now 3 so ∙ ap (λ (e : End). count_after e.is_file_fault before.files.faults) is;
      appends = so.written.appends ∙ ap (λ (e : End). appended before.output.written e.text) is;
    })
  ]
  | inr (inr cut) ↦ absurd (let h = cut.0 in omega (arith, h))
]

-- what always comes: 0, or the disk failed
always_end : (plant : PlantData) (name : List ℕ) (before now : Moment) (end : End) (status : ℕ) → FormatEnds plant name before now end status → (end.status ≡ 0) ⊎ (end.is_file_fault ≡ true)
always_end plant name before now end status (inl (is, gives)) = inl (ap (λ (e : End). e.status) is)
always_end plant name before now end status (inr (is, failed)) = inr (ap (λ (e : End). e.is_file_fault) is)

pub always : PlantEndsWithZero
always said plant name before now status shows runs = elim (worked parts NoMore FormatRow said (plant, (name, tt)) before now status shows runs) [
  | inr kept ↦ inr kept
  | inl works ↦ elim (written_or works.ends.end status before now works.ends.comes) [
    | inr cut ↦ inr (inr (inr cut))
    | inl written ↦ elim (always_end plant name (record before { files = works.opened }) now works.ends.end status works.ends.ends) [
      | inl is ↦ inl (written.status_is ∙ is)
      | inr fault ↦
          let own = own_end plant name (record before { files = works.opened }) now works.ends.end status works.ends.ends in
          let left = own_leaves plant name (record before { files = works.opened }) now works.ends.end status works.ends.ends in
          let count = left.faults ∙ ap (count_after works.ends.end.is_file_fault) (counts parts NoMore said before.files works.opened (Ok (plant, (name, tt))) works.lead) ∙ ap (λ (b : Bool). count_after b before.files.faults) fault in
          inr (inr (inl (written.status_is ∙ own.fault fault, count)))
    ]
  ]
]
