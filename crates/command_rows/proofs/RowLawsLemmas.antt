-- Why a run of a row ended, whatever its parts are.
use Rattle.std.proofs.Common.{◌≡◌, ◌≢◌, ◌⊎◌, inl, inr, ℕ, ◌-◌, Bool, true, false, List, [], ◌∷◌, length, Err, refl, sym, ◌∙◌, arith}
use Rattle.std.specs.Prelude.{MatchBool}
use Rattle.ctl_io.specs.Held.{Held}
use Rattle.command_words.specs.Parts.{Part, Plant, Whole, Made, Store, Later, Number, Last, NoMore, Wholes, Prefix, AllSaid, SaidLast}
use Rattle.command_rows.specs.Moment.{Snapshot, Moment}
use Rattle.command_rows.specs.End.{End, Stopped, NoMemory, FileMissing, FileFault, PlantRefused, PlantTooLong, TooLong, stopped_end, IsWritten, ComesTo}
use Rattle.command_rows.specs.OpensPlant.{IsBench, OpensFile, is_bench}
use Rattle.command_rows.specs.Opener.{FindsWhole, ReadsAll, LastLeads, AllLead}
use Rattle.command_rows.specs.Row.{Promise}
use Rattle.command_rows.specs.RowLaws.{CouldNotWrite, RowsHaveCause, NoRowTellsUsage, RowsWriteAll, RefusesPlant, StopsAtPlant, FourHasCause}

-- all was written, or a write failed
pub written_or : (end : End) (status : ℕ) (before now : Moment) → ComesTo end status before.output now.output → IsWritten end status before.output now.output ⊎ CouldNotWrite before now status
written_or end status before now (inl written) = inl written
written_or end status before now (inr cut) = inr (cut.status_is, cut.faults)

module _ (parts : List Part) (last : Last) (Ends : Promise parts last) where
  pub have_cause : RowsHaveCause parts last Ends
  have_cause said before now status (inl stop) = elim (written_or (stopped_end stop.stopped) status before now stop.comes) [
    | inl written ↦ inl (record { stopped = stop.stopped; lead = stop.lead; written = written })
    | inr not ↦ inr (inr not)
  ]
  have_cause said before now status (inr done) = elim (written_or done.ends.end status before now done.ends.comes) [
    | inl written ↦ inr (inl (record {
      given = done.given;
      opened = done.opened;
      lead = done.lead;
      end = done.ends.end;
      ends = done.ends.ends;
      own = done.ends.own;
      written = written;
    }))
    | inr not ↦ inr (inr not)
  ]

-- no stop has these statuses
not_2 : (stopped : Stopped) → (stopped_end stopped).status ≢ 2
not_2 NoMemory is = omega (arith, is)
not_2 (FileMissing name) is = omega (arith, is)
not_2 (FileFault name) is = omega (arith, is)
not_2 (PlantRefused why) is = omega (arith, is)
not_2 PlantTooLong is = omega (arith, is)
not_2 (TooLong word) is = omega (arith, is)

pub not_7 : (stopped : Stopped) → (stopped_end stopped).status ≢ 7
not_7 NoMemory is = omega (arith, is)
not_7 (FileMissing name) is = omega (arith, is)
not_7 (FileFault name) is = omega (arith, is)
not_7 (PlantRefused why) is = omega (arith, is)
not_7 PlantTooLong is = omega (arith, is)
not_7 (TooLong word) is = omega (arith, is)

four_refuses : (stopped : Stopped) → (stopped_end stopped).status ≡ 4 → RefusesPlant stopped
four_refuses NoMemory is = absurd (omega (arith, is))
four_refuses (FileMissing name) is = absurd (omega (arith, is))
four_refuses (FileFault name) is = absurd (omega (arith, is))
four_refuses (PlantRefused why) is = tt
four_refuses PlantTooLong is = tt
four_refuses (TooLong word) is = absurd (omega (arith, is))

pub one_memory : (stopped : Stopped) → (stopped_end stopped).status ≡ 1 → stopped ≡ NoMemory
one_memory NoMemory is = refl
one_memory (FileMissing name) is = absurd (omega (arith, is))
one_memory (FileFault name) is = absurd (omega (arith, is))
one_memory (PlantRefused why) is = absurd (omega (arith, is))
one_memory PlantTooLong is = absurd (omega (arith, is))
one_memory (TooLong word) is = absurd (omega (arith, is))

pub no_usage : (parts : List Part) (last : Last) (Ends : Promise parts last) → NoRowTellsUsage parts last Ends
no_usage parts last Ends said before now status runs is = elim (have_cause parts last Ends said before now status runs) [
  | inl stop ↦ not_2 stop.stopped (sym stop.written.status_is ∙ is)
  | inr (inl done) ↦ done.own.not_words (sym done.written.status_is ∙ is)
  | inr (inr cut) ↦ omega (arith, cut.0, is)
]

pub write_all : (parts : List Part) (last : Last) (Ends : Promise parts last) → RowsWriteAll parts last Ends
write_all parts last Ends said before now status runs other = elim (have_cause parts last Ends said before now status runs) [
  | inl stop ↦ stop.written.faults
  | inr (inl done) ↦ done.written.faults
  | inr (inr cut) ↦ absurd (other cut.0)
]

-- plants that are refused
at_file : (b : Bool) (word : List ℕ) (stopped : Stopped) (before now : Snapshot) → RefusesPlant stopped → MatchBool b (IsBench (Err stopped) × (now ≡ before)) (OpensFile word before now (Err stopped))
    → (b ≡ false) × OpensFile word before now (Err stopped)
at_file false word stopped before now refuses leads = (refl, leads)
at_file true word (PlantRefused why) before now refuses leads = absurd leads.0
at_file true word PlantTooLong before now refuses leads = absurd leads.0
at_file true word NoMemory before now refuses leads = absurd refuses
at_file true word (FileMissing name) before now refuses leads = absurd refuses
at_file true word (FileFault name) before now refuses leads = absurd refuses
at_file true word (TooLong its) before now refuses leads = absurd refuses

-- only a plant's word leads to that
not_whole : {A : Type 0} (word : List ℕ) (most : ℕ) (name : List ℕ) (held : Held) (stopped : Stopped) → RefusesPlant stopped → FindsWhole word most name held (Err stopped) → A
not_whole word most name held NoMemory refuses finds = absurd refuses
not_whole word most name held (FileMissing missing) refuses finds = absurd refuses
not_whole word most name held (FileFault failed) refuses finds = absurd refuses
not_whole word most name held (PlantRefused why) refuses finds = absurd finds
not_whole word most name held PlantTooLong refuses finds = absurd finds
not_whole word most name held (TooLong its) refuses finds = absurd refuses

not_all : {A : Type 0} (word : List ℕ) (most : ℕ) (names : List (List ℕ)) (before now : Snapshot) (stopped : Stopped) → RefusesPlant stopped → ReadsAll word most names before now (Err stopped) → A
not_all word most [] before now stopped refuses leads = absurd leads
not_all word most (name ∷ later) before now stopped refuses (inl leads) = not_whole word most name (before.held name 0) stopped refuses leads.finds
not_all word most (name ∷ later) before now stopped refuses (inr on) = not_all word (most - length on.bytes) later on.between now stopped refuses on.others

not_last : {A : Type 0} (last : Last) (said : SaidLast last) (before now : Snapshot) (stopped : Stopped) → RefusesPlant stopped → LastLeads last said before now (Err stopped) → A
not_last NoMore said before now stopped refuses leads = absurd leads
not_last (Wholes kind) said before now stopped refuses leads = not_all kind.word kind.longest said before now stopped refuses leads
not_last Prefix said before now stopped refuses leads = absurd leads

-- The name of the plant's file at which opening is stopped.
pub record StopsSomewhere (parts : List Part) (last : Last) (said : AllSaid parts last) (stopped : Stopped) (before now : Snapshot) : Type 0 where
  pub name : List ℕ
  pub at : StopsAtPlant parts last said name stopped before now

at_plant : (parts : List Part) (last : Last) (said : AllSaid parts last) (stopped : Stopped) (before now : Snapshot) → RefusesPlant stopped → AllLead parts last said before now (Err stopped)
    → StopsSomewhere parts last said stopped before now
at_plant [] last said stopped before now refuses lead = not_last last said before now stopped refuses lead
at_plant (Plant ∷ parts) last said stopped before now refuses (inl lead) =
    let so = at_file (is_bench said.0) said.0 stopped before now refuses lead in
    record { name = said.0; at = inl (refl, so.0, so.1) }
at_plant (Whole kind ∷ parts) last said stopped before now refuses (inl lead) = not_whole kind.word kind.longest said.0 (before.held said.0 0) stopped refuses lead.finds
at_plant (Made ∷ parts) last said stopped before now refuses (inl lead) = absurd lead
at_plant (Store ∷ parts) last said stopped before now refuses (inl lead) = absurd lead
at_plant (Later kind ∷ parts) last said stopped before now refuses (inl lead) = absurd lead
at_plant (Number low most ∷ parts) last said stopped before now refuses (inl lead) = absurd lead
at_plant (Plant ∷ parts) last said stopped before now refuses (inr (one, goes)) =
    let so = at_plant parts last said.1 stopped goes.between now refuses goes.others in
    record { name = so.name; at = inr (one, record { between = goes.between; leads = goes.leads; others = so.at }) }
at_plant (Whole kind ∷ parts) last said stopped before now refuses (inr (one, goes)) =
    let so = at_plant parts last said.1 stopped goes.between now refuses goes.others in
    record { name = so.name; at = (one, record { between = goes.between; leads = goes.leads; others = so.at }) }
at_plant (Made ∷ parts) last said stopped before now refuses (inr (one, goes)) =
    let so = at_plant parts last said.1 stopped goes.between now refuses goes.others in
    record { name = so.name; at = (one, record { between = goes.between; leads = goes.leads; others = so.at }) }
at_plant (Store ∷ parts) last said stopped before now refuses (inr (one, goes)) =
    let so = at_plant parts last said.1 stopped goes.between now refuses goes.others in
    record { name = so.name; at = (one, record { between = goes.between; leads = goes.leads; others = so.at }) }
at_plant (Later kind ∷ parts) last said stopped before now refuses (inr (one, goes)) =
    let so = at_plant parts last said.1 stopped goes.between now refuses goes.others in
    record { name = so.name; at = (one, record { between = goes.between; leads = goes.leads; others = so.at }) }
at_plant (Number low most ∷ parts) last said stopped before now refuses (inr (one, goes)) =
    let so = at_plant parts last said.1 stopped goes.between now refuses goes.others in
    record { name = so.name; at = (one, record { between = goes.between; leads = goes.leads; others = so.at }) }

pub four_cause : (parts : List Part) (last : Last) (Ends : Promise parts last) → FourHasCause parts last Ends
four_cause parts last Ends said before now runs = elim (have_cause parts last Ends said before now 4 runs) [
  | inl stop ↦
      let refuses = four_refuses stop.stopped (sym stop.written.status_is) in
      let so = at_plant parts last said stop.stopped before.files now.files refuses stop.lead in
      record { name = so.name; stopped = stop.stopped; refuses = refuses; at = so.at; appends = stop.written.appends }
  | inr (inl done) ↦ absurd (done.own.not_plant (sym done.written.status_is))
  | inr (inr cut) ↦ absurd (let four = cut.0 in omega (arith, four))
]
