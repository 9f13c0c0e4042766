-- What opening, and a run behind it, leave of the files.
use Rattle.std.proofs.Common.{◌≡◌, inl, inr, ℕ, ◌+◌, ◌-◌, Bool, true, false, List, [], ◌∷◌, Ok, refl, sym, ◌∙◌, ap, subst, arith}
use Rattle.std.specs.Prelude.{Contains}
use Rattle.std.proofs.lemmas.List.Elements.{Contains-append_left, Contains-append_right, Contains-push}
use Rattle.ctl_io.specs.Custody.{Custody, SourceEnd}
use Rattle.ctl_io.specs.Held.{Held, Stays}
use Rattle.ctl_io.specs.WholeFile.{FileReading, Well, Missing, Failed, CameBack, GivenBack}
use Rattle.command_words.specs.Parts.{Part, Plant, Whole, Made, Store, Later, Number, Last, AllSaid}
use Rattle.command_rows.specs.Moment.{Snapshot}
use Rattle.command_rows.specs.ReadsFile.{reading_for}
use Rattle.command_rows.specs.Opener.{AllGiven, AllLead}
use Rattle.command_rows.specs.OpenerLaws.{ReadsFiles}
use Rattle.command_rows.specs.ShownLaws.{OpeningGivesBack, OpeningLeavesOthers}
use Rattle.command_rows.specs.RowLaws.{made_files, own_files}
use Rattle.command_rows.specs.Sound.{given_made, given_own}
use Rattle.command_rows.proofs.OpenerLemmas.{reads_front}

-- one source was handed out and came back
came_even : (name : List ℕ) (faulty : Bool) (before now : Custody SourceEnd) → CameBack name faulty before now → now.out ≡ before.out
came_even name faulty before now back =
    let out : now.out ≡ before.out + 1 - 1 = ap (λ (c : Custody SourceEnd). c.out) back.custody in
    omega (arith, out)

given_even : (reading : FileReading) (name : List ℕ) (before now : Custody SourceEnd) → GivenBack reading name before now → now.out ≡ before.out
given_even Well name before now back = came_even name false before now back
given_even Missing name before now back = ap (λ (c : Custody SourceEnd). c.out) back
given_even Failed name before now (inl none) = ap (λ (c : Custody SourceEnd). c.out) none
given_even Failed name before now (inr back) = came_even name true before now back

files_even : (reading : FileReading) (names : List (List ℕ)) (before now : Snapshot) → ReadsFiles reading names before now → now.custody.sources.out ≡ before.custody.sources.out
files_even reading [] before now (well, same) = ap (λ (s : Snapshot). s.custody.sources.out) same
files_even reading (name ∷ later) before now (inl (none, read)) = given_even reading name before.custody.sources now.custody.sources read.given_back.sources
files_even reading (name ∷ later) before now (inr (between, read, reads)) =
    files_even reading later between now reads ∙ given_even Well name before.custody.sources between.custody.sources read.given_back.sources

pub gives_back : OpeningGivesBack
gives_back parts last said before now opened lead =
    let front = reads_front parts last said before now opened lead in
    files_even (reading_for opened) front.opened before now front.reads

-- what is held
pub stays_over : (before between now : ℕ → Held) → Stays before between → Stays between now → Stays before now
stays_over before between now first second opening = second opening ∙ first opening

contains_first : (first : List ℕ) (later : List (List ℕ)) (name : List ℕ) → name ≡ first → Contains (first ∷ later) name
contains_first first later name same =
    subst (Contains (first ∷ later)) (sym same) (Contains-append_left (first ∷ []) later first (Contains-push [] first))

contains_later : (first : List ℕ) (later : List (List ℕ)) (name : List ℕ) → Contains later name → Contains (first ∷ later) name
contains_later first later name one = Contains-append_right (first ∷ []) later name one

files_stay : (reading : FileReading) (names : List (List ℕ)) (name : List ℕ) (before now : Snapshot) → (Contains names name → ⊥) → ReadsFiles reading names before now → Stays (before.held name) (now.held name)
files_stay reading [] name before now other (well, same) = λ opening. ap (λ (s : Snapshot). s.held name opening) same
files_stay reading (first ∷ later) name before now other (inl (none, read)) = read.others name (λ same. other (contains_first first later name same))
files_stay reading (first ∷ later) name before now other (inr (between, read, reads)) =
    stays_over (before.held name) (between.held name) (now.held name) (read.others name (λ same. other (contains_first first later name same)))
    (files_stay reading later name between now (λ one. other (contains_later first later name one)) reads)

pub leaves_others : OpeningLeavesOthers
leaves_others parts last said before now opened name lead other =
    let front = reads_front parts last said before now opened lead in
    files_stay (reading_for opened) front.opened name before now
    (λ one. other (subst (λ (ns : List (List ℕ)). Contains ns name) (sym front.front) (Contains-append_left front.opened front.unopened name one))) front.reads

-- the names of files that are made are given as they were said
pub made_as_said : (parts : List Part) (last : Last) (said : AllSaid parts last) (given : AllGiven parts last) (before now : Snapshot) → AllLead parts last said before now (Ok given)
    → given_made parts last given ≡ made_files parts last said
made_as_said [] last said given before now lead = refl
made_as_said (Made ∷ parts) last said given before now lead =
    let later = made_as_said parts last said.1 given.1 lead.between now lead.others in
    λ i. lead.leads.0 i ∷ later i
made_as_said (Plant ∷ parts) last said given before now lead = made_as_said parts last said.1 given.1 lead.between now lead.others
made_as_said (Whole kind ∷ parts) last said given before now lead = made_as_said parts last said.1 given.1 lead.between now lead.others
made_as_said (Store ∷ parts) last said given before now lead = made_as_said parts last said.1 given.1 lead.between now lead.others
made_as_said (Later kind ∷ parts) last said given before now lead = made_as_said parts last said.1 given.1 lead.between now lead.others
made_as_said (Number low most ∷ parts) last said given before now lead = made_as_said parts last said.1 given.1 lead.between now lead.others

-- and so are those of all files that a row asks for itself
pub own_as_said : (parts : List Part) (last : Last) (said : AllSaid parts last) (given : AllGiven parts last) (before now : Snapshot) → AllLead parts last said before now (Ok given)
    → given_own parts last given ≡ own_files parts last said
own_as_said [] last said given before now lead = refl
own_as_said (Made ∷ parts) last said given before now lead =
    let later = own_as_said parts last said.1 given.1 lead.between now lead.others in
    λ i. lead.leads.0 i ∷ later i
own_as_said (Store ∷ parts) last said given before now lead =
    let later = own_as_said parts last said.1 given.1 lead.between now lead.others in
    λ i. lead.leads.0 i ∷ later i
own_as_said (Later kind ∷ parts) last said given before now lead =
    let later = own_as_said parts last said.1 given.1 lead.between now lead.others in
    λ i. lead.leads.0 i ∷ later i
own_as_said (Plant ∷ parts) last said given before now lead = own_as_said parts last said.1 given.1 lead.between now lead.others
own_as_said (Whole kind ∷ parts) last said given before now lead = own_as_said parts last said.1 given.1 lead.between now lead.others
own_as_said (Number low most ∷ parts) last said given before now lead = own_as_said parts last said.1 given.1 lead.between now lead.others
