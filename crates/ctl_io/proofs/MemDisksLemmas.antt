-- Disks in memory by their names.
use Rattle.std.proofs.Common.{◌≡◌, ◌≢◌, ℕ, ◌≤◌, Bool, true, false, not, cond, ◌==◌, nat_lt, List, [], ◌∷◌, ◌++◌, length, take, filter, find, replicate, Option, Some, None, IfSome, refl, sym, ap, ◌∙◌, subst}
use Rattle.std.proofs.lemmas.Bool.{le-ltb}
use Rattle.std.proofs.lemmas.Slice.Eq.{bytes_eq-Decides}
use Rattle.std.proofs.lemmas.List.{length-replicate, take-replicate}
use Rattle.std.specs.List.{slice_get, AllByRecursion}
use Rattle.ctl_io.specs.Custody.{disk_lent}
use Rattle.ctl_io.specs.DiskPast.{DiskPast}
use Rattle.ctl_io.specs.Files.{IfFound, IsZeroed}
use Rattle.ctl_io.specs.Held.{HeldOf, NoFile, ShowsHeld, MayBeMissing, Stays, AfterFound, IsNamed}
use Rattle.ctl_io.specs.MemDisk.{past_of, stored_by, unused}
use Rattle.ctl_io.specs.MemDisks.{MadeSize, disk_has, longest_name, zero_disk, disk_made, disk_held_by, disk_held_of}
use Rattle.ctl_io.specs.MemFiles.{FilesState, held_of, custody_of, disk_refused, disk_missing, disk_asked, lent_disk, disk_answer, after_disk}
use Rattle.ctl_io.specs.Named.{is_listed}
use Rattle.ctl_io.specs.declared.files.Found.{Found}
use Rattle.ctl_io.specs.declared.files.Found.TheVariants as found
use Rattle.ctl_io.specs.declared.memory.named_objects.NamedDisk.{NamedDisk}
use Rattle.ctl_io.proofs.MemFilesLemmas.{find_first, found_passes, filter_rest, filter_others, get_next, other_name}

-- a fact of all is one of the last
pub all_split : {A : Type 0} → (P : A → Type 0) (xs : List A) (x : A) → AllByRecursion P (xs ++ x ∷ []) → AllByRecursion P xs × P x
all_split P [] x all = (tt, all.0)
all_split P (y ∷ xs) x all = let rest = all_split P xs x all.1 in ((all.0, rest.0), rest.1)

-- what is made of a blank disk under a name that isn't too long
pub made_is : (name : List ℕ) (size : ℕ) (made : MadeSize) → length name ≤ longest_name → Some (zero_disk name size made) ≡ disk_made name size made
made_is name size made few = sym (ap (λ b. cond b None (Some (zero_disk name size made))) (le-ltb longest_name (length name) few))

pub zeros_cut : (size : ℕ) (made : MadeSize) → size ≤ made.bytes → record (unused (replicate made.bytes 0) made.calls_room made.bytes_room []) { start = take size (replicate made.bytes 0) }
    ≡ unused (replicate size 0) made.calls_room made.bytes_room []
zeros_cut size made within = ap (λ (bytes : List ℕ). unused bytes made.calls_room made.bytes_room []) (take-replicate size made.bytes 0 within)

-- a fact of the disk that is asked for is one of the disk that is handed out
lent_of : (P : NamedDisk → Type 0) (objects : ℕ) (asked : Option NamedDisk) → IfSome asked P → IfFound (lent_disk objects asked) P
lent_of P objects None fact = tt
lent_of P objects (Some entry) fact = elim (objects == 0) as (λ b. IfFound (cond b found.Failed (found.Here entry)) P) [ true ↦ tt | false ↦ fact ]

answered_of : (P : NamedDisk → Type 0) (refused missing : Bool) (objects : ℕ) (asked : Option NamedDisk) → IfSome asked P → IfFound (cond refused found.Failed (cond missing found.Missing (lent_disk objects asked))) P
answered_of P true missing objects asked fact = tt
answered_of P false true objects asked fact = tt
answered_of P false false objects asked fact = lent_of P objects asked fact

-- the first of a name that waits has the name, and is what is held
first_named : (name : List ℕ) (waiting : List NamedDisk) → IfSome (find (disk_has name) waiting) (λ entry. IsNamed name (Some entry.name))
first_named name waiting = named (find (disk_has name) waiting) (found_passes (disk_has name) waiting) where
  named : (first : Option NamedDisk) → IfSome first (λ entry. disk_has name entry ≡ true) → IfSome first (λ entry. IsNamed name (Some entry.name))
  named None has = tt
  named (Some entry) has = (bytes_eq-Decides entry.name name).0 has

first_held : (name : List ℕ) (waiting : List NamedDisk) → IfSome (find (disk_has name) waiting) (λ entry. ShowsHeld (disk_held_by (slice_get (filter (disk_has name) waiting) 0)) (Some (past_of entry.disk)))
first_held name waiting = held (find (disk_has name) waiting) (slice_get (filter (disk_has name) waiting) 0) (find_first (disk_has name) waiting) where
  held : (first at : Option NamedDisk) → first ≡ at → IfSome first (λ entry. ShowsHeld (disk_held_by at) (Some (past_of entry.disk)))
  held None at same = tt
  held (Some entry) at same = subst (λ (o : Option NamedDisk). ShowsHeld (disk_held_by o) (Some (past_of entry.disk))) same refl

-- one that is made has what its making says
made_has : (P : NamedDisk → Type 0) (name : List ℕ) (size : ℕ) (made : MadeSize) → P (zero_disk name size made) → IfSome (disk_made name size made) P
made_has P name size made fact =
    elim (nat_lt longest_name (length name)) as (λ b. IfSome (cond b None (Some (zero_disk name size made))) P) [ true ↦ tt | false ↦ fact ]

-- what is handed out is what is held
held_by_answer : (name : List ℕ) (waiting : List NamedDisk) (objects : ℕ) (refused listed : Bool) → IfFound (cond refused found.Failed (cond (not listed) found.Missing (lent_disk objects (find (disk_has name) waiting))))
    (λ entry. ShowsHeld (cond listed (disk_held_by (slice_get (filter (disk_has name) waiting) 0)) NoFile) (Some (past_of entry.disk)))
held_by_answer name waiting objects true listed = tt
held_by_answer name waiting objects false false = tt
held_by_answer name waiting objects false true = lent_of _ objects (find (disk_has name) waiting) (first_held name waiting)

pub disk_is_held : (files : FilesState) (name : List ℕ) (size : ℕ) → IfFound (disk_answer files name size false) (λ entry. ShowsHeld (disk_held_of files.disks name 0) (Some (past_of entry.disk)))
disk_is_held files name size = held_by_answer name files.disks.waiting files.objects (disk_refused files size) (is_listed name files.disks.names)

pub disk_is_zeroed : (files : FilesState) (name : List ℕ) (size : ℕ) → IfFound (disk_answer files name size true) (λ entry. IsZeroed size (Some (stored_by entry.disk).present) × (length (stored_by entry.disk).present ≡ size))
disk_is_zeroed files name size =
    answered_of _ (disk_refused files size) (disk_missing files name true) files.objects (disk_asked files.disks name size true)
    (made_has (λ entry. IsZeroed size (Some (stored_by entry.disk).present) × (length (stored_by entry.disk).present ≡ size)) name size files.disks.made (refl, length-replicate size 0))

pub disk_is_named : (files : FilesState) (name : List ℕ) (size : ℕ) (make : Bool) → IfFound (disk_answer files name size make) (λ entry. IsNamed name (Some entry.name))
disk_is_named files name size true =
    answered_of _ (disk_refused files size) (disk_missing files name true) files.objects (disk_asked files.disks name size true) (made_has (λ entry. IsNamed name (Some entry.name)) name size files.disks.made refl)
disk_is_named files name size false =
    answered_of _ (disk_refused files size) (disk_missing files name false) files.objects (disk_asked files.disks name size false) (first_named name files.disks.waiting)

-- a disk that is made is never missing, and one that is missing isn't held
lent_not_missing : (objects : ℕ) (asked : Option NamedDisk) → lent_disk objects asked ≢ found.Missing
lent_not_missing objects None = λ is. cc is
lent_not_missing objects (Some entry) = elim (objects == 0) as (λ b. cond b found.Failed (found.Here entry) ≢ found.Missing) [ true ↦ λ is. cc is | false ↦ λ is. cc is ]

pub made_is_found : (files : FilesState) (name : List ℕ) (size : ℕ) → disk_answer files name size true ≢ found.Missing
made_is_found files name size =
    elim (disk_refused files size) as (λ b. cond b found.Failed (lent_disk files.objects (disk_made name size files.disks.made)) ≢ found.Missing)
    [ true ↦ λ is. cc is | false ↦ lent_not_missing files.objects (disk_made name size files.disks.made) ]

missing_by : (refused listed : Bool) (objects : ℕ) (asked : Option NamedDisk) (held : HeldOf DiskPast) → cond refused found.Failed (cond (not listed) found.Missing (lent_disk objects asked)) ≡ found.Missing → MayBeMissing (cond listed held NoFile)
missing_by true listed objects asked held is = absurd (cc is)
missing_by false false objects asked held is = tt
missing_by false true objects asked held is = absurd (lent_not_missing objects asked is)

pub missing_is_unheld : (files : FilesState) (name : List ℕ) (size : ℕ) (make : Bool) → disk_answer files name size make ≡ found.Missing → MayBeMissing (disk_held_of files.disks name 0)
missing_is_unheld files name size true is = absurd (made_is_found files name size is)
missing_is_unheld files name size false is =
    missing_by (disk_refused files size) (is_listed name files.disks.names) files.objects (disk_asked files.disks name size false) (disk_held_by (slice_get (filter (disk_has name) files.disks.waiting) 0)) is

-- an opening of a name leaves those behind it, and those of every other name
pub next_disk : (answer : Found NamedDisk) (name : List ℕ) (files : FilesState) → AfterFound answer (disk_held_of files.disks name) (disk_held_of (after_disk answer name false files).disks name)
next_disk (found.Here entry) name files = λ k.
    ap (λ first. cond (is_listed name files.disks.names) (disk_held_by first) NoFile)
    (ap (λ (xs : List NamedDisk). slice_get xs k) (filter_rest (disk_has name) files.disks.waiting) ∙ get_next (filter (disk_has name) files.disks.waiting) k)
next_disk found.Missing name files = λ k. refl
next_disk found.Failed name files = λ k. refl

pub other_disk : (answer : Found NamedDisk) (name other : List ℕ) (make : Bool) (files : FilesState) → other ≢ name → Stays (disk_held_of files.disks other) (disk_held_of (after_disk answer name make files).disks other)
other_disk (found.Here entry) name other true files apart = λ k. refl
other_disk (found.Here entry) name other false files apart = λ k.
    ap (λ (xs : List NamedDisk). cond (is_listed other files.disks.names) (disk_held_by (slice_get xs k)) NoFile)
    (filter_others (disk_has name) (disk_has other) files.disks.waiting (λ e has. other_name e.name name other apart has))
other_disk found.Missing name other make files apart = λ k. refl
other_disk found.Failed name other make files apart = λ k. refl

-- sources stay, and one more disk is out exactly where one was handed out
pub sources_stay : (answer : Found NamedDisk) (name other : List ℕ) (make : Bool) (files : FilesState) → Stays (held_of files other) (held_of (after_disk answer name make files) other)
sources_stay (found.Here entry) name other make files = λ k. refl
sources_stay found.Missing name other make files = λ k. refl
sources_stay found.Failed name other make files = λ k. refl

pub disk_is_lent : (answer : Found NamedDisk) (name : List ℕ) (make : Bool) (files : FilesState) → custody_of (after_disk answer name make files) ≡ disk_lent answer (custody_of files)
disk_is_lent (found.Here entry) name true files = refl
disk_is_lent (found.Here entry) name false files = refl
disk_is_lent found.Missing name make files = refl
disk_is_lent found.Failed name make files = refl
