-- What files in memory hold, and what they answer.
use Rattle.std.specs.Prelude.{ℕ, ◌+◌, ◌-◌, ◌==◌, nat_lt, Bool, ◌||◌, ◌&&◌, not, List, [], ◌∷◌, ◌++◌, map, filter, find, Option, Some, None, if◌then◌else◌}
use Rattle.std.specs.List.{slice_get, AllByRecursion}
use Rattle.std.specs.Str.{bytes_eq}
use Rattle.ctl_io.specs.Calls.{Calls, next_fails, called, counted_back, uncalled}
use Rattle.ctl_io.specs.Custody.{FilesCustody, SourceEnd, SinkEnd}
use Rattle.ctl_io.specs.Named.{is_listed, without_first}
use Rattle.ctl_io.specs.MemDisks.{DisksState, MadeSize, all_waiting, disk_has, disk_made, after_lending, after_making, after_return, disk_end}
use Rattle.ctl_io.specs.Files.{find_failed, make_failed}
use Rattle.ctl_io.specs.Held.{Held, Unshown, NoFile, Holds}
use Rattle.ctl_io.specs.Memory.{IsNewSource, IsNewSink}
use Rattle.ctl_io.specs.declared.memory.named_objects.NamedSource.{NamedSource}
use Rattle.ctl_io.specs.declared.memory.named_objects.NamedSink.{NamedSink}
use Rattle.ctl_io.specs.declared.memory.named_objects.NamedDisk.{NamedDisk}
use Rattle.ctl_io.specs.declared.files.Found.{Found}
use Rattle.ctl_io.specs.declared.files.Found.TheVariants as found
use Rattle.ctl_io.specs.declared.files.Made.{Made}
use Rattle.ctl_io.specs.declared.files.Made.TheVariants as made

-- Files in memory: the sources and sinks that weren't handed out yet, the names of all sources, how many objects may
-- still be handed out, how many are out, those that were given back, how many of each they have taken the memory for, and the disks.
pub record FilesState : Type 0 where
  pub waiting : List NamedSource
  pub sinks : List NamedSink
  pub names : List (List ℕ)
  pub objects : ℕ
  pub sources_out : ℕ
  pub sinks_out : ℕ
  pub sources_back : List NamedSource
  pub sinks_back : List NamedSink
  pub sources_room : ℕ
  pub sinks_room : ℕ
  pub disks : DisksState
  pub calls : Calls

-- files of these sources, sinks and disks that weren't asked for anything yet
abbrev pub unasked : List NamedSource → List NamedSink → List NamedDisk → ℕ → List ℕ
    → MadeSize → FilesState
unasked sources sinks disks objects failing made = record {
  waiting = sources;
  sinks = sinks;
  names = map (λ entry. entry.name) sources;
  objects = objects;
  sources_out = 0;
  sinks_out = 0;
  sources_back = [];
  sinks_back = [];
  sources_room = objects;
  sinks_room = objects;
  disks = all_waiting disks objects made;
  calls = uncalled failing;
}

-- whether a source, or a sink, has this name
abbrev pub source_has : List ℕ → NamedSource → Bool
source_has name entry = bytes_eq entry.name name

abbrev pub sink_has : List ℕ → NamedSink → Bool
sink_has name entry = bytes_eq entry.name name

-- what the files hold for an opening: what its source has left, and nothing is shown where none waits for it
abbrev pub held_by : Option NamedSource → Held
held_by (Some entry) = Holds entry.source.left
held_by None = Unshown

-- What they hold of a name for its k-th opening from now: of the sources of that name that wait the k-th. There is no
-- file where no source ever had the name.
abbrev pub held_of : FilesState → List ℕ → ℕ → Held
held_of files name k =
    if is_listed name files.names
    then held_by (slice_get (filter (source_has name) files.waiting) k) else NoFile

-- what the objects that were given back showed
abbrev pub source_end : NamedSource → SourceEnd
source_end entry =
    record {
      name = Some entry.name;
      left = Some entry.source.left;
      faults = entry.source.calls.faults;
    }

abbrev pub sink_end : NamedSink → SinkEnd
sink_end entry =
    record {
      name = Some entry.name;
      written = Some entry.sink.written;
      faults = entry.sink.calls.faults;
    }

abbrev pub custody_of : FilesState → FilesCustody
custody_of files = record {
  sources = record {
    out = files.sources_out;
    back = Some (map source_end files.sources_back);
  };
  sinks = record { out = files.sinks_out; back = Some (map sink_end files.sinks_back) };
  disks = record { out = files.disks.out; back = Some (map disk_end files.disks.back) };
}

-- what is answered where a source is named: the first that waits, while objects may still be handed out
abbrev pub lent_source : ℕ → Option NamedSource → Found NamedSource
lent_source objects None = found.Failed
lent_source objects (Some entry) = if objects == 0 then found.Failed else found.Here entry

-- what is answered where a source is asked for
abbrev pub source_answer : FilesState → List ℕ → Found NamedSource
source_answer files name =
    if next_fails files.calls then found.Failed
    else (if is_listed name files.names
    then lent_source files.objects (find (source_has name) files.waiting) else found.Missing)

-- the files without the source that is handed out
abbrev pub without_source : Found NamedSource → List ℕ → FilesState → FilesState
without_source (found.Here entry) name files = record files {
  waiting = without_first (source_has name) files.waiting;
  objects = files.objects - 1;
  sources_out = files.sources_out + 1;
}
without_source found.Missing name files = files
without_source found.Failed name files = files

-- the files after such an answer
abbrev pub after_source : Found NamedSource → List ℕ → FilesState → FilesState
after_source answer name files =
    record (without_source answer name files) { calls = called (find_failed answer) files.calls }

-- what is answered of a name's sinks: the first that waits, while objects may still be handed out
abbrev pub lent_sink : ℕ → Option NamedSink → Made NamedSink
lent_sink objects None = made.Failed
lent_sink objects (Some entry) = if objects == 0 then made.Failed else made.Here entry

-- what is answered where a sink is asked for
abbrev pub sink_answer : FilesState → List ℕ → Made NamedSink
sink_answer files name =
    if next_fails files.calls then made.Failed
    else lent_sink files.objects (find (sink_has name) files.sinks)

-- the files without the sink that is handed out
abbrev pub without_sink : Made NamedSink → List ℕ → FilesState → FilesState
without_sink (made.Here entry) name files = record files {
  sinks = without_first (sink_has name) files.sinks;
  objects = files.objects - 1;
  sinks_out = files.sinks_out + 1;
}
without_sink made.Failed name files = files

-- the files after such an answer
abbrev pub after_sink : Made NamedSink → List ℕ → FilesState → FilesState
after_sink answer name files =
    record (without_sink answer name files) { calls = called (make_failed answer) files.calls }

-- whether a call that asks for a disk of so many bytes fails before one is looked for
abbrev pub disk_refused : FilesState → ℕ → Bool
disk_refused files size = next_fails files.calls || nat_lt files.disks.made.bytes size

-- whether there is no disk of this name, where one is to be there
abbrev pub disk_missing : FilesState → List ℕ → Bool → Bool
disk_missing files name make = not make && not (is_listed name files.disks.names)

-- the disk that is made, or the first of that name that waits
abbrev pub disk_asked : DisksState → List ℕ → ℕ → Bool → Option NamedDisk
disk_asked disks name size make =
    if make then disk_made name size disks.made else find (disk_has name) disks.waiting

-- what is answered with such a disk, while objects may still be handed out
abbrev pub lent_disk : ℕ → Option NamedDisk → Found NamedDisk
lent_disk objects None = found.Failed
lent_disk objects (Some entry) = if objects == 0 then found.Failed else found.Here entry

-- what is answered where a disk is asked for
abbrev pub disk_answer : FilesState → List ℕ → ℕ → Bool → Found NamedDisk
disk_answer files name size make =
    if disk_refused files size then found.Failed
    else (if disk_missing files name make then found.Missing
    else lent_disk files.objects (disk_asked files.disks name size make))

-- the disks after one was made or lent
abbrev pub disks_after : Bool → Option NamedDisk → List ℕ → DisksState → DisksState
disks_after make entry name disks =
    if make then after_making entry disks else after_lending entry name disks

-- the files without the disk that is handed out
abbrev pub without_disk : Found NamedDisk → List ℕ → Bool → FilesState → FilesState
without_disk (found.Here entry) name make files = record files {
  objects = files.objects - 1;
  disks = disks_after make (Some entry) name files.disks;
}
without_disk found.Missing name make files = files
without_disk found.Failed name make files = files

-- the files after such an answer
abbrev pub after_disk : Found NamedDisk → List ℕ → Bool → FilesState → FilesState
after_disk answer name make files = record (without_disk answer name make files) {
  calls = called (find_failed answer) files.calls;
}

-- the files after a source was given back
abbrev pub after_close_source : NamedSource → FilesState → FilesState
after_close_source entry files = record files {
  sources_out = files.sources_out - 1;
  sources_back = files.sources_back ++ entry ∷ [];
  calls = counted_back entry.source.calls.faults files.calls;
}

-- the files after a sink was given back
abbrev pub after_close_sink : NamedSink → FilesState → FilesState
after_close_sink entry files = record files {
  sinks_out = files.sinks_out - 1;
  sinks_back = files.sinks_back ++ entry ∷ [];
  calls = counted_back entry.sink.calls.faults files.calls;
}

-- the files after a disk was given back
abbrev pub after_close_disk : NamedDisk → FilesState → FilesState
after_close_disk entry files = record files {
  disks = after_return entry files.disks;
  calls = counted_back entry.disk.calls.faults files.calls;
}

-- No call was made of the sources.
abbrev pub AreNewSources : List NamedSource → Type 0
AreNewSources entries = AllByRecursion (λ entry. IsNewSource entry.source) entries

-- No call was made of the sinks.
abbrev pub AreNewSinks : List NamedSink → Type 0
AreNewSinks entries = AllByRecursion (λ entry. IsNewSink entry.sink) entries
