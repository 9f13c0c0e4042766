-- The fields of files in memory.
use Rattle.std.specs.Prelude.{ℕ, ◌+◌, ◌≤◌, length, vec_capacity}
use Rattle.ctl_io.specs.MemFiles.{FilesState, AreNewSources, AreNewSinks}
use Rattle.ctl_io.specs.MemDisks.{DisksState}
use Rattle.ctl_io.specs.declared.memory.mem_files.MemFiles.TheInside.{Inside}

-- the files, without where they lie in memory
abbrev pub files_state : Inside → FilesState
files_state files = record {
  waiting = files.waiting.items;
  sinks = files.sinks.items;
  names = files.names.items;
  objects = files.objects;
  sources_out = files.sources_out;
  sinks_out = files.sinks_out;
  sources_back = files.sources_back.items;
  sinks_back = files.sinks_back.items;
  sources_room = vec_capacity files.sources_back;
  sinks_room = vec_capacity files.sinks_back;
  disks = files.disks;
  calls = files.calls;
}

-- There is room for all sources, and for all sinks, that were given back, are out, or may still be handed out.
abbrev pub SourcesHaveRoom : Inside → Type 0
SourcesHaveRoom files =
    files.objects + files.sources_out + length files.sources_back.items
    ≤ vec_capacity files.sources_back

abbrev pub SinksHaveRoom : Inside → Type 0
SinksHaveRoom files =
    files.objects + files.sinks_out + length files.sinks_back.items ≤ vec_capacity files.sinks_back

-- There is room for all disks too, and as many may still be made as may be handed out.
pub record DisksHaveRoom (objects : ℕ) (disks : DisksState) : Type 0 where
  pub back : objects + disks.out + length disks.back ≤ disks.back_room
  pub unmade : objects ≤ disks.unmade

-- What is still to be handed out is new, and there is room for all that may still be given back.
pub record HasRoom (files : Inside) : Type 0 where
  pub new_sources : AreNewSources files.waiting.items
  pub new_sinks : AreNewSinks files.sinks.items
  pub sources : SourcesHaveRoom files
  pub sinks : SinksHaveRoom files
  pub disks : DisksHaveRoom files.objects files.disks
