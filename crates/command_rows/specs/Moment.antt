-- What stands outside of a command at a moment.
use Rattle.std.specs.Prelude.{◌≡◌, ℕ, List, Option}
pub use Rattle.ctl_io.specs.Files.{FilesData as Snapshot}
use Rattle.ctl_io.specs.Files.{FilesData}

-- The output at a moment: what was written to it, where it shows that, and how often a write has failed.
pub record Output : Type 0 where
  pub written : Option (List ℕ)
  pub faults : ℕ

-- that of a sink by what its type says of it
abbrev pub output_of : {K : Type 0} → (K → Option (List ℕ)) → (K → ℕ) → K → Output
output_of written faults out = record { written = written out; faults = faults out }

-- What stands outside of a command: the files and the output.
pub record Moment : Type 0 where
  pub files : FilesData
  pub output : Output

-- that of these files and this output by what their types say of them
abbrev pub moment_of : {F K : Type 0} → (F → FilesData) → (K → Option (List ℕ)) → (K → ℕ)
    → F → K → Moment
moment_of shows written output_faults files out = record {
  files = shows files;
  output = output_of written output_faults out;
}

-- The files stand as they did.
abbrev pub FilesStay : Moment → Moment → Type 0
FilesStay before now = now.files ≡ before.files
