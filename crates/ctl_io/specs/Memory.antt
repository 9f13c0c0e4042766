-- What sources and sinks in memory hold, and what they answer.
use Rattle.std.specs.Prelude.{◌≡◌, ℕ, ◌+◌, ◌==◌, nat_lt, Bool, ◌||◌, List, [], ◌++◌, length, drop, min, if◌then◌else◌}
use Rattle.ctl_io.specs.Calls.{Calls, next_fails, called}
use Rattle.ctl_io.specs.Source.{got}
use Rattle.ctl_io.specs.declared.source.Read.{Read}
use Rattle.ctl_io.specs.declared.source.Read.TheVariants as read
use Rattle.ctl_io.specs.declared.sink.Write.{Write}
use Rattle.ctl_io.specs.declared.sink.Write.TheVariants as write

-- a source in memory: the bytes that are left
pub record SourceState : Type 0 where
  pub left : List ℕ
  pub calls : Calls

-- what a read answers where there is so much room
abbrev pub read_answer : SourceState → ℕ → Read
read_answer source room =
    if next_fails source.calls then read.Failed
    else (if length source.left == 0 then read.End else read.Got (min room (length source.left)))

-- the source after such a read
abbrev pub after_read : SourceState → ℕ → SourceState
after_read source room = record {
  left = drop (got (read_answer source room)) source.left;
  calls = called (next_fails source.calls) source.calls;
}

-- No call was made of the source.
pub record IsNewSource (source : SourceState) : Type 0 where
  pub uncalled : source.calls.made ≡ 0
  pub no_faults : source.calls.faults ≡ 0

-- A sink in memory: the bytes that were appended, and how many it has taken the memory for in all.
pub record SinkState : Type 0 where
  pub written : List ℕ
  pub room : ℕ
  pub calls : Calls

-- A write of these bytes fails: its number is listed, or there is no room for all of them.
abbrev pub write_fails : SinkState → List ℕ → Bool
write_fails sink bytes =
    next_fails sink.calls || nat_lt sink.room (length sink.written + length bytes)

-- what a write answers
abbrev pub write_answer : SinkState → List ℕ → Write
write_answer sink bytes = if write_fails sink bytes then write.Failed else write.Took (length bytes)

-- the sink after such a write
abbrev pub after_write : SinkState → List ℕ → SinkState
after_write sink bytes = record {
  written = if write_fails sink bytes then sink.written else sink.written ++ bytes;
  room = sink.room;
  calls = called (write_fails sink bytes) sink.calls;
}

-- Nothing was written to the sink, and no call was made of it.
pub record IsNewSink (sink : SinkState) : Type 0 where
  pub empty : sink.written ≡ []
  pub uncalled : sink.calls.made ≡ 0
  pub no_faults : sink.calls.faults ≡ 0
