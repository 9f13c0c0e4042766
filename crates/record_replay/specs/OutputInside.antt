-- What was put into an output, of which the last part may not have been given to its sink yet.
use Rattle.std.specs.Prelude.{◌≡◌, ℕ, ◌+◌, ◌≤◌, Bool, true, false, ◌||◌, List, [], ◌∷◌, ◌++◌, codes, length, Option}
use Rattle.std.specs.Fmt.{decimal}
use Rattle.hex.specs.Hex.{encode_upper}
use Rattle.ctl_io.specs.Faults.{one_more}
use Rattle.ctl_io.specs.Sink.{appended, AppendsPart}
use Rattle.record_replay.specs.declared.output.Output.{Output}
use Rattle.record_replay.specs.Script.{line_feed}
use Rattle.record_replay.specs.Streamed.{most_waiting}

-- The text was put into an output whose sink had these bytes and this count of faults before it, so many bytes of it before the
-- line in hand. No write failed: what isn't in the buffer any more was given to the sink.
pub record IsWhole (begun : ℕ) (text buffer : List ℕ) (before now : Option (List ℕ))
    (count_before count_now : ℕ) : Type 0 where
  pub within : begun ≤ length text
  pub given : List ℕ
  pub text_is : text ≡ given ++ buffer
  pub appends : now ≡ appended before given
  pub count : count_now ≡ count_before

-- A write failed: a shorter front of the text was given to the sink, and nothing more ever will be. What was put before the
-- line in hand was given but for what may wait.
pub record IsCut (begun : ℕ) (text : List ℕ) (before now : Option (List ℕ))
    (count_before count_now : ℕ) : Type 0 where
  pub appends : AppendsPart text before now
  pub waited : begun ≤ appends.count + most_waiting
  pub count : count_now ≡ one_more count_before

-- One of the two, by whether the output failed.
abbrev pub IsPut : Bool → ℕ → List ℕ → List ℕ → Option (List ℕ) → Option (List ℕ)
    → ℕ → ℕ → Type 0
IsPut false begun text buffer before now count_before count_now =
    IsWhole begun text buffer before now count_before count_now
IsPut true begun text buffer before now count_before count_now =
    IsCut begun text before now count_before count_now

-- This text was put into an output so far, so many bytes of it before the line in hand. Its sink showed these bytes and this
-- count of faults before it. What the sink shows, and its count, are functions of it.
abbrev pub HasPut : {K : Type 0} → (K → Option (List ℕ)) → (K → ℕ) → Option (List ℕ)
    → ℕ → ℕ → List ℕ → Output K → Type 0
HasPut written faults before count begun text output =
    IsPut output.failed begun text output.buffer.now before (written output.out.now) count
    (faults output.out.now)

-- Nothing was put into an output yet, whose sink is so.
abbrev pub HasNothing : {K : Type 0} → (K → Option (List ℕ)) → (K → ℕ) → K
    → Output K → Type 0
HasNothing written faults sink output =
    HasPut written faults (written sink) (faults sink) 0 [] output

-- Whatever text was put into an output, these bytes were put behind it.
abbrev pub WritesOn : {K : Type 0} → (K → Option (List ℕ)) → (K → ℕ) → List ℕ
    → Output K → Output K → Type 0
WritesOn written faults more old new =
    (before : Option (List ℕ)) (count begun : ℕ) (text : List ℕ)
    → HasPut written faults before count begun text old
    → HasPut written faults before count begun (text ++ more) new

-- These bytes were put into an output. Its sink is the same.
pub record Puts {K : Type 0} (written : K → Option (List ℕ)) (faults : K → ℕ) (more : List ℕ)
    (old new : Output K) : Type 0 where
  pub same_sink : new.out.ghost_name ≡ old.out.ghost_name
  pub puts : WritesOn written faults more old new

-- Whatever text was put into an output as whole lines, this one was put behind it, and the first so many bytes of that before
-- the last line.
abbrev pub LinesOn : {K : Type 0} → (K → Option (List ℕ)) → (K → ℕ) → List ℕ → List ℕ
    → Output K → Output K → Type 0
LinesOn written faults earlier lines old new =
    (before : Option (List ℕ)) (count : ℕ) (text : List ℕ)
    → HasPut written faults before count (length text) text old
    → HasPut written faults before count (length (text ++ earlier)) (text ++ lines) new

-- These lines were put into an output, of which this was put before the last. Its sink is the same.
pub record PutsLines {K : Type 0} (written : K → Option (List ℕ)) (faults : K → ℕ)
    (earlier lines : List ℕ) (old new : Output K) : Type 0 where
  pub same_sink : new.out.ghost_name ≡ old.out.ghost_name
  pub puts : LinesOn written faults earlier lines old new

-- All that was put into an output was given to its sink, which is so now.
abbrev pub IsAllGiven : {K : Type 0} → (K → Option (List ℕ)) → (K → ℕ) → Output K
    → K → Type 0
IsAllGiven written faults output now =
    (before : Option (List ℕ)) (count begun : ℕ) (text : List ℕ)
    → HasPut written faults before count begun text output
    → (written now ≡ appended before text) × (faults now ≡ count)

-- A write failed: a shorter front of what was put into an output was given to its sink, which is so now.
abbrev pub IsCutShort : {K : Type 0} → (K → Option (List ℕ)) → (K → ℕ) → Output K
    → K → Type 0
IsCutShort written faults output now =
    (before : Option (List ℕ)) (count begun : ℕ) (text : List ℕ)
    → HasPut written faults before count begun text output
    → IsCut begun text before (written now) count (faults now)

-- whether there are bytes
abbrev pub are_some : List ℕ → Bool
are_some [] = false
are_some (byte ∷ bytes) = true

-- These bytes were put in hexadecimal into the line of a turn.
pub record Gives {K : Type 0} (written : K → Option (List ℕ)) (faults : K → ℕ) (bytes : List ℕ)
    (old new : Output K) : Type 0 where
  pub puts : Puts written faults (encode_upper bytes) old new
  pub some : new.some ≡ (old.some || are_some bytes)

-- how the line of a turn of this panel begins
abbrev pub turn_head : ℕ → List ℕ
turn_head panel = codes "< " ++ decimal panel ++ codes " "

-- how the line of a turn ends, by whether it has bytes
abbrev pub turn_end : Bool → List ℕ
turn_end true = line_feed ∷ []
turn_end false = codes "-" ++ line_feed ∷ []

-- the output line of a display poll of a screen, with this behind the screen, and how it begins
abbrev pub screen_head : ℕ → List ℕ
screen_head screen = codes "* " ++ decimal screen ++ codes " "

abbrev pub screen_line : ℕ → List ℕ → List ℕ
screen_line screen text = codes "* " ++ decimal screen ++ codes " " ++ text ++ line_feed ∷ []
