-- The calls that are made of an object in memory.
use Rattle.std.specs.Prelude.{ℕ, ◌==◌, Bool, List}
use Rattle.std.specs.List.{list_any}
use Rattle.ctl_io.specs.Faults.{one_more, count_after, is_faulty}

-- The numbers, from 0, of the calls that fail, how many calls were made, and how many of these failed.
pub record Calls : Type 0 where
  pub failing : List ℕ
  pub made : ℕ
  pub faults : ℕ

-- the next call is among those that fail
abbrev pub next_fails : Calls → Bool
next_fails calls = list_any (λ number. number == calls.made) calls.failing

-- after one more call, which failed or didn't
abbrev pub called : Bool → Calls → Calls
called failed calls =
    record calls { made = one_more calls.made; faults = count_after failed calls.faults }

-- after an object with such a count of faults was given back
abbrev pub counted_back : ℕ → Calls → Calls
counted_back faults calls = record calls { faults = count_after (is_faulty faults) calls.faults }

-- no call was made, and these will fail
abbrev pub uncalled : List ℕ → Calls
uncalled failing = record { failing = failing; made = 0; faults = 0 }
