-- What an object that bytes are written to shows of its reads, where it can be read too.
use Rattle.std.specs.Prelude.{ℕ, List, Option, None}

-- A read that gave bytes or was idle: how long its `into` was, and the bytes that it gave, which are none where it was idle.
pub record Reading : Type 0 where
  pub room : ℕ
  pub bytes : List ℕ

-- What is left and the reads so far, where they are shown, how often a read failed, and how often one was idle.
pub record ReadHalf : Type 0 where
  pub left : Option (List ℕ)
  pub reads : Option (List Reading)
  pub faults : ℕ
  pub idles : ℕ

-- what an object that can't be read shows
abbrev pub no_read_half : ReadHalf
no_read_half = record { left = None; reads = None; faults = 0; idles = 0 }
