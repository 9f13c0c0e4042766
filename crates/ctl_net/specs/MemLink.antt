-- What a link in memory holds, and what it answers.
use Rattle.std.specs.Prelude.{◌≡◌, ℕ, true, false, List, [], Some, if◌then◌else◌}
use Rattle.ctl_io.specs.Calls.{Calls, next_fails, called, uncalled}
use Rattle.ctl_io.specs.Faults.{count_after}
use Rattle.ctl_io.specs.Memory.{SinkState, IsNewSink}
use Rattle.ctl_io.specs.ReadHalf.{ReadHalf, Reading}
use Rattle.ctl_net.specs.Link.{was_idle, told_after}
use Rattle.ctl_net.specs.LinkEvents.{bytes_of, ahead, first_answer, behind_first}
use Rattle.ctl_net.specs.declared.link_event.LinkEvent.{LinkEvent}
use Rattle.ctl_net.specs.declared.link.LinkRead.{LinkRead}
use Rattle.ctl_net.specs.declared.link.LinkRead.TheVariants as read

-- The read half of a link in memory: the events that are left, the reads that gave bytes or were idle, how many were idle,
-- and the calls.
pub record InputState : Type 0 where
  pub events : List LinkEvent
  pub reads : List Reading
  pub idles : ℕ
  pub calls : Calls

-- events that weren't read yet, of which these reads will fail
abbrev pub unread : List LinkEvent → List ℕ → InputState
unread events failing = record {
  events = events;
  reads = [];
  idles = 0;
  calls = uncalled failing;
}

-- what a read with so much room answers
abbrev pub input_answer : InputState → ℕ → LinkRead
input_answer input room =
    if next_fails input.calls then read.Failed else first_answer (ahead input.events) room

-- the read half after a read with so much room that found the first event, and left `into` so
abbrev pub after_first : InputState → ℕ → List ℕ → InputState
after_first input room into = record input {
  events = behind_first input.events room;
  reads = told_after (first_answer input.events room) room into input.reads;
  idles = count_after (was_idle (first_answer input.events room)) input.idles;
}

-- the read half after a read with so much room, which left `into` so
abbrev pub after_input : InputState → ℕ → List ℕ → InputState
after_input input room into =
    if next_fails input.calls then record input { calls = called true input.calls }
    else after_first (record input {
      events = ahead input.events;
      calls = called false input.calls;
    }) room into

-- what the read half shows
abbrev pub read_half_of : InputState → ReadHalf
read_half_of input = record {
  left = Some (bytes_of input.events);
  reads = Some input.reads;
  faults = input.calls.faults;
  idles = input.idles;
}

-- a link in memory: its read half, and its write half, which is a sink
pub record LinkState : Type 0 where
  pub input : InputState
  pub output : SinkState

-- a link over which these events come, with so much room, of which these reads and these writes will fail
abbrev pub new_link : List LinkEvent → ℕ → List ℕ → List ℕ → LinkState
new_link events room failing_reads failing_writes = record {
  input = unread events failing_reads;
  output = record { written = []; room = room; calls = uncalled failing_writes };
}

-- No call was made of the link.
pub record IsNewLink (link : LinkState) : Type 0 where
  pub untold : link.input.reads ≡ []
  pub not_idle : link.input.idles ≡ 0
  pub unread : link.input.calls.made ≡ 0
  pub no_faults : link.input.calls.faults ≡ 0
  pub unwritten : IsNewSink link.output
