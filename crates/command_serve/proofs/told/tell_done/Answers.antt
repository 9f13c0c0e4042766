use Rattle.std.proofs.Common.{refl, inr}
use Rattle.command_words.specs.Words.{texts}
use Rattle.command_rows.specs.Moment.{output_of}
use Rattle.command_rows.specs.StopInside.{number_of}
use Rattle.command_rows.proofs.RowLemmas.{comes_behind}
use Rattle.command_serve.specs.Serve.{name_at, served_lines, telling_end, telling_of}
use Rattle.command_serve.proofs.ServeLemmas.{part-longer}
use Rattle.command_serve.proofs.told.tell_done.Goals as goal

pub returns-then-write_served : goal.returns-then-write_served
returns-then-write_served g c =
    let done = c.args.done.now in
    let before = output_of g.K.Sink.written g.K.Sink.faults c.args.out.now in
    let mid = output_of g.K.Sink.written g.K.Sink.faults c.write_served.new.out in
    comes_behind (served_lines done.sessions done.entries) (telling_end (telling_of (name_at (texts c.args.names.now) done.failed_trace) done.net_faults done.limits)) (number_of c.tell_what_failed.result) before mid _
    c.if-write_served.ensures.all c.if-write_served.ensures.count c.tell_what_failed.ensures

pub returns-else-write_served : goal.returns-else-write_served
returns-else-write_served g c =
    let done = c.args.done.now in
    inr (record {
      status_is = refl;
      appends = part-longer (served_lines done.sessions done.entries) (telling_end (telling_of (name_at (texts c.args.names.now) done.failed_trace) done.net_faults done.limits)).text _ _ c.if-write_served.ensures.front;
      faults = c.if-write_served.ensures.count;
    })
