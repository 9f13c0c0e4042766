use Rattle.std.proofs.Common.{arith}
use Rattle.command_rows.specs.MadeFile.{sink_end}
use Rattle.command_words.proofs.NamesLemmas.{text-at, take-texts}
use Rattle.command_serve.proofs.TraceSinkLemmas.{makes-more, as_made-more, out-more}
use Rattle.command_serve.proofs.trace_files.make_each.Goals as goal

pub returns-in-Failed-clause-stops : goal.returns-in-Failed-clause-stops
returns-in-Failed-clause-stops g c =
    let failed = c.in-Failed.ensures in
    record {
      name = c.as_str.result.now;
      at = text-at c.args.names.now c.loop-place.place c.index-names-place.result _ c.loop-place-test.true c.index-names-place.is c.as_str.ensures.value;
      as_made = c.loop-place.invariant.as_made;
      made = g.F.Files.shows c.loop-place.files;
      makes = c.loop-place.invariant.makes;
      fails = record { others = failed.others; custody = failed.lent; faults = failed.count };
    }

pub loop-place-preserved : goal.loop-place-preserved
loop-place-preserved g c =
    let so_far = c.loop-place.invariant in
    let here = c.in-Here.ensures in
    let pushed = c.push_reserved.ensures in
    let more = take-texts c.args.names.now c.loop-place.place c.index-names-place.result _ c.loop-place-test.true c.index-names-place.is c.as_str.ensures.value in
    record {
      makes = makes-more _ _ _ _ (g.F.Files.shows c.loop-place.files) _ more so_far.makes (record { others = here.others; custody = here.lent; faults = here.count });
      as_made =
          as_made-more (sink_end g.F.K.Sink.name g.F.K.Sink.written g.F.K.Sink.faults) _ _ _ _ c.loop-place.traces.items c.in-Here.sink more pushed.items so_far.as_made
          (record { named = here.named; unwritten = here.empty; no_faults = here.new });
      out = out-more _ _ c.in-Here.sink _ _ pushed.items here.lent so_far.out;
      count = search arith;
      room = search arith;
    }
