use Rattle.std.proofs.Common.{◌∙◌, ap, arith}
use Rattle.std.specs.Option.{option_to_list}
use Rattle.command_drive.proofs.FrameLemmas.{fits_bench, answers_then, told_then, sources_then, free_then}
use Rattle.command_drive.proofs.bench_frame.BenchFrame.take.Goals as goal

pub step-requires-clause-fits : goal.step-requires-clause-fits
step-requires-clause-fits c = fits_bench c.args.self.now.state c.of.result c.args.message.now c.requires.asks c.requires.frame.plant c.of.ensures

pub returns-clause-told : goal.returns-clause-told
returns-clause-told c =
    ap option_to_list (c.told_in.ensures _ (c.items.ensures ∙ c.step.ensures.answers ∙ answers_then c.args.self.now.state c.of.result c.args.message.now c.requires.asks c.requires.frame.plant c.requires.frame.free c.of.ensures))
    ∙ told_then c.args.message.now c.requires.asks

pub returns-clause-made : goal.returns-clause-made
returns-clause-made c =
    sources_then c.args.self.now.state c.step.new.self c.of.result c.args.message.now c.requires.asks c.requires.frame.plant c.requires.frame.free c.of.ensures c.step.ensures.state

pub returns-clause-frame : goal.returns-clause-frame
returns-clause-frame c = record {
  plant = c.step.ensures.plant ∙ c.requires.frame.plant;
  free = free_then c.args.self.now.state c.step.new.self c.of.result c.args.message.now c.requires.asks c.requires.frame.plant c.requires.frame.free c.of.ensures c.step.ensures.state;
  room = let same = c.step.ensures.places ∙ c.clear.ensures.places in let room = c.requires.frame.room in omega (arith, same, room);
}
