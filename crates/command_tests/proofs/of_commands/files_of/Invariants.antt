use Rattle.ctl_io.specs.MemFiles.{AreNewSources}
use Rattle.command_tests.proofs.of_commands.files_of.Given as goal

abbrev pub invariant-loop-place : goal.invariant-loop-place
invariant-loop-place l = AreNewSources l.sources.items
