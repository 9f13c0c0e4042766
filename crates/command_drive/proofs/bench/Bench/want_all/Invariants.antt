use Rattle.command_drive.specs.Drive.{wanted}
use Rattle.command_drive.specs.DriveInside.{Shows, IsReady}
use Rattle.command_drive.proofs.bench.Bench.want_all.Given as goal

-- So many wants have come.
abbrev pub invariant-loop-place : goal.invariant-loop-place
invariant-loop-place l = record {
  shows : Shows l.self (wanted l.number l.place);
  ready : IsReady l.self;
}
