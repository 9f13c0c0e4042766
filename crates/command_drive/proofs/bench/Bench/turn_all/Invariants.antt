use Rattle.command_drive.specs.Drive.{Drive}
use Rattle.command_drive.specs.DriveInside.{Shows, IsReady, IsRegular, Stands, HasTurned, left_of}
use Rattle.command_drive.proofs.bench.Bench.turn_all.Given as goal

-- Some turns have come, and the drive wasn't over before any of them.
abbrev pub invariant-loop-self : goal.invariant-loop-self
invariant-loop-self l = record {
  stands : Stands l.self;
  ready : IsReady l.self;
  going : (first : Drive) → Shows l.fn.self first → IsRegular first → HasTurned first l.self;
}

abbrev pub decreases-loop-self : goal.decreases-loop-self
decreases-loop-self l = left_of l.self
