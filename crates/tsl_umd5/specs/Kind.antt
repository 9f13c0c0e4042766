-- What the faults of bytes that are no packet are called.
use Rattle.std.specs.Prelude.{ℕ, List, codes}
use Rattle.tsl_umd5.specs.declared.fault.TslFault.{TslFault}
use Rattle.tsl_umd5.specs.declared.fault.TslFault.TheVariants.{TooLong, Short, WrongCount, Version, Flags, ReservedBits, NotAscii}

-- the name of a fault's kind, without its numbers [profile]
abbrev pub kind_name : TslFault → List ℕ
kind_name (TooLong found) = codes "TooLong"
kind_name (Short place) = codes "Short"
kind_name (WrongCount found wanted) = codes "WrongCount"
kind_name (Version version) = codes "Version"
kind_name (Flags flags) = codes "Flags"
kind_name (ReservedBits index) = codes "ReservedBits"
kind_name (NotAscii place) = codes "NotAscii"
