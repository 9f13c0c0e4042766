-- The two bits of a lamp in CONTROL, in the TSL UMD Protocol V5.0.
use Rattle.std.specs.Prelude.{ℕ, zero, suc}
use Rattle.tsl_umd5.specs.declared.lamp.Lamp.{Lamp}
use Rattle.tsl_umd5.specs.declared.lamp.Lamp.TheVariants.{Off, Red, Green, Amber}

-- the two bits, as a number from 0 to 3
abbrev pub lamp_code : Lamp → ℕ
lamp_code Off = 0
lamp_code Red = 1
lamp_code Green = 2
lamp_code Amber = 3

-- the lamp of such a number [TSL UMD V5.0]
abbrev pub lamp_of : ℕ → Lamp
lamp_of zero = Off
lamp_of (suc zero) = Red
lamp_of (suc (suc zero)) = Green
lamp_of (suc (suc (suc n))) = Amber
