-- Worked examples.
use Rattle.std.specs.Prelude.{◌^◌, pos, negsuc, Some, None, codes}
use Rattle.thousandths.specs.Says.{Tells}

-- rounding, the sign of none, the largest number, and texts that are no number
pub record Samples : Type 0 where
  pub up : Tells (codes "1.0005") (Some (pos 1001))
  pub down : Tells (codes "1.000499999999999999") (Some (pos 1000))
  pub minus_half : Tells (codes "-0.0005") (Some (negsuc 0))
  pub minus_none : Tells (codes "-0") (Some (pos 0))
  pub most : Tells (codes "999999999999.9995") (Some (pos (10 ^ 15)))
  pub bare_point : Tells (codes "1.") None
  pub led_by_zero : Tells (codes "01") None
  pub plus : Tells (codes "+1") None
  pub exponent : Tells (codes "1e3") None
  pub thirteen : Tells (codes "1000000000000") None
