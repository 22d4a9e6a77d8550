-- The parts of a bit pattern, over the format. Definitions only.
use Rattle.std.specs.Prelude.{ℕ, ◌+◌, ◌-◌, ◌%◌, ◌/◌, cond, eqb}
use Rattle.std.specs.Float.{Format}
use Rattle.std.specs.Float.Ieee.{hid, top}

-- the exponent's field
abbrev pub field_of : Format → ℕ → ℕ
field_of f b = b % top f / hid f

-- A pattern of a finite number stands for digits_of * 2 ^ power_of, in units of the format's smallest value. A field of 0 has no leading digit, and the power that a field of 1 has.
abbrev pub digits_of : Format → ℕ → ℕ
digits_of f b = cond (eqb (field_of f b) 0) (b % hid f) (hid f + b % hid f)

abbrev pub power_of : Format → ℕ → ℕ
power_of f b = field_of f b - 1
