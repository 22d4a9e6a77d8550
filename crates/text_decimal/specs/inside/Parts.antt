-- A number in parts of eighteen digits. Definitions only.
use Rattle.std.specs.Prelude.{ℕ, ◌+◌, ◌*◌, ◌^◌, ◌<◌}
use Rattle.text_decimal.specs.declared.Parts.{Parts}

-- the number that parts are
abbrev pub whole_of : Parts → ℕ
whole_of parts = parts.low + parts.middle * 10 ^ 18 + parts.high * 10 ^ 36

-- the two lower parts have eighteen digits at most, the upper one three
pub record Sound (parts : Parts) : Type 0 where
  pub low : parts.low < 10 ^ 18
  pub middle : parts.middle < 10 ^ 18
  pub high : parts.high < 1000
