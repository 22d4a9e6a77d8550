-- Rows that are not above the row before them, counted. Definitions only.
use Rattle.std.specs.Prelude.{ℕ, ltb, Float}
use Rattle.picks.specs.Pick.{pick}
use Rattle.lookup_tests.specs.Refused.{key_of}

-- 1 where the row of a beat is not above the row of the beat before it
abbrev pub count_not_above : Float → Float → ℕ
count_not_above before beat = pick (ltb (key_of before) (key_of beat)) 0 1
