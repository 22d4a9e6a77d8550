-- Rows counted by f64s from 1.5 * 2 ^ 52 on, which is row 0. Definitions only.
use Rattle.std.specs.Prelude.{false, pos, negsuc, Float}
use Rattle.std.specs.Float.{binary64, fin}
use Rattle.std.specs.Float.Ieee.{add, sub, mul, of_int}

abbrev pub mark_of_zero : Float
mark_of_zero = fin false 3 (pos 51)

-- the mark of an allowed beat's row
unfoldable pub row_mark : Float → Float
row_mark beat = add binary64 (mul binary64 beat (of_int binary64 (pos 48))) mark_of_zero

-- a 48th in two parts: (2 ^ 22 - 1) / 3 over 2 ^ 26, which lacks one part in 2 ^ 22 of it, and that part, the next value above it
abbrev pub larger_part : Float
larger_part = fin false 1398101 (negsuc 25)

abbrev pub smaller : Float
smaller = fin false 3002399751580331 (negsuc 78)

-- both parts of a 48th, added
unfoldable pub forty_eighth : Float → Float
forty_eighth x = add binary64 (mul binary64 x larger_part) (mul binary64 x smaller)

-- the beat of the row that a mark stands for
unfoldable pub beat_of_mark : Float → Float
beat_of_mark mark = forty_eighth (sub binary64 mark mark_of_zero)
