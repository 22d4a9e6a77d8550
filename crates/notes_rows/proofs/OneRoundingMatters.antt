-- The sixth of twelve rows in the second measure, a place that many charts have: two roundings would put it on another f32. Assumes nothing.
use mathlib.Core.Path.{◌≡◌, refl}
use lib.Ieee.{binary32, to_bits, of_bits, of_int, add, mul, div}
use Rattle.ieee_mul_add.specs.MulAdd.{mul_add}
use Rattle.notes_rows.specs.RowBeats.{as_f32, row_step, measure_start, beat_of_row}

pub sixth_of_twelve : to_bits binary32 (beat_of_row 1 12 5) ≡ 0x40B5_5555
unfolding beat_of_row mul_add to_bits of_bits of_int add mul div
sixth_of_twelve = refl

pub sixth_of_twelve_rounded_twice : to_bits binary32 (add binary32 (mul binary32 (as_f32 5) (row_step 12)) (measure_start 1)) ≡ 0x40B5_5556
unfolding to_bits of_bits of_int add mul div
sixth_of_twelve_rounded_twice = refl
