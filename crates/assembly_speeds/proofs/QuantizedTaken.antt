-- The speeds of a taken list pass the tests of what tidying is given. Assumes nothing.
use Prim.Native.Nat.{ℕ}
use mathlib.Core.Path.{◌≡◌}
use mathlib.Core.Bool.{true}
use mathlib.Core.List.{List, map}
use lib.ListN.{length-map}
use lib.Ieee.{Float}
use Rattle.rows.specs.Rows.{quantized}
use Rattle.limits.specs.declared.Kind.TheVariants.{Beat}
use Rattle.limits.specs.Numbers.{range_of, all_in}
use Rattle.tidy_speeds.specs.SpeedTidying.{speed_list_number}
use Rattle.tidy_speeds.proofs.ListTaken.{speeds-taken}
use Rattle.assembly_rows.proofs.QuantizedTaken.{quantized_beats_taken}

module _ (beats ratios delays : List Float) (units : List ℕ) (h : speed_list_number beats ratios delays units ≡ 0) where
  beats_in_lem : all_in (range_of Beat) beats ≡ true
  beats_in_lem = (speeds-taken h).beats_in

  pub speeds-pass : speed_list_number (map quantized beats) ratios delays units ≡ 0
  unfolding speed_list_number
  speeds-pass = rw (length-map beats quantized, quantized_beats_taken beats beats_in_lem) (rw beats_in_lem at h)
