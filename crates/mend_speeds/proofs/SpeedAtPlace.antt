-- The speed at a place of three columns of one length, within them or beyond. Assumes nothing.
use mathlib.Core.Path.{◌≡◌, ap, sym, ◌∙◌}
use mathlib.Core.List.{List}
use Prim.Native.Nat.{ℕ}
use lib.ListN.{length, get_or}
use lib.Ieee.{Float, nan}
use Rattle.order.specs.Entries.{entries}
use Rattle.order.proofs.Columns.{length-entries, entries-get_or}
use Rattle.tidy_speeds_entries.specs.Speed.{no_speed, speed_values}
use Rattle.mend_speeds.specs.inside.EvenValues.{EvenValues}

module _ {ratios delays : List Float} {units : List ℕ} (e : EvenValues ratios delays units) where
  pairs-long : length ratios ≡ length (entries delays units)
  pairs-long = e.delays_even ∙ sym (length-entries delays units (sym e.delays_even ∙ e.units_even))

  pub values-long : length (speed_values ratios delays units) ≡ length ratios
  values-long = length-entries ratios (entries delays units) pairs-long

  pub speed_at_place : (p : ℕ) → get_or (speed_values ratios delays units) p no_speed ≡ (get_or ratios p nan, (get_or delays p nan, get_or units p 0))
  speed_at_place p =
      entries-get_or ratios (entries delays units) p nan (nan, 0) pairs-long
      ∙ ap (λ (v : Float × ℕ). (get_or ratios p nan, v)) (entries-get_or delays units p nan 0 (sym e.delays_even ∙ e.units_even))
