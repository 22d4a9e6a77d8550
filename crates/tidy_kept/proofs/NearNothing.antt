-- No value is near a NaN. Assumes nothing.
use mathlib.Core.Path.{◌≡◌, refl}
use mathlib.Core.Bool.{false}
use lib.Ieee.{Float, nan, inf, fin, lt, sub, add, neg}
use Rattle.tidy_kept.specs.Near.{near_to}

pub near-nothing : (v : Float) → near_to v nan ≡ false
unfolding near_to lt sub add neg
near-nothing nan = refl
near-nothing (inf s) = refl
near-nothing (fin s m e) = refl
