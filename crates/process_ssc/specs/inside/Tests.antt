-- Which entries stay, by the tests that the code makes. Definitions only.
use Rattle.std.specs.Prelude.{Bool, false, pos, negsuc, Float}
use Rattle.std.specs.Float.{inf, fin}
use Rattle.std.specs.Float.Ieee.{lt, le}
use Rattle.ieee.specs.Constants.{plus_zero}
use Rattle.picks.specs.Pick.{pick}

unfoldable pub stays_by_tests : Float → Float → Bool
stays_by_tests beat value =
    pick (le plus_zero beat)
    (pick (lt beat (inf false)) (pick (lt plus_zero value) (lt value (inf false)) false) false)
    false

-- each column by itself, with the limits that raw lists have
unfoldable pub beat_stays : Float → Bool
beat_stays beat = pick (le plus_zero beat) (le beat (fin false 1 (pos 16))) false

unfoldable pub value_stays : Float → Bool
value_stays value = pick (le (fin false 1 (negsuc 19)) value) (le value (fin false 1 (pos 30))) false
