-- The code's tests of an entry are the definition's: from 0 on, and below infinity, a number is finite. Assumes nothing.
use mathlib.Core.Path.{◌≡◌, refl}
use mathlib.Core.Bool.{Bool, true, false}
use lib.Ieee.{Float, nan, inf, fin, lt, eq, le}
use Rattle.ieee.specs.Constants.{plus_zero}
use Rattle.picks.specs.Pick.{pick}
use Rattle.process_ssc.specs.Ssc.{stays_ssc}
use Rattle.process_ssc.specs.inside.Tests.{stays_by_tests}

pub stays_by_tests_lem : (beat value : Float) → stays_by_tests beat value ≡ stays_ssc (beat, value)
unfolding stays_by_tests stays_ssc le lt eq
stays_by_tests_lem nan value = refl
stays_by_tests_lem (inf true) value = refl
stays_by_tests_lem (inf false) value = refl
stays_by_tests_lem (fin s m e) nan = go (le plus_zero (fin s m e))
  where
    go : (t : Bool) → pick t false false ≡ false
    go true = refl
    go false = refl
stays_by_tests_lem (fin s m e) (inf true) = go (le plus_zero (fin s m e))
  where
    go : (t : Bool) → pick t false false ≡ false
    go true = refl
    go false = refl
stays_by_tests_lem (fin s m e) (inf false) = go (le plus_zero (fin s m e))
  where
    go : (t : Bool) → pick t false false ≡ false
    go true = refl
    go false = refl
stays_by_tests_lem (fin s m e) (fin t n d) = go (le plus_zero (fin s m e)) (lt plus_zero (fin t n d))
  where
    go : (u v : Bool) → pick u (pick v true false) false ≡ pick u v false
    go true true = refl
    go true false = refl
    go false v = refl
