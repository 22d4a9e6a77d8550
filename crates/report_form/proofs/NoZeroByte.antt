-- A byte 0 has no place in the form: what it is fed to is never a whole input. It completes no number. Assumes nothing.
use mathlib.Core.Path.{◌≡◌, refl, ap}
use mathlib.Core.Bool.{Bool, true, false}
use lib.Dec.{ltb, eqb}
use Rattle.picks.specs.Pick.{pick}
use Rattle.ieee_patterns.specs.Hex.{hex_value}
use Rattle.report_form.specs.declared.Reading.{Reading}
use Rattle.report_form.specs.Form.{broken, letter_of, hex_of, unit_read, character_of, step_of, whole}
use Rattle.report_form.specs.Stores.{nothing, store_of}

same-either : {A : Type 0} (t : Bool) {x y z : A} → x ≡ z → y ≡ z → pick t x y ≡ z
same-either true e f = e
same-either false e f = f

zero-broken : (reading : Reading) → character_of reading 0 ≡ broken reading
unfolding character_of letter_of hex_of unit_read hex_value
zero-broken reading =
    same-either (eqb reading.part 0) refl
    (same-either (eqb reading.list 1) refl
    (same-either (eqb reading.list 6) (same-either (eqb reading.part 4) refl no_digit) no_digit))
  where
    no_digit : hex_of reading 0 ≡ broken reading
    no_digit = same-either (ltb reading.digits 16) refl refl

pub not_fine : (reading : Reading) → reading.fine ≡ false → whole reading ≡ false
unfolding whole
not_fine reading e = rw e

pub zero_not_whole : (reading : Reading) → whole (step_of reading 0) ≡ false
unfolding step_of
zero_not_whole reading = not_fine (step_of reading 0) (by_case reading.fine refl)
  where
    by_case : (t : Bool) → reading.fine ≡ t → (pick t (character_of reading 0) reading).fine ≡ false
    by_case true e = ap (λ (r : Reading). r.fine) (zero-broken reading)
    by_case false e = e

pub zero_no_store : (reading next : Reading) → store_of reading 0 next ≡ nothing
unfolding store_of
zero_no_store reading next = same-either next.fine refl refl
