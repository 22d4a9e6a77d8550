-- One turn of the loops over the four columns, as a turn over the entries. Assumes nothing.
use Prim.Native.Nat.{ℕ, ◌+◌, ◌≤◌, ◌<◌}
use mathlib.Core.Path.{◌≡◌, sym, ◌∙◌}
use mathlib.Core.Bool.{Bool, true, false}
use mathlib.Core.List.{List, [], ◌∷◌}
use native.Mathlib.Omega.{arith}
use lib.Dec.{ltb}
use native.Mathlib.Numerals.{add-one}
use lib.ListN.{length, drop, get_or, drop_of_length-le}
use lib.Seq.{drop-cons}
use lib.Ieee.{Float, nan}
use Rattle.picks.specs.Pick.{pick}
use Rattle.rows.specs.RowKey.{row_key_at}
use Rattle.tidy_kept.specs.Passing.{Waiting, entry_passed, still_written}
use Rattle.tidy_kept.proofs.PassTurns.{turn-writes, turn-waits, one_left, none_left}
use Rattle.tidy_speeds_entries.specs.Speed.{SpeedValue, SpeedEntry, near_speed, no_speed, speed_entries}
use Rattle.tidy_speeds_entries.specs.LaidSpeeds.{least_of}
use Rattle.tidy_speeds_entries.proofs.SpeedColumns.{many-speeds, speed-here}

module _ (beats ratios delays : List Float) (units : List ℕ) (n : ℕ) (is : n ≡ least_of (length beats) (length ratios) (length delays) (length units)) where
  abbrev es : List SpeedEntry
  es = speed_entries beats ratios delays units

  many : length es ≡ n
  many = many-speeds ratios delays units beats ∙ sym is

  module _ (s next : Waiting Float SpeedValue) (i : ℕ) (inside : i < n) (v : SpeedValue) (got : v ≡ (get_or ratios i nan, (get_or delays i nan, get_or units i 0)))
      (so : next ≡ entry_passed row_key_at near_speed s (get_or beats i nan, v)) (k : ℕ) (row : k ≡ row_key_at (get_or beats i nan)) (flag : Bool) (told : flag ≡ pick s.waits (ltb s.row k) false) where
    here : get_or es i (nan, no_speed) ≡ (get_or beats i nan, v)
    here = rw got (speed-here ratios delays units beats i (omega arith))

    pub speed-writes : flag ≡ true → still_written row_key_at near_speed s (drop i es) ≡ (s.beat, s.value) ∷ still_written row_key_at near_speed next (drop (i + 1) es)
    speed-writes = turn-writes row_key_at near_speed es s next i (get_or beats i nan, v) (nan, no_speed) (omega (arith, many)) here so k row flag told

    pub speed-waits : flag ≡ false → still_written row_key_at near_speed s (drop i es) ≡ still_written row_key_at near_speed next (drop (i + 1) es)
    speed-waits = turn-waits row_key_at near_speed es s next i (get_or beats i nan, v) (nan, no_speed) (omega (arith, many)) here so k row flag told

  -- the same where every entry is laid
  pub speed-next : (i : ℕ) (v : SpeedValue) → i < n → v ≡ (get_or ratios i nan, (get_or delays i nan, get_or units i 0)) → drop i es ≡ (get_or beats i nan, v) ∷ drop (i + 1) es
  speed-next i v h got = rw (add-one i, drop-cons es i (nan, no_speed) (omega (arith, many)), got, speed-here ratios delays units beats i (omega arith))

  pub speed-end : (i : ℕ) → n ≤ i → drop i es ≡ []
  speed-end i h = let past : length es ≤ i = omega (arith, many) in drop_of_length-le es past

  module _ (s : Waiting Float SpeedValue) (i : ℕ) (past : n ≤ i) where
    pub ends_waiting : s.waits ≡ true → still_written row_key_at near_speed s (drop i es) ≡ (s.beat, s.value) ∷ []
    ends_waiting = one_left row_key_at near_speed s es i (omega (arith, many))

    pub ends : s.waits ≡ false → still_written row_key_at near_speed s (drop i es) ≡ []
    ends = none_left row_key_at near_speed s es i (omega (arith, many))
