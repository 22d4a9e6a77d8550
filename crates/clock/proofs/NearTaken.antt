-- A cursor from which nothing but tempos is due, and whose other numbers pass the tests of the quick way, is not refused. Assumes nothing.
use Prim.Native.Nat.{ℕ, ◌≤◌}
use mathlib.Core.Bool.{true, false}
use mathlib.Core.Path.{◌≡◌, refl, sym}
use mathlib.Core.List.{List}
use native.Mathlib.Omega.{arith}
use borrow.Author.Tests.{ltb-false, eqb-false, le-leb, ne_eqb}
use lib.Dec.{eqb}
use lib.IntN.{ℤ, pos, negsuc, nat_abs}
use lib.Signed.{lt_z}
use lib.ListN.{length}
use lib.Ieee.{Float}
use Rattle.picks.specs.Pick.{pick}
use Rattle.limits.specs.Numbers.{row_in}
use Rattle.clock_walk.specs.Quiet.{only_tempos}
use Rattle.clock_walk.proofs.PlacesWithin.{each-test, places-within}
use Rattle.rows.proofs.RowOrder.{no}
use Rattle.clock_tests.specs.CursorNumbers.{cursor_number}
use Rattle.clock_tests.proofs.CursorTaken.{cursor-taken}
use Rattle.clock.specs.declared.Cursor.{Cursor}
use Rattle.clock.specs.inside.QuickWay.{PastTempo}

last_in : (row : ℤ) → lt_z row (pos 0) ≡ false → lt_z (pos 3145728) row ≡ false → nat_abs row ≤ 3145728
last_in (pos n) h k = ltb-false 3145728 n k
last_in (negsuc n) h k = no (sym h)

-- a row from 0 on that is not above an allowed one
asked_in : (asked r : ℤ) → lt_z asked (pos 0) ≡ false → lt_z r asked ≡ false → lt_z (pos 3145727) r ≡ false → row_in asked ≡ true
unfolding row_in
asked_in (pos a) (pos r) h k l = le-leb a 3145728 (omega (arith, ltb-false r a k, ltb-false 3145727 r l))
asked_in (pos a) (negsuc r) h k l = no (sym k)
asked_in (negsuc a) r h k l = no (sym h)

-- a place that is not the first, up to the end of a list: the list is not empty
some : (place count : ℕ) → eqb place 0 ≡ false → place ≤ count → eqb count 0 ≡ false
some place count h l = ne_eqb count 0 (λ e. eqb-false place 0 h (omega arith))

module _ (tempo_beats stop_beats delay_beats warp_beats : List Float) (c : Cursor) (r : ℤ) (past : PastTempo c (length tempo_beats)) where
  pub some-tempos : eqb (length tempo_beats) 0 ≡ false
  some-tempos = some c.state.tempos (length tempo_beats) past.passed past.within

  pub near-taken : lt_z r c.asked ≡ false → only_tempos stop_beats delay_beats warp_beats c.state r ≡ true
      → cursor_number (pick (eqb (length tempo_beats) 0) 1 (length tempo_beats)) (length stop_beats) (length delay_beats) (length warp_beats) c.state c.asked ≡ 0
  near-taken later only =
      let places = places-within stop_beats delay_beats warp_beats c.state r only in
      let tests = each-test stop_beats delay_beats warp_beats c.state r only in
      rw some-tempos
      (cursor-taken (length tempo_beats) (length stop_beats) (length delay_beats) (length warp_beats) c.state c.asked past.within places.0 places.1 places.2
      (last_in c.state.row past.row_from_zero past.row_within) (rw (asked_in c.asked r past.asked_from_zero later tests.not_above) refl) past.numbers_in)
